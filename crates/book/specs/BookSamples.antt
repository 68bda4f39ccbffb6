-- Books, and texts that are none. Assumes nothing.
use Rattle.std.specs.Prelude.{◌≡◌, refl, true, false, List, [], ◌∷◌, ◌++◌, ℕ}
use Rattle.text.specs.Text.{newline}
use Rattle.tokens.specs.Reserved.{bytes, among}
use Rattle.book.specs.Book.{lines, ended, all_atoms, distinct, fit, node_atoms, group_atoms_of, place_of}

-- a line of a book
line : List ℕ → List ℕ
line a = a ++ (newline ∷ [])

-- a node atom and a group atom
two : List ℕ
two = line (bytes "n@h") ++ line (bytes "g")

empty-book : fit 0 [] ≡ true
unfolding fit lines ended all_atoms distinct
empty-book = refl

no-node-in-it : fit 1 [] ≡ false
unfolding fit lines ended all_atoms distinct
no-node-in-it = refl

two-lines : lines two ≡ bytes "n@h" ∷ bytes "g" ∷ []
unfolding lines two line
two-lines = refl

two-lines-fit : fit 1 two ≡ true
unfolding fit lines ended all_atoms distinct among two line
two-lines-fit = refl

-- a node atom is none of the group atoms, whose places are from 0 again
its_places : (place_of (bytes "n@h") (node_atoms 1 two) ≡ 0) × (place_of (bytes "n@h") (group_atoms_of 1 two) ≡ 1) × (place_of (bytes "g") (group_atoms_of 1 two) ≡ 0)
unfolding lines place_of two line
its_places = (refl, refl, refl)

a-line-twice : fit 1 (line (bytes "n@h") ++ line (bytes "n@h")) ≡ false
unfolding fit lines ended all_atoms distinct among line
a-line-twice = refl

an-empty-line : fit 1 (line (bytes "n@h") ++ line []) ≡ false
unfolding fit lines ended all_atoms distinct among line
an-empty-line = refl

-- what no newline ends is no line, and the text no book
not_ended : (lines (line (bytes "n@h") ++ bytes "g") ≡ bytes "n@h" ∷ []) × (fit 1 (line (bytes "n@h") ++ bytes "g") ≡ false)
unfolding fit lines ended line
not_ended = (refl, refl)
