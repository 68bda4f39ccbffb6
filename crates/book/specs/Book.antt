-- The name book of a launch: the lines of a text, and which texts are books. Assumes nothing.
use Rattle.std.specs.Prelude.{Bool, true, not, ◌&&◌, cond, List, [], ◌∷◌, ℕ, suc, ◌+◌, ◌-◌, eqb, leb, length, get_or, take, drop, Option, Some, None}
use Rattle.text.specs.Text.{newline}
use Rattle.tokens.specs.Reserved.{same, among}

-- the bytes of the longest atom
abbrev pub longest_atom : ℕ
longest_atom = 64

-- so many group atoms a book can have
abbrev pub group_atoms : ℕ
group_atoms = 65535

-- one byte more in front of the first line; where no newline follows there is no line
abbrev pub in_front : ℕ → List (List ℕ) → List (List ℕ)
in_front b [] = []
in_front b (l ∷ ls) = (b ∷ l) ∷ ls

-- the lines of a text, each without its newline; what stands behind the last newline is no line
unfoldable pub lines : List ℕ → List (List ℕ)
lines [] = []
lines (b ∷ bs) = cond (eqb b newline) ([] ∷ lines bs) (in_front b (lines bs))

-- the last byte of a text, where it has one, is a newline
unfoldable pub ended : List ℕ → Bool
ended t = eqb (get_or t (length t - 1) newline) newline

-- every line has 1 to 64 bytes
unfoldable pub all_atoms : List (List ℕ) → Bool
all_atoms [] = true
all_atoms (l ∷ ls) = (leb 1 (length l) && leb (length l) longest_atom) && all_atoms ls

-- no line stands twice
unfoldable pub distinct : List (List ℕ) → Bool
distinct [] = true
distinct (l ∷ ls) = not (among ls l) && distinct ls

-- a book for n nodes: lines that are atoms, none of them twice, one for each node and not too many for groups
unfoldable pub fit : ℕ → List ℕ → Bool
fit n t =
    ended t
    && all_atoms (lines t)
    && distinct (lines t)
    && leb n (length (lines t))
    && leb (length (lines t)) (n + group_atoms)

-- the atoms of the nodes, in the order of the roster
abbrev pub node_atoms : ℕ → List ℕ → List (List ℕ)
node_atoms n t = take n (lines t)

-- the atoms of the groups: the first is that of group 1
abbrev pub group_atoms_of : ℕ → List ℕ → List (List ℕ)
group_atoms_of n t = drop n (lines t)

-- the place, from 0, of the first line that is an atom, or the number of lines where none is
unfoldable pub place_of : List ℕ → List (List ℕ) → ℕ
place_of a [] = 0
place_of a (l ∷ ls) = cond (same a l) 0 (suc (place_of a ls))

-- the place of an atom among lines; none where it is none of them
unfoldable pub found_among : List ℕ → List (List ℕ) → Option ℕ
found_among a ls = cond (among ls a) (Some (place_of a ls)) None

-- the number of an atom among the group atoms, from 1; none where it is none of them
unfoldable pub number_in : ℕ → List ℕ → List ℕ → Option ℕ
number_in n t a = cond (among (group_atoms_of n t) a) (Some (suc (place_of a (group_atoms_of n t)))) None
