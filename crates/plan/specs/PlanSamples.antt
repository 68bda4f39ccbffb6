-- What is to be made of groups: samples. Assumes nothing.
use Rattle.std.specs.Prelude.{◌≡◌, refl, Ok, Err, List, [], ◌∷◌, ℕ}
use Prim.Native.String.{String}
use Rattle.nodes.specs.Sets.{union}
use Rattle.tokens.specs.Reserved.{bytes, among}
use Rattle.grammar.specs.File.{Group}
use Rattle.book.specs.Book.{lines, place_of}
use Rattle.plan.specs.Plan.{set_with, all_listed, plan_words, fitting, verdict}
use Rattle.plan.specs.declared.Misfit.TheVariants.{Clash, Unknown}

-- two nodes, x and y, and two group atoms, a and b
abbrev book : List ℕ
book = 120 ∷ 10 ∷ 121 ∷ 10 ∷ 97 ∷ 10 ∷ 98 ∷ 10 ∷ []

abbrev names : List String → List (List ℕ)
names [] = []
names (n ∷ ns) = bytes n ∷ names ns

abbrev group : String → List String → Group
group n ns = record { name = bytes n; nodes = names ns }

-- b is group 2, a is group 1; node y is 2, both are 3
pub sample-words : plan_words 2 book (group "b" ("y" ∷ []) ∷ group "a" ("y" ∷ "x" ∷ []) ∷ []) ≡ 2 ∷ 2 ∷ 1 ∷ 3 ∷ []
unfolding plan_words set_with lines place_of union
sample-words = refl

pub sample-fits : verdict 2 book 0 (group "b" ("y" ∷ []) ∷ group "a" ("y" ∷ "x" ∷ []) ∷ group "b" ("y" ∷ "y" ∷ []) ∷ []) ≡ Ok 2
unfolding verdict fitting all_listed lines among
sample-fits = refl

-- an atom of a node is none of a group, nor the other way round
pub sample_unknown : (verdict 2 book 0 (group "x" ("y" ∷ []) ∷ []) ≡ Err Unknown) × (verdict 2 book 0 (group "a" ("b" ∷ []) ∷ []) ≡ Err Unknown)
unfolding verdict fitting all_listed lines among
sample_unknown = (refl, refl)

-- unequal ones clash where the starting node is in one of them, before an unknown atom is; where it is in none they are left out, unknown or not
pub sample_clash :
    (verdict 2 book 0 (group "q" ("x" ∷ []) ∷ group "q" ("z" ∷ []) ∷ []) ≡ Err Clash)
    × (verdict 2 book 1 (group "q" ("x" ∷ []) ∷ group "q" ("z" ∷ []) ∷ []) ≡ Ok 0)
unfolding verdict fitting all_listed lines among
sample_clash = (refl, refl)
