-- What the test of an index looks at: slots that tell where s_groups stand, a word among others, and rows that are right. Definitions only. Assumes nothing.
use Rattle.std.specs.Prelude.{Bool, true, false, ◌&&◌, ◌||◌, List, [], ◌∷◌, ℕ, suc, ◌%◌, eqb, ltb, set}
use Rattle.semantics.specs.State.{Group}
use Rattle.indexes.specs.Index.{Row}
use Rattle.indexes.specs.Ascending.{holds}

-- there are so many slots
abbrev pub slot_count : ℕ
slot_count = 256

-- the places of s_groups noted in the slots of their names, the first place being k
abbrev pub noted : ℕ → List Group → List ℕ → List ℕ
noted k [] slots = slots
noted k (g ∷ gs) slots = noted (suc k) gs (set slots (g.name % slot_count) k)

-- the word is one of these
unfoldable pub holds_word : ℕ → List ℕ → Bool
holds_word w [] = false
holds_word w (x ∷ xs) = eqb x w || holds_word w xs

-- keys above b, and ascending, and each row is one of ws
abbrev pub all_right : ℕ → List Row → List Row → Bool
all_right b [] ws = true
all_right b (x ∷ xs) ws = ltb b x.key && (holds x ws && all_right x.key xs ws)
