-- What reading the lists of pairs and a whole launch file answers, against the outcome of the text. Assumes nothing.
use Rattle.std.specs.Prelude.{Result, Ok, Err, ◌≡◌, Bool, true, false, cond, List, [], ℕ, ltb, length}
use Rattle.grammar.specs.File.{Group, Level, file, kernel, Here, Phase, sign, first_pair, next_pair, first_group, full_stop, comma, open_list, close_tuple, ascii, own_key, Outcome, taken, refused}
use Rattle.grammar.specs.Steps.{from}
use Rattle.walk.specs.Walk.{dark, sign_at, then_sign}
use Rattle.walk.specs.Groups.{groups}
use Rattle.walk.specs.Unfold.{IsAhead}
use Rattle.walk.specs.Atoms.{passed}
use Rattle.launch_file.specs.declared.Pair.{Pair}

-- ---- pairs

-- what is read where the own entry of a list is entered, and where the list is left
abbrev pub entered : List Group → Here
entered gs = record { level = kernel; found = false; groups = gs }

abbrev pub left : List Group → Here
left gs = record { level = file; found = true; groups = gs }

-- where the entry of a list's own pair begins, and what comes behind the list
abbrev pub entry_of : Level → Phase
entry_of file = first_pair
entry_of kernel = first_group

abbrev pub behind_list : Level → Phase
behind_list file = full_stop
behind_list kernel = sign close_tuple next_pair

-- the rest of a text behind a pair, or its refusal
abbrev pub paired : Here → List ℕ → Result Pair ℕ → Outcome
paired h t (Ok (Pair.Own n)) = from (entered h.groups) [] (entry_of h.level) t n
paired h t (Ok (Pair.Other n)) = from h [] next_pair t n
paired h t (Ok (Pair.Closed n)) = from (left h.groups) [] (behind_list h.level) t n
paired h t (Err p) = refused p

-- behind another pair the text goes on ahead; the own pair stands once, and the list ends behind it alone
abbrev pub PairOn : List ℕ → ℕ → Bool → Result Pair ℕ → Type 0
PairOn t at found (Ok (Pair.Own n)) = found ≡ false
PairOn t at found (Ok (Pair.Other n)) = IsAhead t at n
PairOn t at found (Ok (Pair.Closed n)) = found ≡ true
PairOn t at found (Err p) = Unit {0}

-- in a list with this own key, whose own pair has stood or not; in any list
abbrev pub list_of : List ℕ → Bool → Here → Type 0
list_of own found h = (own ≡ own_key h.level) × (found ≡ h.found)

abbrev pub IsAnyList : Here → Type 0
IsAnyList h = Unit {0}

-- in every such list, the text goes on behind the pair
pub record PairRead (such : Here → Type 0) (ph : Phase) (t : List ℕ) (at : ℕ) (found : Bool) (r : Result Pair ℕ) : Type 0 where
  pub goes_on : (h : Here) → such h → from h [] ph t at ≡ paired h t r
  pub on : PairOn t at found r

-- the own pair of a list, behind its key
abbrev pub own_to : Result ℕ ℕ → Result Pair ℕ
own_to (Ok n) = Ok (Pair.Own n)
own_to (Err p) = Err p

unfoldable pub own_pair : List ℕ → ℕ → ℕ → Bool → Result Pair ℕ
own_pair t at end found = cond found (Err end) (own_to (then_sign t (sign_at t at (ascii comma)) (ascii open_list)))

-- ---- lists of pairs

-- in every list with this own key: from behind its bracket to behind the bracket of its own entry, and from behind its own pair to behind the list
abbrev pub ToOwn : List ℕ → List ℕ → ℕ → Result ℕ ℕ → Type 0
ToOwn own t at r = (h : Here) → list_of own false h → from h [] first_pair t at ≡ passed (entered h.groups) (entry_of h.level) t r

abbrev pub ToEnd : List ℕ → List ℕ → ℕ → Result ℕ ℕ → Type 0
ToEnd own t at r = (h : Here) → list_of own true h → from h [] next_pair t at ≡ passed (left h.groups) (behind_list h.level) t r

-- ---- a whole file

-- behind the full stop there is white space alone
abbrev pub ending_to : List ℕ → ℕ → Result ℕ ℕ → Result ℕ ℕ
ending_to t g (Ok n) = cond (ltb (dark t n) (length t)) (Err (dark t n)) (Ok g)
ending_to t g (Err p) = Err p

unfoldable pub ending_at : List ℕ → ℕ → ℕ → Result ℕ ℕ
ending_at t at g = ending_to t g (sign_at t at 46)

-- the outcome of a file whose groups begin at a place, or that is refused in front of them
abbrev pub from_groups : List ℕ → ℕ → Outcome
from_groups t g = from (entered []) [] first_group t g

abbrev pub fronted : List ℕ → Result ℕ ℕ → Outcome
fronted t (Ok g) = from_groups t g
fronted t (Err p) = refused p

-- a file with the groups of the walk from a place on, or refused at a place
abbrev pub read_as : List ℕ → Result ℕ ℕ → Outcome
read_as t (Ok g) = taken (groups t g)
read_as t (Err p) = refused p

-- the rest of a file whose groups begin at g: where it is taken, they are those
abbrev pub RestRead : List ℕ → ℕ → Result ℕ ℕ → Type 0
RestRead t g r = (from_groups t g ≡ read_as t r) × ((k : ℕ) → r ≡ Ok k → k ≡ g)
