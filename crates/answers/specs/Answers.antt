-- What document 01 says of each answer: the number and the rank of its reason, and which answers are refusals. Assumes nothing.
use Rattle.std.specs.Prelude.{◌≡◌, Bool, true, false, not, ◌||◌, cond, List, [], ◌∷◌, ℕ, zero, suc, eqb, leb}
use Rattle.answers.specs.declared.Answer.{Answer}
use Rattle.answers.specs.declared.Value.{Value}
use Rattle.answers.specs.declared.Reason.{Reason}
use Rattle.answers.specs.declared.Reason.TheVariants.{Done, TableLength, RosterSize, Unsound, CallerUnknown, GroupNameRange, NameZero, NodeUnknown, GroupUnknown, NotMember, NameTaken, PidTaken, NotRegistered, NamespaceFull, CallerOutside, GroupTaken, GroupsFull, RunShort, NoLaunchFile, GroupsDiffer, AtomUnknown, HostOutside, IndexWrong}

-- the number of a reason
abbrev pub number : Reason → ℕ
number Done = 0
number TableLength = 1
number RosterSize = 2
number Unsound = 3
number CallerUnknown = 4
number GroupNameRange = 5
number NameZero = 6
number NodeUnknown = 7
number GroupUnknown = 8
number NotMember = 9
number NameTaken = 10
number PidTaken = 11
number NotRegistered = 12
number NamespaceFull = 13
number CallerOutside = 14
number GroupTaken = 15
number GroupsFull = 16
number RunShort = 17
number NoLaunchFile = 18
number GroupsDiffer = 19
number AtomUnknown = 20
number HostOutside = 21
number IndexWrong = 22

-- the reasons in the order in which they are tested; Done, where no test holds, stands first, and HostOutside, which is said only where nothing refuses, last
abbrev pub order : List Reason
order =
    Done ∷ TableLength ∷ RosterSize ∷ Unsound ∷ IndexWrong ∷ CallerUnknown ∷ GroupNameRange ∷ NameZero ∷ NodeUnknown ∷ NoLaunchFile ∷ GroupsDiffer ∷ AtomUnknown
    ∷ GroupUnknown ∷ NotMember ∷ NameTaken ∷ PidTaken ∷ NotRegistered ∷ NamespaceFull ∷ CallerOutside ∷ GroupTaken ∷ GroupsFull ∷ RunShort
    ∷ HostOutside ∷ []

-- whether a reason is one of 01's own; those of 02 stand out of the order of their numbers
abbrev pub of_01 : Reason → Bool
of_01 r = leb (number r) (number RunShort)

-- how many reasons of the list stand before r
abbrev pub before : Reason → List Reason → ℕ
before r [] = zero
before r (q ∷ qs) = cond (eqb (number q) (number r)) zero (suc (before r qs))

-- the rank of a reason: of two that hold, the one of lower rank is given
abbrev pub rank : Reason → ℕ
rank r = before r order

-- whether r is one of these reasons
abbrev pub among : Reason → List Reason → Bool
among r [] = false
among r (q ∷ qs) = eqb (number q) (number r) || among r qs

-- whether a call is refused under a reason: under all but 0 and 21
abbrev pub refuses : Reason → Bool
refuses r = not (among r (Done ∷ HostOutside ∷ []))

-- whether a reason is tested after the inputs of a command: GroupUnknown is the first of these
abbrev pub after_inputs : Reason → Bool
after_inputs r = leb (rank GroupUnknown) (rank r)

-- a value and a reason as an answer
abbrev pub answer_of : Value → Reason → Answer
answer_of v r = record { value = v; reason = r }

-- the answer is a refusal
abbrev pub Refused : Answer → Type 0
Refused a = refuses a.reason ≡ true
