-- What a launch is told by, and what its steps say: definitions only. Assumes nothing.
use Rattle.std.specs.Prelude.{◌≡◌, Result, Ok, Err, Bool, true, false, List, ℕ, ◌≤◌, ◌<◌, length}
use Rattle.nodes.specs.NodeSets.{node_limit, beyond}
use Rattle.answers.specs.Answers.{answer_of}
use Rattle.answers.specs.declared.Answer.{Answer}
use Rattle.answers.specs.declared.Value.TheVariants as Value
use Rattle.answers.specs.declared.Reason.{Reason}
use Rattle.answers.specs.declared.Reason.TheVariants.{Done, GroupsFull, GroupsDiffer, AtomUnknown}
use Rattle.semantics.specs.Sizes.{names_per_group, table_words}
use Rattle.semantics.specs.Call.{opening}
use Rattle.grammar.specs.File.{Group, taken, outcome}
use Rattle.walk.specs.Groups.{groups}
use Rattle.launch_file.specs.Reading.{from_groups}
use Rattle.duplicates.specs.Duplicates.{kept}
use Rattle.plan.specs.declared.Misfit.{Misfit}
use Rattle.plan.specs.declared.Misfit.TheVariants.{Clash, Unknown, TooMany}
use Rattle.launch.specs.declared.Refusal.{Refusal}
use Rattle.launch.specs.Launch.{Launch, made, launch}

-- the answer of a verdict
abbrev pub answered : Result (Unit {0}) Refusal → Answer
answered (Ok u) = answer_of Value.Ok Done
answered (Err r) = answer_of Value.Error r.reason

-- and its place
abbrev pub placed : Result (Unit {0}) Refusal → ℕ
placed (Ok u) = 0
placed (Err r) = r.place

-- the reason against groups that do not fit
abbrev pub reason_of : Misfit → Reason
reason_of Clash = GroupsDiffer
reason_of Unknown = AtomUnknown
reason_of TooMany = GroupsFull

-- Error for a reason, at a place, and every word as it was
abbrev pub refusal : Reason → ℕ → List ℕ → Launch
refusal r p t = record { answer = answer_of Value.Error r; place = p; table = t }

-- the run, the roster and its hidden nodes are in order: an opening goes through
pub record Open (N hidden : ℕ) (t : List ℕ) : Type 0 where
  pub long : length t ≡ table_words names_per_group
  pub some : 1 ≤ N
  pub few : N ≤ node_limit
  pub on : beyond hidden N ≡ false

-- and so is the starting node
pub record InOrder (N hidden start : ℕ) (t : List ℕ) : Type 0 where
  pub opens : Open N hidden t
  pub known : start < N

-- what a launch gives by the plan of the groups
abbrev pub by_plan : ℕ → ℕ → List ℕ → List Group → List ℕ → Result ℕ Misfit → Launch
by_plan N hidden book gs t (Err m) = refusal (reason_of m) 0 t
by_plan N hidden book gs t (Ok n) = record { answer = answer_of Value.Ok Done; place = 0; table = made N book (kept gs) (opening N hidden t).table }

-- ---- what a function of the launch has to show

abbrev pub Tells : Launch → Answer → ℕ → List ℕ → Type 0
Tells l a p t = (a ≡ l.answer) × ((p ≡ l.place) × (t ≡ l.table))

-- the groups of a file begin at a place: it goes on there, and is known to be whole or not
pub record Begun (file : List ℕ) (whole : Bool) (g : ℕ) : Type 0 where
  pub goes_on : outcome file ≡ from_groups file g
  pub is_file : whole ≡ true → outcome file ≡ taken (groups file g)

-- a launch that was tried in one walk: it went through from every starting node and left the table u, or it left the table as it was
pub record AtOnce (N hidden : ℕ) (book file t u : List ℕ) (r : Bool) : Type 0 where
  pub went_through : r ≡ true → (start : ℕ) → start < N → launch N hidden start book file t ≡ record { answer = answer_of Value.Ok Done; place = 0; table = u }
  pub untouched : r ≡ false → u ≡ t
