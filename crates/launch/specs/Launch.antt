-- A launch: the answer, the place and the table that document 02, request 1, gives for a roster, a book, a starting node and a file. Definitions only.
-- Assumes nothing.
use Rattle.std.specs.Prelude.{Bool, true, false, not, ◌&&◌, ◌||◌, cond, List, [], ◌∷◌, ℕ, eqb, ltb, length, get_or}
use Rattle.nodes.specs.NodeSets.{node_limit, beyond}
use Rattle.nodes.specs.Sets.{lowest}
use Rattle.answers.specs.Answers.{refuses, among, answer_of}
use Rattle.answers.specs.declared.Answer.{Answer}
use Rattle.answers.specs.declared.Value.TheVariants.{Ok, Error}
use Rattle.answers.specs.declared.Reason.{Reason}
use Rattle.answers.specs.declared.Reason.TheVariants.{Done, TableLength, RosterSize, NodeUnknown, GroupsFull, NoLaunchFile, GroupsDiffer, AtomUnknown}
use Rattle.commands.specs.declared.Command.TheVariants.{NewSGroup}
use Rattle.semantics.specs.Sizes.{group_limit, names_per_group, table_words}
use Rattle.semantics.specs.FirstReason.{Test, ◌when◌, first}
use Rattle.semantics.specs.Call.{call, opening}
use Rattle.grammar.specs.File.{Group, Outcome, taken, refused, outcome}
use Rattle.book.specs.Book.{lines, fit}
use Rattle.duplicates.specs.Duplicates.{kept, clash}
use Rattle.plan.specs.Plan.{number_of, set_of, all_listed}

-- what a launch gives
pub record Launch : Type 0 where
  pub answer : Answer
  pub place : ℕ
  pub table : List ℕ

-- the groups of a file
abbrev pub found : Outcome → List Group
found (taken gs) = gs
found (refused p) = []

-- whether a text is no file
abbrev pub no_file : Outcome → Bool
no_file (taken gs) = false
no_file (refused p) = true

-- and the place where it stops being one
abbrev pub stopped : Outcome → ℕ
stopped (taken gs) = 0
stopped (refused p) = p

-- the tests of a launch, in the order of document 02, in a run of so many words: N nodes, of which those of the set `hidden` are hidden, the starting node, the
-- book, and what the file is
abbrev pub launch_tests : ℕ → ℕ → ℕ → ℕ → List ℕ → Outcome → List Test
launch_tests run N hidden start book file =
    TableLength when not (eqb run (table_words names_per_group)) ∷ RosterSize when (eqb N 0 || ltb node_limit N)
    ∷ NodeUnknown when (beyond hidden N || not (ltb start N)) ∷ NoLaunchFile when (not (fit N book) || no_file file)
    ∷ GroupsDiffer when clash (found file) (get_or (lines book) start []) ∷ AtomUnknown when not (all_listed N book (kept (found file)))
    ∷ GroupsFull when ltb group_limit (length (kept (found file))) ∷ []

-- the place of a refusal: that of the file, where it is the file that is refused, and otherwise 0
abbrev pub place_of_refusal : Reason → ℕ → List ℕ → Outcome → ℕ
place_of_refusal r N book file = cond (among r (NoLaunchFile ∷ []) && fit N book) (stopped file) 0

-- the table after each of the groups was made by its lowest member, one after another
unfoldable pub made : ℕ → List ℕ → List Group → List ℕ → List ℕ
made N book [] t = t
made N book (g ∷ gs) t = made N book gs (call 0 (lowest (set_of N book g)) (NewSGroup (number_of N book g) (set_of N book g)) t).table

-- a launch: refused, or the table is opened and the kept groups are made in the order of the file
unfoldable pub launch : ℕ → ℕ → ℕ → List ℕ → List ℕ → List ℕ → Launch
launch N hidden start book file t =
    let r : Reason = first (launch_tests (length t) N hidden start book (outcome file)) in
    cond (refuses r)
    (record { answer = answer_of Error r; place = place_of_refusal r N book (outcome file); table = t })
    (record { answer = answer_of Ok Done; place = 0; table = made N book (kept (found (outcome file))) (opening N hidden t).table })
