-- The order of reasons of calls with an index: the tests before the step ascend by rank, and those of every command stand behind them. So the reason that
-- is given is the lowest that holds. Assumes nothing.
use Rattle.std.specs.Prelude.{◌≡◌, refl, Bool, true, List, [], ◌∷◌, ◌++◌, ℕ}
use Rattle.answers.specs.Answers.{rank}
use Rattle.semantics.specs.Test.{ascending}
use Rattle.semantics.specs.FirstReason.{◌when◌, first}
use Rattle.commands.specs.declared.Command.{Command}
use Rattle.commands.specs.declared.Command.TheVariants.{RegisterName, ReRegisterName, UnregisterName, RegisteredNames, WhereisName, WhereisNameAt, Send, SendName, SendAt, NewSGroup, AddNodes, RemoveNodes, DeleteSGroup, OwnNodes, OwnSGroups}
use Rattle.answers.specs.declared.Reason.TheVariants.{NodeUnknown, RunShort, IndexWrong}
use Rattle.indexes.specs.IndexCalls.{misfit, no_table, no_index, opening_tests}
use Rattle.published.specs.Published.{Published}
use Rattle.published.specs.Refusals.{Lowest, tests}
use Rattle.published.proofs.LowestReason.{ranks, first-lowest}

-- before the step: 1, 3, 22
pub index-lowest : (t x : List ℕ) → Lowest (no_index t x) (first (no_index t x))
index-lowest t x = first-lowest 0 (no_index t x) refl

-- the reasons of each command stand behind 22
pub behind-22 : (room : ℕ) (c : Command) (ni : ℕ) (X : Published) → ascending (rank IndexWrong) (ranks (tests room c ni X)) ≡ true
unfolding tests
behind-22 room (RegisterName s n p) ni X = refl
behind-22 room (ReRegisterName s n p) ni X = refl
behind-22 room (UnregisterName s n) ni X = refl
behind-22 room (WhereisName s n) ni X = refl
behind-22 room (RegisteredNames s) ni X = refl
behind-22 room (AddNodes s set) ni X = refl
behind-22 room (NewSGroup s set) ni X = refl
behind-22 room (WhereisNameAt ni' s n) ni X = refl
behind-22 room (SendAt ni' s n) ni X = refl
behind-22 room (Send p) ni X = refl
behind-22 room (SendName s n) ni X = refl
behind-22 room (RemoveNodes s set) ni X = refl
behind-22 room (DeleteSGroup s) ni X = refl
behind-22 room OwnNodes ni X = refl
behind-22 room OwnSGroups ni X = refl

-- opening: 1, 2, 22, 7
pub opening-index-lowest : (N hidden : ℕ) (t x : List ℕ) → Lowest (opening_tests N hidden t x) (first (opening_tests N hidden t x))
opening-index-lowest N hidden t x = first-lowest 0 (opening_tests N hidden t x) refl

-- writing: 1, 3, 22
pub writing-lowest : (t x : List ℕ) → Lowest (no_table t ++ (misfit x ∷ [])) (first (no_table t ++ (misfit x ∷ [])))
writing-lowest t x = first-lowest 0 (no_table t ++ (misfit x ∷ [])) refl

-- reading by pid: 1, 3, 22, 7, 17
pub reading_lowest : (t x : List ℕ) (off short : Bool) → let ts = no_index t x ++ (NodeUnknown when off ∷ RunShort when short ∷ []) in Lowest ts (first ts)
reading_lowest t x off short = first-lowest 0 (no_index t x ++ (NodeUnknown when off ∷ RunShort when short ∷ [])) refl
