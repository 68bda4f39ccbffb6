-- A call on a table: the length, soundness, then the step; a refusal before the step leaves every word. The definitions of `Given` are passed on.
-- Assumes nothing.
use Rattle.std.specs.Prelude.{not, cond, List, [], ℕ, eqb, length}
use Rattle.semantics.specs.Sizes.{names_per_group, table_words}
use Rattle.commands.specs.declared.Command.{Command}
use Rattle.answers.specs.Answers.{refuses, answer_of}
use Rattle.semantics.specs.FirstReason.{first, opening_tests}
use Rattle.semantics.specs.Steps.{Result, step, opened}
use Rattle.semantics.specs.Table.{layout, state_of}
use Rattle.semantics.specs.Test.{sound}
use Rattle.answers.specs.declared.Value.TheVariants.{Ok}
use Rattle.answers.specs.declared.Reason.{Reason}
use Rattle.answers.specs.declared.Reason.TheVariants.{Done, TableLength, Unsound}
pub use Rattle.semantics.specs.Given.{Call}
unfoldable pub use Rattle.semantics.specs.Given.{refused, listed_over}

-- a step's answer and list, and the words of its next state
abbrev pub written : Result → Call
written r = record { answer = r.answer; list = r.list; table = layout names_per_group r.next }

-- why a table that does not pass is refused
abbrev pub why : List ℕ → Reason
why t = cond (eqb (length t) (table_words names_per_group)) Unsound TableLength

-- the call of a command; room is how many words the run for a list has, i is the caller
unfoldable pub call : ℕ → ℕ → Command → List ℕ → Call
call room i c t =
    cond (not (eqb (length t) (table_words names_per_group))) (refused TableLength t)
    (cond (not (sound names_per_group t)) (refused Unsound t)
    (written (step room i c (state_of names_per_group t))))

-- opening: N nodes, of which some are hidden
unfoldable pub opening : ℕ → ℕ → List ℕ → Call
opening N hidden t =
    let r : Reason = first (opening_tests (length t) N hidden) in
    cond (refuses r) (refused r t) (record { answer = answer_of Ok Done; list = []; table = layout names_per_group (opened N hidden) })
