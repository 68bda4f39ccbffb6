-- What opening has to give, for the reason that is given. Definitions only. Assumes nothing.
use Rattle.std.specs.Prelude.{◌≡◌, true, false, cond, List, [], ℕ}
use Rattle.nodes.specs.NodeSets.{has}
use Rattle.answers.specs.Answers.{refuses, answer_of}
use Rattle.answers.specs.declared.Value.TheVariants.{Ok, Error}
use Rattle.answers.specs.declared.Reason.{Reason}
use Rattle.semantics.specs.Sizes.{names_per_group}
use Rattle.semantics.specs.Soundness.{Sound}
use Rattle.semantics.specs.Given.{Call}
use Rattle.published.specs.Published.{Opening}
use Rattle.published.specs.Seen.{seen_table}

-- what opening gives, for the reason: Ok, and a sound table with that state; or Error, and the table as it was
pub record Opens (r : Reason) (N hidden : ℕ) (t : List ℕ) (c : Call) : Type 0 where
  pub answer_is : c.answer ≡ answer_of (cond (refuses r) Error Ok) r
  pub no_list : c.list ≡ []
  pub accepted : refuses r ≡ false → Sound names_per_group c.table × (seen_table c.table ≡ Opening N (has hidden))
  pub left : refuses r ≡ true → c.table ≡ t
