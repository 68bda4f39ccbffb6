-- `indexed::is_right` meets its contract: the length, then the test of the whole runs. Assumes nothing.
use borrow.Author.Rules.{part_to_end}
use Rattle.indexed.specs.Reasons.{index_short}
use mathlib.Core.Path.{sym}
use Rattle.indexed.proofs.is_right.Goals as goal

pub returns : goal.returns
returns c = sym (index_short c.args.table.words.now c.args.index.now c.args.table.fit c.if-index-eq-INDEX_WORDS.false)
