-- `namespace_test::stands_before` meets its contract: the look back goes over the words before the one at `i`.
-- Assumes nothing.
use Rattle.std.proofs.Common.{ap, ◌∙◌, arith}
use Rattle.entries.specs.Entries.{holds_pid}
use Rattle.search.specs.Used.{entries-used}
use Rattle.namespace_test.proofs.stands_before.Goals as goal

pub returns-then-taken-clause-value : goal.returns-then-taken-clause-value
returns-then-taken-clause-value c = c.has_pid.ensures ∙ ap (holds_pid c.args.pid) (entries-used c.args.i c.args.ns.now (omega arith))
