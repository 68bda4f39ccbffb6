-- `position::column` meets its contract: the rule has been followed at each byte in front.
-- Assumes nothing.
use Rattle.std.proofs.Common.{◌≡◌, ◌≤◌, ◌+◌, take}
use Rattle.position.specs.Position.{next_column, behind}
use Rattle.position.proofs.column.Given as goal

abbrev pub invariant-loop-b : goal.invariant-loop-b
invariant-loop-b l = (l.n ≤ l.b-index + 1) × (l.n ≡ behind next_column 1 (take l.b-index l.before))
