-- `print::put_bytes` meets its contract: all of s behind what was there is what is left of s behind what is there now.
-- Assumes nothing.
use Rattle.std.proofs.Common.{sym, ◌∙◌}
use Rattle.print.specs.Putting.{put-turn, put-end}
use Rattle.print.proofs.put_bytes.Goals as goal

pub loop-b-preserved : goal.loop-b-preserved
loop-b-preserved c = c.loop-b.invariant ∙ put-turn _ _ _ _ c.loop-b-test.true c.put_byte-next.ensures

pub returns : goal.returns
returns c = sym (c.loop-b.invariant ∙ put-end _ _ _ c.loop-b-test.false)
