-- `launch_report::Atoms::put_members` meets its contract: the atoms of the nodes that are left are still to be put.
-- Assumes nothing.
use Rattle.print.specs.Puts.{leaves_less, leaves_none}
use Rattle.launch_report.specs.Telling.{members_turn, members_end}
use Rattle.launch_report.proofs.Atoms.put_members.Goals as goal

pub loop-node-preserved : goal.loop-node-preserved
loop-node-preserved c = leaves_less c.loop-node.invariant (members_turn _ _ _ c.loop-node-test.true) c.put_member.ensures

pub returns : goal.returns
returns c = leaves_none c.loop-node.invariant (members_end _ _ _ c.loop-node-test.false)
