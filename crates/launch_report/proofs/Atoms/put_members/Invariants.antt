-- `launch_report::Atoms::put_members` meets its contract: the atoms of the nodes that are left are still to be put.
-- Assumes nothing.
use Rattle.std.proofs.Common.{◌-◌}
use Rattle.nodes.specs.NodeSets.{node_limit}
use Rattle.print.specs.Puts.{Leaves}
use Rattle.launch_report.specs.Launched.{members_from}
use Rattle.launch_report.proofs.Atoms.put_members.Given as goal

abbrev pub invariant-loop-node : goal.invariant-loop-node
invariant-loop-node l =
    Leaves l.initial.printer l.printer (members_from node_limit 0 l.self.book.now l.set) (members_from (node_limit - l.node) l.node l.self.book.now l.set)
