-- `connecting::link` meets its contract: each of the two words gets the other node.
-- Assumes nothing.
use native.Mathlib.Omega.{arith}
use lib.ListN.{length-set}
use Rattle.connecting.specs.PairConnected.{linked}
use Rattle.connecting.proofs.link.Goals as goal

pub bounds-t-j : goal.bounds-t-j
bounds-t-j c = simp length-set (omega arith)

pub bounds-t-j-2 : goal.bounds-t-j-2
bounds-t-j-2 c = simp length-set (omega arith)

pub returns : goal.returns
returns c = λ st l.
    linked l c.args.a c.args.b c.requires.a_lt_node_limit c.requires.b_lt_node_limit c.requires.fact c.with.result c.with-2.result
    c.with.ensures c.with-2.ensures
