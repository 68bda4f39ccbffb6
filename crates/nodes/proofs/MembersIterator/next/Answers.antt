-- The walk over a set goes on: fewer nodes are left. Assumes nothing.
use Prim.Native.Nat.{◌<◌}
use native.Mathlib.Omega.{arith}
use Rattle.nodes.specs.Sets.{rest}
use Rattle.nodes.proofs.LowestNode.{rest-less}
use Rattle.nodes.proofs.MembersIterator.next.Goals as goal

pub returns-clause-goes : goal.returns-clause-goes
returns-clause-goes c =
    let left = c.args.self.now.0 in
    let less : rest left < left = rest-less left (omega arith) (omega arith) in
    record { on = λ _. (tt, tt, omega (arith, less, c.rest-self.ensures)); keeps = tt; rests = λ _. tt }
