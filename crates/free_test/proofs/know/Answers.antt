-- `free_test::know` meets its contract: the nodes passed have their connections and themselves. Assumes nothing.
use native.Mathlib.Omega.{arith}
use lib.ListN.{length-set}
use Rattle.nodes.specs.Sets.{union}
use Rattle.nodes.proofs.Words.{shl_one}
use Rattle.free_test.specs.Knowing.{known_more}
use Rattle.free_test.proofs.know.Goals as goal

pub loop-i-preserved : goal.loop-i-preserved
unfolding union
loop-i-preserved c =
    let at = c.loop-i in
    record {
      long = simp length-set at.invariant.long;
      at = rw (shl_one at.i (omega arith)) (known_more c.args.links.now at.known at.i (omega arith) at.invariant.at);
    }
