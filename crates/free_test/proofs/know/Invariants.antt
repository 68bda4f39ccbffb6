-- `free_test::know` meets its contract: the nodes passed have their connections and themselves. Assumes nothing.
use mathlib.Core.Path.{◌≡◌}
use lib.ListN.{length}
use Prim.Native.Nat.{ℕ, ◌<◌}
use Rattle.nodes.specs.Sets.{node_limit, word_at}
use Rattle.free_test.specs.Knowing.{knows}
use Rattle.free_test.proofs.know.Given as goal

abbrev pub invariant-loop-i : goal.invariant-loop-i
invariant-loop-i l = record { long : length l.known ≡ node_limit; at : (k : ℕ) → k < l.i → word_at l.known k ≡ knows l.links k }
