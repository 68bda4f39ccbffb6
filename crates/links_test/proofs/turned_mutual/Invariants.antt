-- `links_test::turned_mutual` meets its contract: the units passed are turned, and what is gathered is zero where the nodes passed are mutual.
-- Assumes nothing.
use mathlib.Core.Path.{◌≡◌}
use lib.ListN.{length}
use Rattle.nodes.specs.Sets.{node_limit, empty}
use Rattle.free_test.specs.WireTests.{all_below}
use Rattle.links_test.specs.Turning.{TurnedBelow, units_mutual}
use Rattle.links_test.proofs.turned_mutual.Given as goal

abbrev pub invariant-loop-u : goal.invariant-loop-u
invariant-loop-u l = record { long : length l.turned ≡ node_limit; turned : TurnedBelow l.u l.links l.turned }

abbrev pub invariant-loop-k : goal.invariant-loop-k
invariant-loop-k l = empty l.off ≡ all_below l.k (units_mutual l.links)
