-- `links_test::row_mutual` meets its contract: the lowest digit of what is gathered is 0 where the connections with each node passed are mutual.
-- Assumes nothing.
use mathlib.Core.Path.{◌≡◌}
use Rattle.free_test.specs.WireTests.{all_below, both_ways}
use Rattle.links_test.specs.Mutual.{even}
use Rattle.links_test.proofs.row_mutual.Given as goal

abbrev pub invariant-loop-j : goal.invariant-loop-j
invariant-loop-j l = even l.off ≡ all_below l.j (both_ways l.links l.i)
