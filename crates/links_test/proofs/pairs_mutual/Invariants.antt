-- `links_test::pairs_mutual` meets its contract: each pair once is enough.
-- Assumes nothing.
use mathlib.Core.Path.{◌≡◌}
use Rattle.free_test.specs.WireTests.{all_below, both_ways}
use Rattle.links_test.proofs.pairs_mutual.Given as goal

abbrev pub invariant-loop-i : goal.invariant-loop-i
invariant-loop-i l = l.all ≡ all_below l.i (λ k. all_below k (both_ways l.links k))
