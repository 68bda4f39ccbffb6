-- `links_test::own_linked` meets its contract: what is gathered is zero where each word passed is what its node may have.
-- Assumes nothing.
use mathlib.Core.Path.{◌≡◌}
use Rattle.nodes.specs.Sets.{empty, word_at}
use Rattle.semantics.specs.Test.{linked}
use Rattle.free_test.specs.WireTests.{all_below}
use Rattle.links_test.proofs.own_linked.Given as goal

abbrev pub invariant-loop-i : goal.invariant-loop-i
invariant-loop-i l = empty l.off ≡ all_below l.i (λ k. linked l.n k (word_at l.links k))
