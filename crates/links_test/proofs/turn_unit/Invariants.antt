-- `links_test::turn_unit` meets its contract: the rows passed are copied, turned by three rounds, and the turned rows passed are copied back.
-- Assumes nothing.
use Prim.Native.Nat.{◌+◌}
use Rattle.nodes.specs.Sets.{word_at}
use Rattle.links_test.specs.Turning.{Copied}
use Rattle.links_test.proofs.turn_unit.Given as goal

abbrev pub invariant-loop-k : goal.invariant-loop-k
invariant-loop-k l = Copied 0 l.k (λ i. word_at l.links (l.start + i)) l.initial.rows l.rows

abbrev pub invariant-loop-k-2 : goal.invariant-loop-k-2
invariant-loop-k-2 l = Copied l.start l.k (word_at l.rows) l.initial.turned l.turned
