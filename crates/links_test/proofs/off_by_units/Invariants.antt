-- `links_test::off_by_units` meets its contract: the rows taken of the units passed are turned, and what is gathered is zero where the nodes passed are mutual.
-- Assumes nothing.
use mathlib.Core.Path.{◌≡◌}
use Prim.Native.Nat.{◌+◌, ◌*◌}
use Rattle.nodes.specs.Sets.{node_limit, empty, word_at}
use Rattle.free_test.specs.WireTests.{all_below, both_ways}
use Rattle.links_test.specs.Exchange.{unit_rows}
use Rattle.links_test.specs.Turning.{Copied}
use Rattle.links_test.proofs.off_by_units.Given as goal

abbrev pub invariant-loop-u : goal.invariant-loop-u
invariant-loop-u l = Copied 0 l.u (λ i. word_at l.turned (unit_rows * i + l.k)) l.initial.rows l.rows

abbrev pub invariant-loop-u-2 : goal.invariant-loop-u-2
invariant-loop-u-2 l = empty l.off ≡ all_below l.u (λ i. all_below node_limit (both_ways l.links (unit_rows * i + l.k)))
