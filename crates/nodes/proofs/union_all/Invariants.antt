-- `nodes::union_all` meets its contract: what is gathered is the union of the words passed. Assumes nothing.
use mathlib.Core.Path.{◌≡◌}
use lib.ListN.{take}
use Rattle.nodes.specs.Sets.{union_all}
use Rattle.nodes.proofs.union_all.Given as goal

abbrev pub invariant-loop-word : goal.invariant-loop-word
invariant-loop-word l = l.all ≡ union_all (take l.word-index l.word-items)
