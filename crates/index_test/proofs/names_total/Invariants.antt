-- `index_test::names_total` meets its contract. The loop's invariant: the total, with the names of the s_groups from a place on, is that of all. Assumes nothing.
use mathlib.Core.Path.{◌≡◌}
use Prim.Native.Nat.{◌+◌}
use lib.ListN.{length, drop}
use Rattle.semantics.specs.Sizes.{names_per_group}
use Rattle.semantics.specs.Table.{state_of}
use Rattle.indexes.specs.Index.{walk}
use Rattle.index_test.proofs.names_total.Given as goal

abbrev pub invariant-loop-word : goal.invariant-loop-word
invariant-loop-word l =
    l.total + length (walk (drop l.word-index (state_of names_per_group l.t.words.now).groups)) ≡ length (walk (state_of names_per_group l.t.words.now).groups)
