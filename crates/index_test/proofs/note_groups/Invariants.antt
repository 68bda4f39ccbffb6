-- `index_test::note_groups` meets its contract. The loop's invariant: with the s_groups from g on noted too, the slots are as they are to be. Assumes nothing.
use mathlib.Core.Path.{◌≡◌}
use lib.ListN.{length, drop}
use Rattle.semantics.specs.Sizes.{names_per_group}
use Rattle.semantics.specs.Table.{state_of}
use Rattle.index_test.specs.Right.{slot_count, noted}
use Rattle.index_test.proofs.note_groups.Given as goal

abbrev pub invariant-loop-g : goal.invariant-loop-g
invariant-loop-g l = record {
  long : length l.slots ≡ slot_count;
  noted : noted l.g (drop l.g (state_of names_per_group l.t.words.now).groups) l.slots ≡ noted 0 (state_of names_per_group l.t.words.now).groups l.initial.slots;
}
