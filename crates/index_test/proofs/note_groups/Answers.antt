-- `index_test::note_groups` meets its contract. The loop's invariant: with the s_groups from g on noted too, the slots are as they are to be. Assumes nothing.
use Rattle.std.specs.Prelude.{◌≡◌, true, List, ℕ, ◌+◌, ◌%◌, ◌≤◌, ◌<◌, length, get_or, take, drop, set}
use Rattle.std.proofs.Common.{sym, ◌∙◌, arith}
use lib.ListN.{length-set}
use Rattle.semantics.specs.Sizes.{group_limit, names_per_group, table_words, contents_at, group_names}
use Rattle.semantics.specs.Soundness.{count_of}
use Rattle.semantics.specs.Test.{sound}
use Rattle.sound_table.specs.Here.{here, groups_few, one-each, word-of}
use Rattle.index_test.specs.Right.{slot_count, noted}
use Rattle.index_test.specs.Named.{noted-next, noted-end}
use Rattle.index_test.proofs.note_groups.Goals as goal

module _ (t : List ℕ) (long : length t ≡ table_words names_per_group) (ok : sound names_per_group t ≡ true) (ws : List ℕ)
    (lent : ws ≡ take (count_of t) (drop contents_at t)) where
  each : length ws ≡ count_of t
  each = one-each t ok long contents_at (omega arith) ws lent

  few : length ws ≤ group_limit
  few = omega (arith, each, groups_few t ok)

  -- a turn notes the s_group at g
  turn : (g : ℕ) (slots : List ℕ) → g < length ws
      → noted g (drop g (here t).groups) slots ≡ noted (g + 1) (drop (g + 1) (here t).groups) (set slots (get_or ws g 0 % group_names % slot_count) g)
  turn g slots h =
      rw (word-of t ok long contents_at (omega arith) ws lent g (omega (arith, each)))
      (noted-next t ok g slots (omega (arith, each)))

  past : (g : ℕ) (slots : List ℕ) → g ≡ length ws → noted g (drop g (here t).groups) slots ≡ slots
  past g slots e = rw (e ∙ each) (noted-end t ok slots)

pub overflow_cast-slots : goal.overflow_cast-slots
overflow_cast-slots c = omega (arith, few c.args.t.words.now c.args.t.sized c.args.t.fit _ c.contents-word-items.ensures)

pub loop-g-preserved : goal.loop-g-preserved
loop-g-preserved c = record {
  long = length-set c.loop-g.slots _ c.loop-g.g ∙ c.loop-g.invariant.long;
  noted = rw c.group_name-s.ensures (sym (turn c.args.t.words.now c.args.t.sized c.args.t.fit _ c.contents-word-items.ensures c.loop-g.g c.loop-g.slots c.loop-g-test.true)) ∙ c.loop-g.invariant.noted;
}

pub returns : goal.returns
returns c =
    sym (past c.args.t.words.now c.args.t.sized c.args.t.fit _ c.contents-word-items.ensures c.loop-g.g c.loop-g.slots (omega arith)) ∙ c.loop-g.invariant.noted
