-- `index_test::names_total` meets its contract. The loop's invariant: the total, with the names of the s_groups from a place on, is that of all. Assumes nothing.
use Rattle.std.specs.Prelude.{◌≡◌, true, List, ℕ, ◌+◌, ◌/◌, ◌<◌, length, get_or, take, drop}
use Rattle.std.proofs.Common.{ap, ◌∙◌, arith}
use Rattle.semantics.specs.Sizes.{names_per_group, table_words, contents_at, group_names}
use Rattle.semantics.specs.Soundness.{count_of}
use Rattle.semantics.specs.Test.{sound}
use Rattle.sound_table.specs.Here.{here, one-each, word-of}
use Rattle.indexes.specs.Index.{walk}
use Rattle.indexes.specs.WalkWords.{walk_end, walk-fits, length-walk-next}
use Rattle.index_test.proofs.names_total.Goals as goal

module _ (t : List ℕ) (long : length t ≡ table_words names_per_group) (ok : sound names_per_group t ≡ true) (ws : List ℕ)
    (lent : ws ≡ take (count_of t) (drop contents_at t)) where
  each : length ws ≡ count_of t
  each = one-each t ok long contents_at (omega arith) ws lent

  -- the word that a turn looks at counts the names of its s_group
  turn : (g : ℕ) → g < length ws
      → length (walk (drop g (here t).groups)) ≡ get_or ws g 0 / group_names + length (walk (drop (g + 1) (here t).groups))
  turn g h =
      rw (word-of t ok long contents_at (omega arith) ws lent g (omega (arith, each)))
      (length-walk-next names_per_group t ok g (omega (arith, each)))

  past : (g : ℕ) → g ≡ length ws → length (walk (drop g (here t).groups)) ≡ 0
  past g e = rw (e ∙ each) (ap length (walk_end names_per_group t ok))

pub overflow_add-total : goal.overflow_add-total
overflow_add-total c =
    omega (
      arith,
      walk-fits names_per_group c.args.t.words.now c.args.t.fit 0,
      turn c.args.t.words.now c.args.t.sized c.args.t.fit _ c.contents-contents.ensures c.loop-word.word-index c.loop-word-test.true,
      c.loop-word.invariant,
    )

pub loop-word-preserved : goal.loop-word-preserved
loop-word-preserved c =
    omega (
      arith,
      turn c.args.t.words.now c.args.t.sized c.args.t.fit _ c.contents-contents.ensures c.loop-word.word-index c.loop-word-test.true,
      c.loop-word.invariant,
    )

pub returns : goal.returns
returns c =
    omega (
      arith,
      past c.args.t.words.now c.args.t.sized c.args.t.fit _ c.contents-contents.ensures c.loop-word.word-index (omega arith),
      c.loop-word.invariant,
    )
