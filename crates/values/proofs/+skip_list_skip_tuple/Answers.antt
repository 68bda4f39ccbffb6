-- `values::skip_list` and `values::skip_tuple` meet their contracts: each calls both with a depth that is one less, which is the measure, and each answer is a law of `Skips`.
-- Assumes nothing.
use Rattle.std.proofs.Common.{refl, ◌-◌, get_or, arith, pos_of_ne-zero}
use Rattle.grammar.specs.File.{closing}
use Rattle.values.specs.Skipping.{skip_of_number, bracket_of, Emptied}
use Rattle.values.specs.Skips.{opened-list, opened-tuple, between_none, between-stops, between-ahead, between-closed, between-deep, between-refused, between_more, between-falls}
use Rattle.values.proofs.+skip_list_skip_tuple.Goals as goal
use Rattle.values.proofs.+skip_list_skip_tuple.Goals.{skip_list-then-b-eq91, skip_list-else-b-eq91, skip_tuple-then-b-eq91, skip_tuple-else-b-eq91}

-- ---- skip_list

pub skip_list-loop-at-init : goal.skip_list-loop-at-init
skip_list-loop-at-init t c =
    between_none _ _ _ _ c.requires

pub skip_list-flat-n-requires : goal.skip_list-flat-n-requires
skip_list-flat-n-requires t c =
    c.loop-at.invariant.within

pub skip_list-returns-then-n-ge-STOP : goal.skip_list-returns-then-n-ge-STOP
skip_list-returns-then-n-ge-STOP t c =
    between-stops _ _ _ _ _ _ c.loop-at.invariant _ c.flat-n.ensures c.if-n-ge-STOP.true

pub skip_list-overflow_sub-i : goal.skip_list-overflow_sub-i
skip_list-overflow_sub-i t c =
    let a = between-ahead _ _ _ _ _ _ c.loop-at.invariant _ c.flat-n.ensures c.if-n-ge-STOP.false in omega (arith, a.0)

pub skip_list-bounds-text-i : goal.skip_list-bounds-text-i
skip_list-bounds-text-i t c =
    let a = between-ahead _ _ _ _ _ _ c.loop-at.invariant _ c.flat-n.ensures c.if-n-ge-STOP.false in omega (arith, a.0, a.1)

pub skip_list-returns-then-b-eq93 : goal.skip_list-returns-then-b-eq93
skip_list-returns-then-b-eq93 t c =
    between-closed _ _ _ _ _ _ c.loop-at.invariant _ c.flat-n.ensures c.if-n-ge-STOP.false c.if-b-eq93.true

pub skip_list-returns-then-depth-eq0 : goal.skip_list-returns-then-depth-eq0
skip_list-returns-then-depth-eq0 t c =
    rw c.stop.ensures (between-deep _ _ _ _ _ _ c.loop-at.invariant _ c.flat-n.ensures c.if-n-ge-STOP.false c.if-b-eq93.false c.if-depth-eq0.true)

pub skip_list-skip_list-e-requires : goal.skip_list-skip_list-e-requires
skip_list-skip_list-e-requires t c =
    (let d = pos_of_ne-zero c.if-depth-eq0.false in omega arith, (between-ahead _ _ _ _ _ _ c.loop-at.invariant _ c.flat-n.ensures c.if-n-ge-STOP.false).1)

pub skip_list-skip_tuple-e-requires : goal.skip_list-skip_tuple-e-requires
skip_list-skip_tuple-e-requires t c =
    (let d = pos_of_ne-zero c.if-depth-eq0.false in omega arith, (between-ahead _ _ _ _ _ _ c.loop-at.invariant _ c.flat-n.ensures c.if-n-ge-STOP.false).1)

pub skip_list-returns-then-e-ge-STOP : goal.skip_list-returns-then-e-ge-STOP
skip_list-returns-then-e-ge-STOP t c =
    let inner : Emptied (closing (bracket_of (get_or c.args.text.now (c.flat-n.result - 1) 0))) c.args.text.now c.flat-n.result (c.args.depth - 1) (skip_of_number c.if-b-eq91.e) = elim c.if-b-eq91.branch [
      | skip_list-then-b-eq91 w ↦ rw w.e-is (opened-list _ _ _ _ _ w.if-b-eq91.true w.skip_list-e.ensures)
      | skip_list-else-b-eq91 w ↦ rw w.e-is (opened-tuple _ _ _ _ _ w.if-b-eq91.false w.skip_tuple-e.ensures)
    ] in
    between-refused _ _ _ _ _ _ c.loop-at.invariant _ c.flat-n.ensures c.if-n-ge-STOP.false c.if-b-eq93.false c.if-depth-eq0.false _ refl _ inner c.if-e-ge-STOP.true

pub skip_list-loop-at-smaller : goal.skip_list-loop-at-smaller
skip_list-loop-at-smaller t c =
    let inner : Emptied (closing (bracket_of (get_or c.args.text.now (c.flat-n.result - 1) 0))) c.args.text.now c.flat-n.result (c.args.depth - 1) (skip_of_number c.if-b-eq91.e) = elim c.if-b-eq91.branch [
      | skip_list-then-b-eq91 w ↦ rw w.e-is (opened-list _ _ _ _ _ w.if-b-eq91.true w.skip_list-e.ensures)
      | skip_list-else-b-eq91 w ↦ rw w.e-is (opened-tuple _ _ _ _ _ w.if-b-eq91.false w.skip_tuple-e.ensures)
    ] in
    between-falls _ _ _ _ _ _ c.loop-at.invariant _ c.flat-n.ensures c.if-n-ge-STOP.false c.if-b-eq93.false c.if-depth-eq0.false _ refl _ inner c.if-e-ge-STOP.false

pub skip_list-loop-at-preserved : goal.skip_list-loop-at-preserved
skip_list-loop-at-preserved t c =
    let inner : Emptied (closing (bracket_of (get_or c.args.text.now (c.flat-n.result - 1) 0))) c.args.text.now c.flat-n.result (c.args.depth - 1) (skip_of_number c.if-b-eq91.e) = elim c.if-b-eq91.branch [
      | skip_list-then-b-eq91 w ↦ rw w.e-is (opened-list _ _ _ _ _ w.if-b-eq91.true w.skip_list-e.ensures)
      | skip_list-else-b-eq91 w ↦ rw w.e-is (opened-tuple _ _ _ _ _ w.if-b-eq91.false w.skip_tuple-e.ensures)
    ] in
    between_more _ _ _ _ _ _ c.loop-at.invariant _ c.flat-n.ensures c.if-n-ge-STOP.false c.if-b-eq93.false c.if-depth-eq0.false _ refl _ inner c.if-e-ge-STOP.false

-- ---- skip_tuple

pub skip_tuple-loop-at-init : goal.skip_tuple-loop-at-init
skip_tuple-loop-at-init t c =
    between_none _ _ _ _ c.requires

pub skip_tuple-flat-n-requires : goal.skip_tuple-flat-n-requires
skip_tuple-flat-n-requires t c =
    c.loop-at.invariant.within

pub skip_tuple-returns-then-n-ge-STOP : goal.skip_tuple-returns-then-n-ge-STOP
skip_tuple-returns-then-n-ge-STOP t c =
    between-stops _ _ _ _ _ _ c.loop-at.invariant _ c.flat-n.ensures c.if-n-ge-STOP.true

pub skip_tuple-overflow_sub-i : goal.skip_tuple-overflow_sub-i
skip_tuple-overflow_sub-i t c =
    let a = between-ahead _ _ _ _ _ _ c.loop-at.invariant _ c.flat-n.ensures c.if-n-ge-STOP.false in omega (arith, a.0)

pub skip_tuple-bounds-text-i : goal.skip_tuple-bounds-text-i
skip_tuple-bounds-text-i t c =
    let a = between-ahead _ _ _ _ _ _ c.loop-at.invariant _ c.flat-n.ensures c.if-n-ge-STOP.false in omega (arith, a.0, a.1)

pub skip_tuple-returns-then-b-eq125 : goal.skip_tuple-returns-then-b-eq125
skip_tuple-returns-then-b-eq125 t c =
    between-closed _ _ _ _ _ _ c.loop-at.invariant _ c.flat-n.ensures c.if-n-ge-STOP.false c.if-b-eq125.true

pub skip_tuple-returns-then-depth-eq0 : goal.skip_tuple-returns-then-depth-eq0
skip_tuple-returns-then-depth-eq0 t c =
    rw c.stop.ensures (between-deep _ _ _ _ _ _ c.loop-at.invariant _ c.flat-n.ensures c.if-n-ge-STOP.false c.if-b-eq125.false c.if-depth-eq0.true)

pub skip_tuple-skip_list-e-requires : goal.skip_tuple-skip_list-e-requires
skip_tuple-skip_list-e-requires t c =
    (let d = pos_of_ne-zero c.if-depth-eq0.false in omega arith, (between-ahead _ _ _ _ _ _ c.loop-at.invariant _ c.flat-n.ensures c.if-n-ge-STOP.false).1)

pub skip_tuple-skip_tuple-e-requires : goal.skip_tuple-skip_tuple-e-requires
skip_tuple-skip_tuple-e-requires t c =
    (let d = pos_of_ne-zero c.if-depth-eq0.false in omega arith, (between-ahead _ _ _ _ _ _ c.loop-at.invariant _ c.flat-n.ensures c.if-n-ge-STOP.false).1)

pub skip_tuple-returns-then-e-ge-STOP : goal.skip_tuple-returns-then-e-ge-STOP
skip_tuple-returns-then-e-ge-STOP t c =
    let inner : Emptied (closing (bracket_of (get_or c.args.text.now (c.flat-n.result - 1) 0))) c.args.text.now c.flat-n.result (c.args.depth - 1) (skip_of_number c.if-b-eq91.e) = elim c.if-b-eq91.branch [
      | skip_tuple-then-b-eq91 w ↦ rw w.e-is (opened-list _ _ _ _ _ w.if-b-eq91.true w.skip_list-e.ensures)
      | skip_tuple-else-b-eq91 w ↦ rw w.e-is (opened-tuple _ _ _ _ _ w.if-b-eq91.false w.skip_tuple-e.ensures)
    ] in
    between-refused _ _ _ _ _ _ c.loop-at.invariant _ c.flat-n.ensures c.if-n-ge-STOP.false c.if-b-eq125.false c.if-depth-eq0.false _ refl _ inner c.if-e-ge-STOP.true

pub skip_tuple-loop-at-smaller : goal.skip_tuple-loop-at-smaller
skip_tuple-loop-at-smaller t c =
    let inner : Emptied (closing (bracket_of (get_or c.args.text.now (c.flat-n.result - 1) 0))) c.args.text.now c.flat-n.result (c.args.depth - 1) (skip_of_number c.if-b-eq91.e) = elim c.if-b-eq91.branch [
      | skip_tuple-then-b-eq91 w ↦ rw w.e-is (opened-list _ _ _ _ _ w.if-b-eq91.true w.skip_list-e.ensures)
      | skip_tuple-else-b-eq91 w ↦ rw w.e-is (opened-tuple _ _ _ _ _ w.if-b-eq91.false w.skip_tuple-e.ensures)
    ] in
    between-falls _ _ _ _ _ _ c.loop-at.invariant _ c.flat-n.ensures c.if-n-ge-STOP.false c.if-b-eq125.false c.if-depth-eq0.false _ refl _ inner c.if-e-ge-STOP.false

pub skip_tuple-loop-at-preserved : goal.skip_tuple-loop-at-preserved
skip_tuple-loop-at-preserved t c =
    let inner : Emptied (closing (bracket_of (get_or c.args.text.now (c.flat-n.result - 1) 0))) c.args.text.now c.flat-n.result (c.args.depth - 1) (skip_of_number c.if-b-eq91.e) = elim c.if-b-eq91.branch [
      | skip_tuple-then-b-eq91 w ↦ rw w.e-is (opened-list _ _ _ _ _ w.if-b-eq91.true w.skip_list-e.ensures)
      | skip_tuple-else-b-eq91 w ↦ rw w.e-is (opened-tuple _ _ _ _ _ w.if-b-eq91.false w.skip_tuple-e.ensures)
    ] in
    between_more _ _ _ _ _ _ c.loop-at.invariant _ c.flat-n.ensures c.if-n-ge-STOP.false c.if-b-eq125.false c.if-depth-eq0.false _ refl _ inner c.if-e-ge-STOP.false
