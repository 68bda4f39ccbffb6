-- `values::flat` meets its contract: up to the place of each turn there is no bracket, and each answer is a law of `Items`.
-- Assumes nothing.
use native.Mathlib.Omega.{arith}
use Rattle.grammar.specs.File.{list, tuple}
use Rattle.values.specs.Items.{along-none, along-stops, along-inside, along-closed, along-opens, along-refused, along-more, along-falls}
use Rattle.values.proofs.flat.Goals as goal

pub loop-at-init : goal.loop-at-init
loop-at-init c = along-none _ _ _ _ c.requires

pub next_item-i-requires : goal.next_item-i-requires
next_item-i-requires c = c.loop-at.invariant.within

pub returns-then-i-ge-STOP : goal.returns-then-i-ge-STOP
returns-then-i-ge-STOP c = along-stops _ _ _ _ _ _ c.loop-at.invariant _ c.next_item-i.ensures c.if-i-ge-STOP.true

pub bounds-text-i : goal.bounds-text-i
bounds-text-i c = along-inside _ _ _ _ _ _ c.loop-at.invariant _ c.next_item-i.ensures c.if-i-ge-STOP.false

pub returns-then-b-close : goal.returns-then-b-close
returns-then-b-close c =
    along-closed _ _ _ _ _ _ c.loop-at.invariant _ c.next_item-i.ensures c.if-i-ge-STOP.false (omega (arith, c.well_formed.0.1)) c.if-b-close.true

pub returns-then-b-eq91 : goal.returns-then-b-eq91
returns-then-b-eq91 c =
    along-opens _ _ _ _ _ _ c.loop-at.invariant _ c.next_item-i.ensures c.if-i-ge-STOP.false c.if-b-close.false
    (omega (arith, c.well_formed.0.1)) list c.if-b-eq91.true

pub returns-then-b-eq123 : goal.returns-then-b-eq123
returns-then-b-eq123 c =
    along-opens _ _ _ _ _ _ c.loop-at.invariant _ c.next_item-i.ensures c.if-i-ge-STOP.false c.if-b-close.false
    (omega (arith, c.well_formed.0.1)) tuple c.if-b-eq123.true

pub plain-n-requires : goal.plain-n-requires
plain-n-requires c = along-inside _ _ _ _ _ _ c.loop-at.invariant _ c.next_item-i.ensures c.if-i-ge-STOP.false

pub returns-then-n-ge-STOP : goal.returns-then-n-ge-STOP
returns-then-n-ge-STOP c =
    along-refused _ _ _ _ _ _ c.loop-at.invariant _ c.next_item-i.ensures c.if-i-ge-STOP.false c.if-b-close.false c.if-b-eq91.false c.if-b-eq123.false _ c.plain-n.ensures
    c.if-n-ge-STOP.true

pub loop-at-smaller : goal.loop-at-smaller
loop-at-smaller c =
    along-falls _ _ _ _ _ _ c.loop-at.invariant _ c.next_item-i.ensures c.if-i-ge-STOP.false c.if-b-close.false c.if-b-eq91.false c.if-b-eq123.false _ c.plain-n.ensures
    c.if-n-ge-STOP.false

pub loop-at-preserved : goal.loop-at-preserved
loop-at-preserved c =
    along-more _ _ _ _ _ _ c.loop-at.invariant _ c.next_item-i.ensures c.if-i-ge-STOP.false c.if-b-close.false c.if-b-eq91.false c.if-b-eq123.false _ c.plain-n.ensures
    c.if-n-ge-STOP.false
