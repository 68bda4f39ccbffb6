-- `values::next_item` meets its contract: the byte behind the white space decides, or the one behind a comma.
-- Assumes nothing.
use native.Mathlib.Omega.{arith}
use Rattle.values.specs.Items.{white-within, dark, next-cut, next-first, next-closed, next-none, next-missing, next-closes, next_more}
use Rattle.values.proofs.next_item.Goals as goal

pub stop-requires : goal.stop-requires
stop-requires c = omega (arith, c.well_formed.0.1, white-within _ _ _ c.past_white-i.ensures c.requires)

pub returns-then-text-i : goal.returns-then-text-i
returns-then-text-i c = rw c.stop.ensures (next-cut _ _ _ c.past_white-i.ensures _ _ c.requires c.if-text-i.true)

pub returns-then-opened : goal.returns-then-opened
returns-then-opened c = next-first _ _ _ c.past_white-i.ensures _ _ c.if-text-i.false (omega (arith, c.well_formed.0.1)) c.if-opened.true

pub returns-then-b-close : goal.returns-then-b-close
returns-then-b-close c =
    next-closed _ _ _ c.past_white-i.ensures _ _ c.if-text-i.false c.if-opened.false (omega (arith, c.well_formed.0.1)) c.if-b-close.true

pub returns-then-b-ne44 : goal.returns-then-b-ne44
returns-then-b-ne44 c =
    rw c.stop-then-b-ne44.ensures (next-none _ _ _ c.past_white-i.ensures _ _ c.if-text-i.false c.if-opened.false c.if-b-close.false c.if-b-ne44.true)

pub stop-requires-then-text-n : goal.stop-requires-then-text-n
stop-requires-then-text-n c =
    omega (arith, c.well_formed.0.1, white-within _ _ _ c.past_white-n.ensures (let l = c.if-text-i.false in omega arith))

pub returns-then-text-n : goal.returns-then-text-n
returns-then-text-n c =
    rw c.stop-then-text-n.ensures
    (next-missing _ _ _ c.past_white-i.ensures _ _ c.if-text-i.false c.if-opened.false c.if-b-close.false c.if-b-ne44.false _ c.past_white-n.ensures
    (white-within _ _ _ c.past_white-n.ensures (let l = c.if-text-i.false in omega arith)) c.if-text-n.true)

pub returns-then-text-n-2 : goal.returns-then-text-n-2
returns-then-text-n-2 c =
    rw c.stop-then-text-n-2.ensures
    (next-closes _ _ _ c.past_white-i.ensures _ _ c.if-text-i.false c.if-opened.false c.if-b-close.false c.if-b-ne44.false _ c.past_white-n.ensures
    c.if-text-n.false (dark _ _ _ c.past_white-n.ensures c.if-text-n.false) c.if-text-n-2.true)

pub returns : goal.returns
returns c =
    next_more _ _ _ c.past_white-i.ensures _ _ c.if-text-i.false c.if-opened.false c.if-b-close.false c.if-b-ne44.false _ c.past_white-n.ensures
    c.if-text-n.false (dark _ _ _ c.past_white-n.ensures c.if-text-n.false) (omega (arith, c.well_formed.0.1)) c.if-text-n-2.false
