-- `launch_file::pair_at` meets its contract: the atom decides, and whether it is the own key. Assumes nothing.
use Rattle.std.proofs.Common.{sym, ◌∙◌, arith}
use Rattle.tokens.specs.Words.{same_bytes}
use Rattle.walk.specs.Walk.{part}
use Rattle.walk.specs.Unfold.{atom-ahead}
use Rattle.launch_file.specs.Pairs.{pair-stops, pair-own, pair-other}
use Rattle.launch_file.proofs.Exits.{handed_on}
use Rattle.launch_file.proofs.pair_at.Goals as goal

pub returns-in_err-name : goal.returns-in_err-name
returns-in_err-name c = rw (handed_on c.from_residual.result c.from_residual.ensures.1) (pair-stops _ _ _ _ _ (sym c.in_err-name.ensures))

pub slice_bounds-eq-count : goal.slice_bounds-eq-count
slice_bounds-eq-count c = omega (arith, (atom-ahead _ _ _ (sym c.in_ok-name.ensures)).1.0)

pub slice_bounds-eq-start : goal.slice_bounds-eq-start
slice_bounds-eq-start c = omega (arith, (atom-ahead _ _ _ (sym c.in_ok-name.ensures)).1.0)

pub slice_bounds-eq-end : goal.slice_bounds-eq-end
slice_bounds-eq-end c = omega (arith, (atom-ahead _ _ _ (sym c.in_ok-name.ensures)).1.1)

pub returns-then-eq : goal.returns-then-eq
returns-then-eq c =
    let a = c.in_ok-name.name in
    let is = same_bytes (part c.args.text.now a.from a.to) c.args.own.now ∙ sym c.eq.ensures ∙ c.if-eq.true in
    rw c.own_pair.ensures (pair-own _ _ _ _ _ (sym c.in_ok-name.ensures) is)

pub returns : goal.returns
returns c =
    let a = c.in_ok-name.name in
    let is = same_bytes (part c.args.text.now a.from a.to) c.args.own.now ∙ sym c.eq.ensures ∙ c.if-eq.false in
    pair-other _ _ _ _ _ (sym c.in_ok-name.ensures) is _ c.other_pair.ensures
