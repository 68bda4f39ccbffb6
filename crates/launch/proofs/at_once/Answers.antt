-- `launch::at_once` meets its contract: the book is fit, one walk gathered the groups, and the file is whole; otherwise nothing was written.
-- Assumes nothing.
use Rattle.std.proofs.Common.{sym, ◌∙◌}
use Rattle.launch.proofs.LaunchLaws.{fits-few, not-at-once, made-at-once}
use Rattle.launch.proofs.at_once.Goals as goal

pub returns-then-not-fit : goal.returns-then-not-fit
returns-then-not-fit c = not-at-once

pub returns-then-not-ended : goal.returns-then-not-ended
returns-then-not-ended c = not-at-once

pub make-requires-clause-count_few : goal.make-requires-clause-count_few
make-requires-clause-count_few c = fits-few _ _ 0 _ _ (sym (c.in-Some.ensures.fits 0))

pub returns : goal.returns
returns c =
    let P = c.in-Some.ensures in
    let b = sym c.fit.ensures.0 ∙ c.if-not-fit.false in
    let w = c.ended.ensures _ P.past c.requires.begun c.if-not-ended.false in
    made-at-once _ _ _ _ _ _ _ _ _ _ c.requires.fact b w P c.make.ensures
