-- `launch::judged` meets its contract: the book, then the file, then the plan of its groups decide.
-- Assumes nothing.
use Rattle.std.proofs.Common.{refl, sym, ap, ◌∙◌}
use Rattle.launch_file.specs.Reading.{read_as}
use Rattle.walk.specs.Groups.{groups}
use Rattle.answers.specs.Answers.{answer_of}
use Rattle.answers.specs.declared.Value.TheVariants as Value
use Rattle.launch.specs.Launches.{by_plan}
use Rattle.launch.proofs.LaunchLaws.{no-book, no_file-at, planned, fits-few, refuses-so, makes_so}
use Rattle.launch.proofs.judged.Goals as goal

pub returns-then-not-fits : goal.returns-then-not-fits
returns-then-not-fits c =
    let both = refuses-so (no-book _ _ _ _ _ _ c.requires.in_order (sym c.fits.ensures ∙ c.if-not-fits.true)) (refl, refl) in record { result_value = both.0; result_value_2 = both.1.0; t_after = both.1.1 }

pub returns-in-Err : goal.returns-in-Err
returns-in-Err c =
    let both =
    refuses-so
    (no_file-at _ _ _ _ _ _ c.requires.in_order (sym c.fits.ensures ∙ c.if-not-fits.false) _ (c.requires.was_read ∙ ap (read_as c.args.file.now) c.in-Err.is))
    (refl, refl)
    in
    record { result_value = both.0; result_value_2 = both.1.0; t_after = both.1.1 }

pub make-requires-clause-count_few : goal.make-requires-clause-count_few
make-requires-clause-count_few c = fits-few _ _ _ _ _ (sym c.in-Ok-plan_of.is ∙ c.plan_of.ensures.value)

pub returns-in-Ok-plan_of : goal.returns-in-Ok-plan_of
returns-in-Ok-plan_of c =
    let plan =
    planned _ _ _ _ _ _ c.requires.in_order (sym c.fits.ensures ∙ c.if-not-fits.false) _ (c.requires.was_read ∙ ap (read_as c.args.file.now) c.in-Ok.is)
    ∙ ap (by_plan c.args.n c.args.hidden c.args.book.now (groups c.args.file.now c.in-Ok.g) c.args.t.now) (sym c.plan_of.ensures.value ∙ c.in-Ok-plan_of.is)
    in
    let both = makes_so _ _ _ _ _ _ c.in-Ok-plan_of.count plan c.make.ensures (c.plan_of.ensures.by_index _ c.in-Ok-plan_of.is) in
    record { result_value = both.0; result_value_2 = both.1.0; t_after = both.1.1 }

pub returns-in-Err-plan_of : goal.returns-in-Err-plan_of
returns-in-Err-plan_of c =
    let plan =
    planned _ _ _ _ _ _ c.requires.in_order (sym c.fits.ensures ∙ c.if-not-fits.false) _ (c.requires.was_read ∙ ap (read_as c.args.file.now) c.in-Ok.is)
    ∙ ap (by_plan c.args.n c.args.hidden c.args.book.now (groups c.args.file.now c.in-Ok.g) c.args.t.now) (sym c.plan_of.ensures.value ∙ c.in-Err-plan_of.is)
    in
    let both = refuses-so plan (ap (answer_of Value.Error) c.refusal_of.ensures.0, c.refusal_of.ensures.1) in
    record { result_value = both.0; result_value_2 = both.1.0; t_after = both.1.1 }
