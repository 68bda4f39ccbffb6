-- `sgroup_launch::put_report` meets its contract: by whether the launch is refused.
use Rattle.std.proofs.Common.{sym, ap, ◌∙◌}
use denote.Enum.Bare.{same_true, same_false}
use Rattle.answers.specs.contracts.Reason.{the_type}
use Rattle.launch.specs.Launch.{Launch}
use Rattle.sgroup_launch.specs.Reported.{same-launch, either_way, through, refused}
use Rattle.sgroup_launch.proofs.put_report.Goals as goal

pub returns-then-eq : goal.returns-then-eq
returns-then-eq c =
    let l = c.launch-launched.ensures in
    let s = same-launch c.args.asked _ _ _ c.front.ensures in
    through _ c.args.asked _ _ _ _ (l.answer_value ∙ ap (λ (x : Launch). x.answer) s) _ _ _ (same_true the_type tt _ _ (sym c.eq.ensures ∙ c.if-eq.true)) _ (l.t_after ∙ ap (λ (x : Launch). x.table) s) c.put_launched.ensures

pub returns : goal.returns
returns c =
    let l = c.launch-launched.ensures in
    let q = c.put_refusal in
    let s = same-launch c.args.asked _ _ _ c.front.ensures in
    refused _ c.args.asked _ _ _ _ (l.answer_value ∙ ap (λ (x : Launch). x.answer) s) c.args.out.now q.new.out q.result (same_false the_type _ _ (sym c.eq.ensures ∙ c.if-eq.false)) (either_way _ _ _) _
    (l.place_value ∙ ap (λ (x : Launch). x.place) s) q.ensures
