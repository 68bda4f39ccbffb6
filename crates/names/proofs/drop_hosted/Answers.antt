-- `names::drop_hosted` meets its contract: the words without the names of the hosts, and the number of those that are left in the contents word.
-- Assumes nothing.
use Rattle.std.proofs.Common.{◌∙◌, length, arith}
use Rattle.entries.specs.Entries.{drop_hosted}
use Rattle.entries.specs.NamespaceMeaning.{hosted_few}
use Rattle.names.specs.NamesAt.{names_at}
use Rattle.names.specs.NamesHere.{left_here, hosted-here}
use Rattle.names.proofs.drop_hosted.Goals as goal

pub overflow_sub-t : goal.overflow_sub-t
overflow_sub-t c = omega (arith, hosted_few c.name_count-count.result c.args.set c.in-Ok.kept _ c.in-Ok.ensures.value)

pub returns-in-Ok : goal.returns-in-Ok
returns-in-Ok c =
    λ st l w. rw c.name_count-count.ensures (hosted-here l c.args.at w _ _ c.own_words.ensures.start c.own_words.ensures.end c.drop_hosted.new.ns c.drop_hosted.auto.ns
    c.args.set c.in-Ok.kept (rw c.name_count-count.ensures at c.in-Ok.ensures.value) (rw c.name_count-count.ensures at c.in-Ok.ensures.ns_after))

pub returns-in_default : goal.returns-in_default
returns-in_default c =
    λ st l w. absurd (c.in_default.not-Ok (length (drop_hosted c.args.set (names_at c.args.at st)))
    (c.drop_hosted.ensures.value ∙ rw c.name_count-count.ensures (left_here l c.args.at w _ _ c.own_words.ensures.start c.own_words.ensures.end c.args.set)))
