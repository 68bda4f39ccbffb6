-- `names::replace_name` meets its contract: the words with the other pid, where the name is held.
-- Assumes nothing.
use Rattle.std.proofs.Common.{◌∙◌}
use Rattle.names.specs.NamesHere.{replaced-here}
use Rattle.names.proofs.Changes.{told-held}
use Rattle.names.proofs.replace_name.Goals as goal

pub returns-clause-value : goal.returns-clause-value
returns-clause-value c =
    λ st l w. c.is_ok.ensures.value
    ∙ told-held l c.args.at w _ _ c.own_words.ensures.start c.own_words.ensures.end c.count-count.result c.args.n c.count-count.ensures c.replace.result c.replace.ensures.value

pub returns-clause-laid : goal.returns-clause-laid
returns-clause-laid c =
    λ st l w. replaced-here l c.args.at w _ _ c.own_words.ensures.start c.own_words.ensures.end c.replace.new.ns c.replace.auto.ns c.args.n c.args.p
    (rw c.count-count.ensures at c.replace.ensures.ns_after)
