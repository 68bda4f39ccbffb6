-- `launch::launch` meets its contract: the run, the roster and the nodes are tested; then the launch goes through in one walk, or the file is read to its end and
-- judged.
-- Assumes nothing.
use mathlib.Core.Path.{sym, ap, ◌∙◌}
use mathlib.Core.Bool.{false≢true}
use Rattle.launch_file.specs.Reading.{fronted, read_as}
use Rattle.launch.proofs.LaunchLaws.{length-wrong, nobody, too_many, hidden-beyond, start-beyond, refuses-so, tells-through, tells-so, front-of, rest-of, read_whole, told_of}
use Rattle.launch.proofs.launch.Goals as goal

pub returns-then-t-ne-TABLE_WORDS : goal.returns-then-t-ne-TABLE_WORDS
returns-then-t-ne-TABLE_WORDS c = let both = refuses-so (length-wrong _ _ _ _ _ _ c.if-t-ne-TABLE_WORDS.true) c.refused_at.ensures in record { answer_value = both.0; place_value = both.1.0; t_after = both.1.1 }

pub returns-then-n-lt1 : goal.returns-then-n-lt1
returns-then-n-lt1 c = let both = refuses-so (nobody _ _ _ _ _ _ c.if-t-ne-TABLE_WORDS.false c.if-n-lt1.true) c.refused_at-then-n-lt1.ensures in record { answer_value = both.0; place_value = both.1.0; t_after = both.1.1 }

pub returns-then-n-gt-NODE_LIMIT : goal.returns-then-n-gt-NODE_LIMIT
returns-then-n-gt-NODE_LIMIT c = let both = refuses-so (too_many _ _ _ _ _ _ c.if-t-ne-TABLE_WORDS.false c.if-n-lt1.false c.if-n-gt-NODE_LIMIT.true) c.refused_at-then-n-gt-NODE_LIMIT.ensures in record { answer_value = both.0; place_value = both.1.0; t_after = both.1.1 }

pub returns-then-beyond : goal.returns-then-beyond
returns-then-beyond c =
    let both = refuses-so (hidden-beyond _ _ _ _ _ _ c.if-t-ne-TABLE_WORDS.false c.if-n-lt1.false c.if-n-gt-NODE_LIMIT.false (sym c.beyond.ensures ∙ c.if-beyond.true)) c.refused_at-then-beyond.ensures in record { answer_value = both.0; place_value = both.1.0; t_after = both.1.1 }

pub returns-then-n-start : goal.returns-then-n-start
returns-then-n-start c =
    let both = refuses-so
    (start-beyond _ _ _ _ _ _ c.if-t-ne-TABLE_WORDS.false c.if-n-lt1.false c.if-n-gt-NODE_LIMIT.false (sym c.beyond.ensures ∙ c.if-beyond.false) c.if-n-start.true)
    c.refused_at-then-n-start.ensures in record { answer_value = both.0; place_value = both.1.0; t_after = both.1.1 }

pub judged-requires : goal.judged-requires
judged-requires c = record { in_order = record { opens = record { long = c.if-t-ne-TABLE_WORDS.false; some = c.if-n-lt1.false; few = c.if-n-gt-NODE_LIMIT.false; on = sym c.beyond.ensures ∙ c.if-beyond.false }; known = c.if-n-start.false }; was_read = (front-of _ (ap (λ t. t.now) c.new.ensures.0) c.front.ensures) ∙ ap (fronted _) c.in-Err.is }

pub at_once-requires : goal.at_once-requires
at_once-requires c = record { fact = record { long = c.if-t-ne-TABLE_WORDS.false; some = c.if-n-lt1.false; few = c.if-n-gt-NODE_LIMIT.false; on = sym c.beyond.ensures ∙ c.if-beyond.false }; begun = record { goes_on = (front-of _ (ap (λ t. t.now) c.new.ensures.0) c.front.ensures) ∙ ap (fronted _) c.in-Ok.is; is_file = λ e. absurd (false≢true e) } }

pub returns-then-at_once : goal.returns-then-at_once
returns-then-at_once c = let both = tells-through (c.at_once.ensures.went_through c.if-at_once.true _ c.if-n-start.false) c.through.ensures in record { answer_value = both.0; place_value = both.1.0; t_after = both.1.1 }

pub judged-requires-in-Err-rest : goal.judged-requires-in-Err-rest
judged-requires-in-Err-rest c = record { in_order = rw (c.at_once.ensures.untouched c.if-at_once.false) (record { opens = record { long = c.if-t-ne-TABLE_WORDS.false; some = c.if-n-lt1.false; few = c.if-n-gt-NODE_LIMIT.false; on = sym c.beyond.ensures ∙ c.if-beyond.false }; known = c.if-n-start.false }); was_read = (front-of _ (ap (λ t. t.now) c.new.ensures.0) c.front.ensures) ∙ ap (fronted _) c.in-Ok.is ∙ (rest-of (ap (λ t. t.now) (c.moved.ensures.0 ∙ c.new-in-Ok.ensures.0)) c.moved.ensures.1 c.rest.ensures).0 ∙ ap (read_as _) c.in-Err-rest.is }

pub at_once-requires-in-Ok-rest : goal.at_once-requires-in-Ok-rest
at_once-requires-in-Ok-rest c =
    let f = (front-of _ (ap (λ t. t.now) c.new.ensures.0) c.front.ensures) ∙ ap (fronted _) c.in-Ok.is in
    record { fact = rw (c.at_once.ensures.untouched c.if-at_once.false) (record { long = c.if-t-ne-TABLE_WORDS.false; some = c.if-n-lt1.false; few = c.if-n-gt-NODE_LIMIT.false; on = sym c.beyond.ensures ∙ c.if-beyond.false }); begun = record { goes_on = f; is_file = λ e. read_whole _ _ _ _ (f) (rest-of (ap (λ t. t.now) (c.moved.ensures.0 ∙ c.new-in-Ok.ensures.0)) c.moved.ensures.1 c.rest.ensures).0 (rest-of (ap (λ t. t.now) (c.moved.ensures.0 ∙ c.new-in-Ok.ensures.0)) c.moved.ensures.1 c.rest.ensures).1 c.in-Ok-rest.is } }

pub returns-then-at_once-2 : goal.returns-then-at_once-2
returns-then-at_once-2 c =
    let both = told_of _ _ _ _ _ (c.at_once.ensures.untouched c.if-at_once.false)
    (tells-through (c.at_once-in-Ok-rest.ensures.went_through c.if-at_once-2.true _ c.if-n-start.false) c.through-then-at_once-2.ensures) in record { answer_value = both.0; place_value = both.1.0; t_after = both.1.1 }

pub judged-requires-in-Ok-rest : goal.judged-requires-in-Ok-rest
judged-requires-in-Ok-rest c = record { in_order = rw (c.at_once-in-Ok-rest.ensures.untouched c.if-at_once-2.false, c.at_once.ensures.untouched c.if-at_once.false) (record { opens = record { long = c.if-t-ne-TABLE_WORDS.false; some = c.if-n-lt1.false; few = c.if-n-gt-NODE_LIMIT.false; on = sym c.beyond.ensures ∙ c.if-beyond.false }; known = c.if-n-start.false }); was_read = read_whole _ _ _ _ ((front-of _ (ap (λ t. t.now) c.new.ensures.0) c.front.ensures) ∙ ap (fronted _) c.in-Ok.is) (rest-of (ap (λ t. t.now) (c.moved.ensures.0 ∙ c.new-in-Ok.ensures.0)) c.moved.ensures.1 c.rest.ensures).0 (rest-of (ap (λ t. t.now) (c.moved.ensures.0 ∙ c.new-in-Ok.ensures.0)) c.moved.ensures.1 c.rest.ensures).1 c.in-Ok-rest.is }

pub returns-in-Err : goal.returns-in-Err
returns-in-Err c = let both = tells-so c.told.ensures (c.judged.ensures.result_value, (c.judged.ensures.result_value_2, c.judged.ensures.t_after)) in record { answer_value = both.0; place_value = both.1.0; t_after = both.1.1 }

pub returns-in-Err-rest : goal.returns-in-Err-rest
returns-in-Err-rest c = let both = told_of _ _ _ _ _ (c.at_once.ensures.untouched c.if-at_once.false) (tells-so c.told-in-Err-rest.ensures (c.judged-in-Err-rest.ensures.result_value, (c.judged-in-Err-rest.ensures.result_value_2, c.judged-in-Err-rest.ensures.t_after))) in record { answer_value = both.0; place_value = both.1.0; t_after = both.1.1 }

pub returns-else-at_once-2 : goal.returns-else-at_once-2
returns-else-at_once-2 c =
    let both = told_of _ _ _ _ _ (c.at_once-in-Ok-rest.ensures.untouched c.if-at_once-2.false ∙ c.at_once.ensures.untouched c.if-at_once.false) (tells-so c.told-in-Ok-rest.ensures (c.judged-in-Ok-rest.ensures.result_value, (c.judged-in-Ok-rest.ensures.result_value_2, c.judged-in-Ok-rest.ensures.t_after))) in record { answer_value = both.0; place_value = both.1.0; t_after = both.1.1 }
