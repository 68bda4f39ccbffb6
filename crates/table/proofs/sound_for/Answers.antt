-- `table::sound_for` meets its contract: length, head and parts decide.
-- Assumes nothing.
use mathlib.Core.Path.{sym, ◌∙◌}
use Rattle.table.specs.Verdict.{wrong_length, wrong-head, decides}
use Rattle.table.proofs.sound_for.Goals as goal

pub returns-then-t-cap : goal.returns-then-t-cap
returns-then-t-cap c =
    let a = c.args in
    wrong_length a.cap a.t.now c.if-t-cap.true

pub returns-then-head_sound : goal.returns-then-head_sound
returns-then-head_sound c =
    let a = c.args in
    c.parts_sound.ensures ∙ decides a.cap a.t.now c.if-t-cap.false (sym c.head_sound.ensures ∙ c.if-head_sound.true)

pub returns : goal.returns
returns c =
    let a = c.args in
    wrong-head a.cap a.t.now c.if-t-cap.false (sym c.head_sound.ensures ∙ c.if-head_sound.false)
