-- `groups_test::names_sound` meets its contract: every s_group passed has a sound namespace.
-- Assumes nothing.
use mathlib.Core.Path.{sym, ap₂, ◌∙◌}
use native.Mathlib.Omega.{arith}
use Rattle.entries.specs.NamespaceSound.{sound_words}
use Rattle.free_test.specs.Below.{below_none, below_step}
use Rattle.groups_test.specs.GroupTests.{names_right}
use Rattle.groups_test.specs.GroupsBelow.{below_fails}
use Rattle.groups_test.proofs.names_sound.Goals as goal

pub loop-i-init : goal.loop-i-init
loop-i-init c = below_none _

pub returns-then-not-is_sound : goal.returns-then-not-is_sound
returns-then-not-is_sound c =
    let a = c.args in
    sym (below_fails a.t.count (names_right a.cap a.t.words.now a.n) c.loop-i.i (omega arith)
    (sym (c.is_sound.ensures ∙ ap₂ (sound_words c.args.n) c.name_count-count.ensures c.body.ensures) ∙ c.if-not-is_sound.true))

pub loop-i-preserved : goal.loop-i-preserved
loop-i-preserved c =
    rw (below_step, c.loop-i.invariant) (sym (c.is_sound.ensures ∙ ap₂ (sound_words c.args.n) c.name_count-count.ensures c.body.ensures) ∙ c.if-not-is_sound.false)
