-- `atoms::short_word` meets its contract: the length decides. Assumes nothing.
use mathlib.Core.Path.{sym, ◌∙◌}
use Rattle.atoms.specs.Parts.{short_none, short-few, short-fours}
use Rattle.atoms.proofs.short_word.Goals as goal

pub returns-then-n-eq0 : goal.returns-then-n-eq0
returns-then-n-eq0 c = sym (short_none _ c.if-n-eq0.true)

pub returns-then-n-lt4 : goal.returns-then-n-lt4
returns-then-n-lt4 c = c.few.ensures ∙ sym (short-few _ c.if-n-eq0.false c.if-n-lt4.true)

pub returns : goal.returns
returns c =
    rw (c.four.ensures.0, c.four-2.ensures.0) (sym (short-fours _ c.if-n-eq0.false c.if-n-lt4.false))
