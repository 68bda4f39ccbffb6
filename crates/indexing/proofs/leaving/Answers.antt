-- `indexing::leaving` meets its contract: the place of the s_group is known, and its members; or there is none of the name. Assumes nothing.
use mathlib.Core.Path.{sym, ap, ◌∙◌}
use native.Mathlib.Omega.{arith}
use Rattle.semantics.specs.Table.{state_of}
use Rattle.place.specs.Sound.{here, sought-here, lent-below, lent-members}
use Rattle.std.specs.Prelude.{Ok}
use Rattle.indexes.specs.Updates.{leaving}
use Rattle.indexing.specs.Found.{leaving-all, leaving-some, found_below, no-seat}
use Rattle.indexing.proofs.leaving.Goals as goal

pub offset_bounds-members-at : goal.offset_bounds-members-at
offset_bounds-members-at c = omega (arith, found_below c.args.t.words.now c.args.t.fit (sought-here c.args.t.words.now c.args.t.fit c.args.s c.place_of.result (Ok c.in-Ok.at) c.place_of.ensures c.in-Ok.is))

pub bounds-members-at : goal.bounds-members-at
bounds-members-at c = lent-below c.args.t.words.now c.args.t.fit (sought-here c.args.t.words.now c.args.t.fit c.args.s c.place_of.result (Ok c.in-Ok.at) c.place_of.ensures c.in-Ok.is) c.members.ensures

pub returns-then-diff-eq0 : goal.returns-then-diff-eq0
unfolding state_of
returns-then-diff-eq0 c = c.roster.ensures ∙ leaving-all (here c.args.t.words.now).groups c.args.set ((sought-here c.args.t.words.now c.args.t.fit c.args.s c.place_of.result (Ok c.in-Ok.at) c.place_of.ensures c.in-Ok.is)) (rw (← (lent-members c.args.t.words.now c.args.t.fit (sought-here c.args.t.words.now c.args.t.fit c.args.s c.place_of.result (Ok c.in-Ok.at) c.place_of.ensures c.in-Ok.is) c.members.ensures)) (sym c.diff.ensures ∙ c.if-diff-eq0.true))

pub returns : goal.returns
unfolding state_of
returns c = c.inter.ensures ∙ rw ((lent-members c.args.t.words.now c.args.t.fit (sought-here c.args.t.words.now c.args.t.fit c.args.s c.place_of.result (Ok c.in-Ok.at) c.place_of.ensures c.in-Ok.is) c.members.ensures)) (leaving-some (here c.args.t.words.now).groups c.args.set ((sought-here c.args.t.words.now c.args.t.fit c.args.s c.place_of.result (Ok c.in-Ok.at) c.place_of.ensures c.in-Ok.is)) (λ e. c.if-diff-eq0.false (c.diff.ensures ∙ rw ((lent-members c.args.t.words.now c.args.t.fit (sought-here c.args.t.words.now c.args.t.fit c.args.s c.place_of.result (Ok c.in-Ok.at) c.place_of.ensures c.in-Ok.is) c.members.ensures)) e)))

pub returns-in_default : goal.returns-in_default
unfolding state_of
returns-in_default c = sym (ap (leaving c.args.set) (no-seat c.args.t.words.now c.args.t.fit c.args.s c.place_of.result c.place_of.ensures c.in_default.not-Ok))
