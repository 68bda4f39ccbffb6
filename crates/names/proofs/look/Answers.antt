-- `names::look` meets its contract: what the s_group holds for a member, and otherwise the reason that its place gives.
-- Assumes nothing.
use Rattle.std.proofs.Common.{◌≡◌, refl, sym, ap, ◌∙◌, true, List, ℕ, ◌<◌, arith}
use Rattle.std.proofs.lemmas.Result.{err_from_is_err_and}
use Rattle.std.specs.Prelude.{Result, Ok, Err}
use Rattle.entries.specs.Entries.{lookup}
use Rattle.entries.specs.Raw.{lookup_seen}
use Rattle.entries.specs.declared.Refusal.{Refusal}
use Rattle.entries.specs.declared.Seen.{Seen}
use Rattle.entries.specs.declared.Seen.TheVariants.{Inside, Outside}
use Rattle.semantics.specs.Sizes.{group_limit, names_per_group}
use Rattle.semantics.specs.State.{State}
use Rattle.semantics.specs.Steps.{ask}
use Rattle.semantics.specs.Places.{group_at}
use Rattle.semantics.specs.Test.{sound}
use Rattle.semantics.specs.WordsOfState.{Laid}
use Rattle.names.specs.NamesAt.{Standing, names_at}
use Rattle.names.specs.Looked.{looked_in}
use Rattle.names.specs.NamesHere.{standing, ask-denied, ask-open}
use Rattle.place.specs.Place.{place_for}
use Rattle.place.specs.Seats.{Open}
use Rattle.sound_table.specs.Here.{here, regular, base, groups_few}
use Rattle.place.specs.Sound.{granted-here, seat-below}
use Rattle.names.proofs.Changes.{seen-looked}
use Rattle.names.proofs.look.Goals as goal

module _ (t : List ℕ) (ok : sound names_per_group t ≡ true) (node s k : ℕ) (granted : Ok k ≡ place_for node s (here t).groups) where
  -- the node is a member of the s_group that stands there
  opened : Open node s k (here t).groups
  opened = granted-here t ok node s _ (Ok k) granted refl

  low : k < group_limit
  low = omega (arith, seat-below t ok opened.seat, groups_few t ok)

  module _ (n : ℕ) (not-zero : s ≡ 0 → ⊥) (x : Result Seen Refusal)
      (told : (st : State) → Laid names_per_group st t → Standing k st → x ≡ lookup_seen (group_at st.groups k).members (lookup n (names_at k st))) where
    -- what the namespace tells is what is asked for
    asked : (y : Result Seen Refusal) → x ≡ y → looked_in y ≡ ask node s n (here t)
    asked y e =
        ap looked_in (sym e)
        ∙ sym (ask-open node s n k (here t) not-zero opened
        ∙ seen-looked (group_at (here t).groups k).members x (lookup n (names_at k (here t))) (told (here t) (base t ok) (standing (regular t ok) opened.seat)))

pub returns-in_err-at : goal.returns-in_err-at
returns-in_err-at c =
    let t = c.args.t.words.now in
    let p = err_from_is_err_and c.from_residual.result c.from_residual.ensures.1 in
    rw (p.1, p.2) (sym (ask-denied c.args.node c.args.s c.args.n (here t) c.if-s-eq0.false (granted-here t c.args.t.fit c.args.node c.args.s _ (Err c.in_err-at.field-0.0) c.in_err-at.ensures refl)))

pub invariant_of-look_up-clause-below : goal.invariant_of-look_up-clause-below
invariant_of-look_up-clause-below c = low c.args.t.words.now c.args.t.fit c.args.node c.args.s c.in_ok-at.at c.in_ok-at.ensures

pub returns-in-Ok-Inside : goal.returns-in-Ok-Inside
returns-in-Ok-Inside c =
    asked c.args.t.words.now c.args.t.fit c.args.node c.args.s c.in_ok-at.at c.in_ok-at.ensures c.args.n c.if-s-eq0.false c.look_up.result c.look_up.ensures
    (Ok (Inside c.in-Ok-Inside.p)) (c.in-Ok-Inside.is ∙ ap Ok c.in-Ok-Inside.field-0-is)

pub returns-in-Ok-Outside : goal.returns-in-Ok-Outside
returns-in-Ok-Outside c =
    asked c.args.t.words.now c.args.t.fit c.args.node c.args.s c.in_ok-at.at c.in_ok-at.ensures c.args.n c.if-s-eq0.false c.look_up.result c.look_up.ensures
    (Ok (Outside c.in-Ok-Outside.p)) (c.in-Ok-Outside.is ∙ ap Ok c.in-Ok-Outside.field-0-is)

pub returns-in-Err : goal.returns-in-Err
returns-in-Err c =
    asked c.args.t.words.now c.args.t.fit c.args.node c.args.s c.in_ok-at.at c.in_ok-at.ensures c.args.n c.if-s-eq0.false c.look_up.result c.look_up.ensures
    (Err c.in-Err.field-0) c.in-Err.is
