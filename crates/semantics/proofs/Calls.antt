-- What a call is on a table that is sound and on one that is not; calls and openings keep tables sound.
-- Assumes nothing.
use Rattle.std.specs.Prelude.{◌≡◌, refl, Bool, true, false, not, ◌||◌, cond, List, [], ℕ, ◌^◌, ◌≤◌, eqb, ltb, length}
use Rattle.std.proofs.Common.{ap, ◌∙◌, ⊎_elim, arith, eq-eqb, ltb-false, leb-false}
use Rattle.std.proofs.lemmas.Bool.{eqb-false}
use Rattle.nodes.specs.Sets.{node_limit, beyond}
use Rattle.nodes.specs.Bools.{by_test}
use Rattle.answers.specs.Outputs.{kind}
use Rattle.semantics.specs.Sizes.{names_per_group, table_words}
use Rattle.semantics.specs.State.{State}
use Rattle.commands.specs.declared.Command.{Command}
use Rattle.answers.specs.Answers.{refuses, answer_of}
use Rattle.semantics.specs.Steps.{step, opened}
use Rattle.semantics.specs.Table.{layout, state_of}
use Rattle.semantics.specs.Soundness.{Sound}
use Rattle.semantics.specs.Test.{sound}
use Rattle.semantics.specs.Call.{Call, refused, written, why, call, opening}
use Rattle.semantics.specs.Regular.{Regular}
use Rattle.semantics.specs.Fits.{Fits}
use Rattle.semantics.proofs.StepsKeep.{keeps}
use Rattle.semantics.specs.OpenedRegular.{opened-regular}
use Rattle.semantics.specs.Truth.{neither}
use Rattle.semantics.proofs.RoundTrip.{round_trip}
use Rattle.semantics.proofs.Agree.{test-regular, regular-test, sound-iff}
use Rattle.answers.specs.declared.Answer.{Answer}
use Rattle.answers.specs.declared.Value.TheVariants.{Ok, Error}
use Rattle.answers.specs.declared.Reason.{Reason}
use Rattle.answers.specs.declared.Reason.TheVariants.{Done, TableLength, RosterSize, Unsound, NodeUnknown}

-- on a table that passes, a call is the step of its state
pub call-sound : (room i : ℕ) (c : Command) (t : List ℕ) → sound names_per_group t ≡ true → call room i c t ≡ written (step room i c (state_of names_per_group t))
unfolding call
call-sound room i c t e = rw (eq-eqb (length t) (table_words names_per_group) (test-regular names_per_group t e).2, e)

-- on the table of a regular state, it is the step of that state
pub call-layout : (room i : ℕ) (c : Command) (st : State) → Regular names_per_group st → call room i c (layout names_per_group st) ≡ written (step room i c st)
call-layout room i c st w =
    call-sound room i c (layout names_per_group st) (regular-test names_per_group st w)
    ∙ ap (λ (s : State). written (step room i c s)) (round_trip names_per_group st w)

-- on a table that does not pass, a call changes nothing
pub call-unsound : (room i : ℕ) (c : Command) (t : List ℕ) → sound names_per_group t ≡ false → call room i c t ≡ refused (why t) t
unfolding call
call-unsound room i c t e =
    ⊎_elim
    (λ (p : eqb (length t) (table_words names_per_group) ≡ true). rw (p, e))
    (λ (p : eqb (length t) (table_words names_per_group) ≡ false). rw p)
    (by_test (eqb (length t) (table_words names_per_group)))

-- ---- soundness is kept

-- the table of a regular state is sound
regular-sound : (st : State) → Regular names_per_group st → Sound names_per_group (layout names_per_group st)
regular-sound st w = (sound-iff names_per_group (layout names_per_group st)).0 (regular-test names_per_group st w)

-- a sound table stays sound under every call
pub calls-keep-sound : (room i : ℕ) (c : Command) (t : List ℕ) → Fits c → Sound names_per_group t → Sound names_per_group (call room i c t).table
calls-keep-sound room i c t f s =
    let e : sound names_per_group t ≡ true = (sound-iff names_per_group t).1 s in
    let w : Regular names_per_group (step room i c (state_of names_per_group t)).next =
    keeps room i c (state_of names_per_group t) (test-regular names_per_group t e).0 f in
    rw (call-sound room i c t e) (regular-sound (step room i c (state_of names_per_group t)).next w)

-- an opening is refused and changes nothing, or gives the table of a regular state
opening-cases : (N hidden : ℕ) (t : List ℕ) (P : Call → Type 0) → ((r : Reason) → P (refused r t))
    → (Regular names_per_group (opened N hidden) → P (record { answer = answer_of Ok Done; list = []; table = layout names_per_group (opened N hidden) }))
    → P (opening N hidden t)
unfolding opening
opening-cases N hidden t P refuse accept =
    go (not (eqb (length t) (table_words names_per_group))) (eqb N 0 || ltb node_limit N) (beyond hidden N) λ b c.
    let n = neither (eqb N 0) (ltb node_limit N) b in
    let low : 1 ≤ N = omega (arith, eqb-false N 0 n.0) in
    accept (opened-regular N hidden low (ltb-false node_limit N n.1) (leb-false (2 ^ N) hidden c) names_per_group)
  where
    given : Call
    given = record { answer = answer_of Ok Done; list = []; table = layout names_per_group (opened N hidden) }

    go : (x y z : Bool) → (y ≡ false → z ≡ false → P given)
        → let r : Reason = cond x TableLength (cond y RosterSize (cond z NodeUnknown Done)) in P (cond (refuses r) (refused r t) given)
    go true y z f = refuse TableLength
    go false true z f = refuse RosterSize
    go false false true f = refuse NodeUnknown
    go false false false f = f refl refl

-- an accepted opening gives a sound table
pub opening-gives-sound : (N hidden : ℕ) (t : List ℕ) → (opening N hidden t).answer ≡ answer_of Ok Done → Sound names_per_group (opening N hidden t).table
opening-gives-sound N hidden t =
    opening-cases N hidden t (λ c. c.answer ≡ answer_of Ok Done → Sound names_per_group c.table)
    (λ r e. let z : kind Error ≡ kind Ok = ap (λ (a : Answer). kind a.value) e in absurd (omega arith))
    (λ w e. regular-sound (opened N hidden) w)

-- a sound table stays sound under an opening, refused or not
pub openings-keep-sound : (N hidden : ℕ) (t : List ℕ) → Sound names_per_group t → Sound names_per_group (opening N hidden t).table
openings-keep-sound N hidden t s = opening-cases N hidden t (λ c. Sound names_per_group c.table) (λ r. s) (λ w. regular-sound (opened N hidden) w)
