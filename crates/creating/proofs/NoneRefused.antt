-- s_groups that can be made one after another are made, no call refused, and are then there. Assumes nothing.
use Rattle.std.specs.Prelude.{◌≡◌, true, false, not, ℕ, ◌+◌, ◌*◌, ◌/◌, ◌^◌, ◌≤◌, ◌<◌, eqb, leb, ltb}
use Rattle.std.proofs.Math.Path.{refl, ap}
use Rattle.std.proofs.Common.{sym, ◌∙◌, true≢false, arith, pow_mono}
use Rattle.std.proofs.Math.Logic.{⊎_elim}
use Rattle.std.proofs.Math.Bool.{and-eq-true_iff}
use Rattle.std.proofs.Math.Option.{none, some, some-ne-none}
use mathlib.Core.List.{List, [], ◌∷◌}
use Rattle.std.proofs.Math.ListN.{length}
use borrow.Author.Tests.{eqb-false, eq-eqb, leb-false, lt-leb, not-true}
use Rattle.nodes.specs.Sets.{node_limit, has, empty, beyond, lowest}
use Rattle.nodes.specs.Bools.{by_test}
use Rattle.nodes.proofs.SetLaws.{has-below}
use Rattle.nodes.proofs.LowestNode.{lowest-has}
use Rattle.semantics.specs.Sizes.{group_limit, group_names, names_per_group}
use Rattle.semantics.specs.Ranges.{bad_group}
use Rattle.semantics.specs.Truth.{neither}
use Rattle.semantics.specs.State.{Group, State, find, add_group}
use Rattle.semantics.specs.FirstReason.{first, opening_tests}
use Rattle.semantics.specs.Steps.{create, inside, outcome, apply, group_step, rule, step, opened}
use Rattle.semantics.specs.Table.{layout, state_of}
use Rattle.semantics.specs.Regular.{Regular}
use Rattle.semantics.specs.Changed.{regular-create}
use Rattle.semantics.specs.Effects.{find-apply-other, size-apply, length-apply}
use Rattle.semantics.specs.WordsOfState.{laid}
use Rattle.semantics.proofs.RoundTrip.{round_trip, state-back}
use Rattle.semantics.proofs.Agree.{test-regular, regular-test, sound-iff}
use Rattle.semantics.specs.Call.{Call, written, call, opening}
use Rattle.semantics.proofs.Calls.{call-sound, opening-gives-sound}
use Rattle.commands.specs.declared.Command.TheVariants.{NewSGroup}
use Rattle.answers.specs.Answers.{refuses, answer_of}
use Rattle.answers.specs.declared.Value.TheVariants.{Ok, Grouped}
use Rattle.answers.specs.declared.Reason.{Reason}
use Rattle.answers.specs.declared.Reason.TheVariants.{Done}
use Rattle.creating.specs.Creating.{created}
use Rattle.creating.specs.Creations.{differs, makeable, AreUnused, Ready, EachMade, AllThere}

-- an s_group that is added is found
find-added : (g : Group) (gs : List Group) → find g.name gs ≡ none → find g.name (add_group g gs) ≡ some g
unfolding find add_group
find-added g [] f = rw (eq-eqb g.name g.name refl)
find-added g (k ∷ gs) f =
    ⊎_elim
    (λ (e : eqb k.name g.name ≡ true). absurd (some-ne-none k (rw e at f)))
    (λ (e : eqb k.name g.name ≡ false).
    ⊎_elim
    (λ (l : ltb g.name k.name ≡ true). rw (l, eq-eqb g.name g.name refl))
    (λ (l : ltb g.name k.name ≡ false). rw (l, e) (find-added g gs (rw e at f)))
    (by_test (ltb g.name k.name)))
    (by_test (eqb k.name g.name))

-- numbers that differ from a new one are as free as before
still-unused : (s set : ℕ) (st : State) (ws : List ℕ) → differs s ws ≡ true → AreUnused ws st.groups → AreUnused ws (apply s (create set) st).groups
unfolding differs AreUnused
still-unused s set st [] d u = tt
still-unused s set st (q ∷ []) d u = tt
still-unused s set st (q ∷ m ∷ ws) d u =
    let b = (and-eq-true_iff (not (eqb s q)) (differs s ws)).0 d in
    (find-apply-other (λ e. eqb-false s q (not-true _ b.0) (sym e)) (create set) st ∙ u.0, still-unused s set st ws b.1 u.1)

-- where there is no s_group, no number is taken
all-unused : (ws : List ℕ) → AreUnused ws []
unfolding AreUnused find
all-unused [] = tt
all-unused (s ∷ []) = tt
all-unused (s ∷ set ∷ ws) = (refl, all-unused ws)

-- ---- the first two words

module _ (N s set : ℕ) (ws t : List ℕ) (r : Ready N (s ∷ set ∷ ws) t) where
  -- the state of the table
  abbrev st : State
  st = state_of names_per_group t

  -- it is a regular one
  regular : Regular names_per_group st
  regular = (test-regular names_per_group t r.whole).0

  -- what the test of the words asks of these two
  record Fine : Type 0 where
    named : bad_group s ≡ false
    manned : empty set ≡ false
    within : beyond set N ≡ false
    once : differs s ws ≡ true
    others : makeable N ws ≡ true

  -- they have it
  fine : Fine
  unfolding makeable
  fine =
      let e = (and-eq-true_iff _ _).0 r.right in
      let d = (and-eq-true_iff _ _).0 e.0 in
      let c = (and-eq-true_iff _ _).0 d.0 in
      let b = (and-eq-true_iff _ _).0 c.0 in
      record {
        named = not-true (bad_group s) b.0;
        manned = not-true (empty set) b.1;
        within = not-true (beyond set N) c.1;
        once = d.1;
        others = e.1;
      }

  -- the number is not taken
  free-number : find s st.groups ≡ none
  unfolding AreUnused
  free-number = r.free.0

  -- there is room for one more
  few : length st.groups < group_limit
  few = omega (arith, r.room)

  -- the set is on the roster
  on_roster : set < 2 ^ st.size
  on_roster = rw r.wide (leb-false (2 ^ N) set fine.within)

  -- the lowest node of the set is in it, and so on the roster
  maker-in : has set (lowest set) ≡ true
  maker-in =
      lowest-has set (let n = eqb-false set 0 fine.manned in omega arith)
      (let p : 2 ^ st.size ≤ 2 ^ node_limit = pow_mono regular.size_high in omega (arith, on_roster))

  -- the step for them makes the s_group
  step-makes : step 0 (lowest set) (NewSGroup s set) st ≡ record { answer = answer_of (Grouped s set) Done; list = []; next = apply s (create set) st }
  unfolding step rule group_step outcome inside
  step-makes =
      rw (
        lt-leb st.size (lowest set) (has-below set st.size (lowest set) on_roster maker-in),
        fine.named,
        lt-leb (2 ^ st.size) set on_roster,
        maker-in,
        free-number,
        lt-leb group_limit (length st.groups) few,
      )

  -- the call for them, and the table after it
  call-makes : call 0 (lowest set) (NewSGroup s set) t
      ≡ record { answer = answer_of (Grouped s set) Done; list = []; table = layout names_per_group (apply s (create set) st) }
  call-makes = call-sound 0 (lowest set) (NewSGroup s set) t r.whole ∙ ap written step-makes

  -- its state is regular
  regular-after : Regular names_per_group (apply s (create set) st)
  regular-after =
      let n = neither (eqb s 0) (leb group_names s) fine.named in
      let low : 0 < s = let z = eqb-false s 0 n.0 in omega arith in
      regular-create regular s free-number low (leb-false group_names s n.1) few set on_roster (eqb-false set 0 fine.manned)

  -- the state after it
  state-after : state_of names_per_group (call 0 (lowest set) (NewSGroup s set) t).table ≡ apply s (create set) st
  state-after = ap (λ (c : Call). state_of names_per_group c.table) call-makes ∙ round_trip names_per_group (apply s (create set) st) regular-after

  -- the new s_group is in it
  found_after : find s (apply s (create set) st).groups ≡ some (record { name = s; members = set; names = [] })
  unfolding apply
  found_after = find-added (record { name = s; members = set; names = [] }) st.groups free-number

  -- the other words can be made on that table
  ready-after : Ready N ws (call 0 (lowest set) (NewSGroup s set) t).table
  unfolding AreUnused
  ready-after = record {
    whole = rw call-makes (regular-test names_per_group (apply s (create set) st) regular-after);
    wide = rw state-after (size-apply s (create set) st ∙ r.wide);
    free = rw state-after (still-unused s set st ws fine.once r.free.1);
    room = rw state-after (omega (arith, length-apply s (create set) st, r.room));
    right = fine.others;
  }

-- ---- all words

-- on a table on which the words can be made, no call for them is refused
pub none-refused : (N : ℕ) (ws t : List ℕ) → Ready N ws t → EachMade ws t
unfolding EachMade
none-refused N [] t r = tt
none-refused N (s ∷ []) t r = tt
none-refused N (s ∷ set ∷ ws) t r =
    (ap (λ (c : Call). c.answer) (call-makes N s set ws t r), none-refused N ws _ (ready-after N s set ws t r))

-- the s_groups of other numbers stay as they were
pub others-stay : (N q : ℕ) (ws t : List ℕ) → Ready N ws t → differs q ws ≡ true
    → find q (state_of names_per_group (created ws t)).groups ≡ find q (state_of names_per_group t).groups
unfolding created differs
others-stay N q [] t r d = refl
others-stay N q (s ∷ []) t r d = refl
others-stay N q (s ∷ set ∷ ws) t r d =
    let b = (and-eq-true_iff (not (eqb q s)) (differs q ws)).0 d in
    others-stay N q ws _ (ready-after N s set ws t r) b.1
    ∙ ap (λ (a : State). find q a.groups) (state-after N s set ws t r)
    ∙ find-apply-other (eqb-false q s (not-true (eqb q s) b.0)) (create set) (state_of names_per_group t)

-- those of the words are there
pub made-there : (N : ℕ) (ws t : List ℕ) → Ready N ws t → AllThere ws (state_of names_per_group (created ws t)).groups
unfolding created AllThere
made-there N [] t r = tt
made-there N (s ∷ []) t r = tt
made-there N (s ∷ set ∷ ws) t r = (
  others-stay N s ws _ (ready-after N s set ws t r) (fine N s set ws t r).once
      ∙ ap (λ (a : State). find s a.groups) (state-after N s set ws t r)
      ∙ found_after N s set ws t r,
  made-there N ws _ (ready-after N s set ws t r),
)

-- and no more
pub made-count : (N : ℕ) (ws t : List ℕ) → Ready N ws t
    → length (state_of names_per_group (created ws t)).groups ≡ length (state_of names_per_group t).groups + length ws / 2
unfolding created
made-count N [] t r = omega arith
made-count N (s ∷ []) t r = omega arith
made-count N (s ∷ set ∷ ws) t r =
    omega (
      arith,
      made-count N ws _ (ready-after N s set ws t r),
      ap (λ (a : State). length a.groups) (state-after N s set ws t r),
      length-apply s (create set) (state_of names_per_group t),
    )

-- ---- after an opening

module _ (N hidden : ℕ) (ws t : List ℕ) (done : (opening N hidden t).answer.reason ≡ Done) (right : makeable N ws ≡ true) (few : length ws ≤ 2 * group_limit) where
  -- what an accepted opening gives
  accepted : opening N hidden t ≡ record { answer = answer_of Ok Done; list = []; table = layout names_per_group (opened N hidden) }
  unfolding opening
  accepted =
      let r : Reason = first (opening_tests (length t) N hidden) in
      ⊎_elim
      (λ (e : refuses r ≡ true). let d : r ≡ Done = rw e at done in absurd (true≢false (sym e ∙ ap (λ (q : Reason). refuses q) d)))
      (λ (e : refuses r ≡ false). rw e)
      (by_test (refuses r))

  -- nobody is in an s_group yet
  state-opened : state_of names_per_group (opening N hidden t).table ≡ opened N hidden
  unfolding opened
  state-opened =
      ap (λ (c : Call). state_of names_per_group c.table) accepted
      ∙ state-back (laid names_per_group (opened N hidden) (record { groups_few = omega arith; links_long = refl; free_long = refl })) tt

  -- all words can be made on its table
  ready : Ready N ws (opening N hidden t).table
  unfolding opened
  ready = record {
    whole = (sound-iff names_per_group (opening N hidden t).table).1 (opening-gives-sound N hidden t (ap (λ (c : Call). c.answer) accepted));
    wide = ap (λ (a : State). a.size) state-opened;
    free = rw state-opened (all-unused ws);
    room = rw state-opened (omega arith);
    right = right;
  }

  -- no call is refused
  pub none-refused-opened : EachMade ws (opening N hidden t).table
  none-refused-opened = none-refused N ws _ ready

  -- and the s_groups are those of the words
  pub groups_there : let gs : List Group = (state_of names_per_group (created ws (opening N hidden t).table)).groups in
      AllThere ws gs × (length gs ≡ length ws / 2)
  unfolding opened
  groups_there = (
    made-there N ws _ ready,
    omega (arith, made-count N ws _ ready, ap (λ (a : State). length a.groups) state-opened),
  )
