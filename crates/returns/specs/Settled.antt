-- What a change of names in one s_group answers and leaves: the three rules, by their cases, and what a step has to show of them.
-- Assumes nothing.
use Rattle.std.specs.Prelude.{◌≡◌, refl, Bool, true, false, List, ℕ, ◌<◌, ◌≤◌, length}
use Rattle.std.proofs.Common.{sym, ap, ◌∙◌, arith, le-leb}
use Rattle.std.proofs.Math.Path.{subst}
use Rattle.std.proofs.lemmas.Bool.{lt-leb}
use Rattle.entries.specs.Entries.{Entry, insert, remove, renew, lookup, holds_pid}
use Rattle.entries.specs.EntryLaws.{remove_absent, renew-absent, renew-is-insert-remove}
use Rattle.semantics.specs.Sizes.{names_per_group}
use Rattle.semantics.specs.State.{State}
use Rattle.commands.specs.declared.Command.{Command}
use Rattle.answers.specs.Answers.{answer_of}
use Rattle.semantics.specs.Ranges.{held}
use Rattle.semantics.specs.Steps.{Outcome, done, say, hold, full, apply, settle}
use Rattle.semantics.specs.Test.{sound}
use Rattle.semantics.specs.Regular.{Regular}
use Rattle.semantics.specs.NamesKept.{not-held}
use Rattle.semantics.specs.WordsOfState.{Laid}
use Rattle.answers.specs.declared.Answer.{Answer}
use Rattle.answers.specs.declared.Value.{Value}
use Rattle.answers.specs.declared.Value.TheVariants.{True, False}
use Rattle.answers.specs.declared.Reason.{Reason}
use Rattle.answers.specs.declared.Reason.TheVariants.{Done, NameTaken, PidTaken, NotRegistered, NamespaceFull}
use Rattle.returns.specs.Judged.{Goes, register_in, re_register_in, unregister_in}
use Rattle.place.specs.Seats.{Seat}
use Rattle.place.specs.Sound.{here}
use Rattle.returns.specs.Shown.{Says, says}
use Rattle.names.specs.NamesAt.{counted, names_at, with_names}
use Rattle.names.specs.NamesHere.{is_held, count-is, standing, names_of, held-names, same_names}

-- the answer a is that of the outcome, and the words u are those of the state after it
pub record Settles (s : ℕ) (o : Outcome) (st : State) (a : Answer) (u : List ℕ) : Type 0 where
  pub answer : a ≡ o.answer
  pub laid : Laid names_per_group (apply s o.effect st) u

-- a step that is the outcome says so
pub said : (t : List ℕ) → sound names_per_group t ≡ true → {room i : ℕ} {c : Command} {s : ℕ} {o : Outcome} {a : Answer} {u : List ℕ}
    → Goes room i c (here t) (settle s o (here t)) → Settles s o (here t) a u → Says room i c t a u
said t ok {u = u} g w = let q = says t ok g u w.laid in record { value = w.answer ∙ q.value; t_after = q.t_after }

-- the names that the s_group had
unchanged : {u : List ℕ} (k : ℕ) (st : State) (ns : List Entry) → ns ≡ names_at k st → Laid names_per_group (with_names k ns st) u → Laid names_per_group st u
unchanged {u} k st ns e m =
    subst (λ (x : State). Laid names_per_group x u) (ap (λ (y : List Entry). with_names k y st) e ∙ same_names k st) m

-- where a name is not held, another pid changes nothing
pub not-replaced : {u : List ℕ} (k n p : ℕ) (st : State) → held (lookup n (names_at k st)) ≡ false
    → Laid names_per_group (with_names k (renew n p (names_at k st)) st) u → Laid names_per_group st u
not-replaced k n p st h m = unchanged k st (renew n p (names_at k st)) (renew-absent n p (names_at k st) (not-held _ h)) m

module _ {st : State} {t : List ℕ} (l : Laid names_per_group st t) {s k : ℕ} (w : Seat s k st.groups) where
  -- where nothing changes
  kept : (o : Outcome) (v : Value) (r : Reason) → o ≡ say v r → Settles s o st (answer_of v r) t
  unfolding apply
  kept o v r e = subst (λ (x : Outcome). Settles s x st (answer_of v r) t) (sym e) (record { answer = refl; laid = l })

  -- where the s_group has the names ns
  named : (o : Outcome) (v : Value) (ns : List Entry) (u : List ℕ) → o ≡ done (hold w.group.members ns) v → Laid names_per_group (with_names k ns st) u
      → Settles s o st (answer_of v Done) u
  named o v ns u e m = subst (λ (x : Outcome). Settles s x st (answer_of v Done) u) (sym e) (record { answer = refl; laid = held-names w ns m })

  -- a test of the names at the place is one of the s_group's names
  tested : {b : Bool} (f : List Entry → Bool) → f (names_at k st) ≡ b → f w.group.names ≡ b
  tested f e = ap f (sym (names_of st w)) ∙ e

  module _ (r : Regular names_per_group st) where
    is-full : names_per_group ≤ counted k t → full w.group.names ≡ true
    is-full h = tested full (le-leb names_per_group (length (names_at k st)) (omega (arith, count-is l k (standing r w))))

    has_room : counted k t < names_per_group → full w.group.names ≡ false
    has_room h = tested full (lt-leb names_per_group (length (names_at k st)) (omega (arith, count-is l k (standing r w))))

    -- ---- register_name

    module _ (n p : ℕ) where
      pub name-taken : held (lookup n (names_at k st)) ≡ true → Settles s (register_in n p w.group) st (answer_of False NameTaken) t
      name-taken h = kept _ False NameTaken (rw (tested (λ ns. held (lookup n ns)) h))

      module _ (absent : held (lookup n (names_at k st)) ≡ false) where
        pub pid-taken : holds_pid p (names_at k st) ≡ true → Settles s (register_in n p w.group) st (answer_of False PidTaken) t
        pid-taken h = kept _ False PidTaken (rw (tested (λ ns. held (lookup n ns)) absent, tested (holds_pid p) h))

        module _ (fresh : holds_pid p (names_at k st) ≡ false) where
          pub no_room : names_per_group ≤ counted k t → Settles s (register_in n p w.group) st (answer_of False NamespaceFull) t
          no_room h = kept _ False NamespaceFull (rw (tested (λ ns. held (lookup n ns)) absent, tested (holds_pid p) fresh, is-full h))

          pub registered : counted k t < names_per_group → (u : List ℕ) → Laid names_per_group (with_names k (insert (record { name = n; pid = p }) (names_at k st)) st) u
              → Settles s (register_in n p w.group) st (answer_of True Done) u
          registered h u m =
              named _ True (insert (record { name = n; pid = p }) (names_at k st)) u
              (rw (tested (λ ns. held (lookup n ns)) absent, tested (holds_pid p) fresh, has_room h, names_of st w)) m

    -- ---- re_register_name

    module _ (n p : ℕ) where
      pub pid-held-already : holds_pid p (names_at k st) ≡ true → Settles s (re_register_in n p w.group) st (answer_of False PidTaken) t
      pid-held-already h = kept _ False PidTaken (rw (tested (holds_pid p) h))

      module _ (fresh : holds_pid p (names_at k st) ≡ false) where
        pub replaced : held (lookup n (names_at k st)) ≡ true → (u : List ℕ) → Laid names_per_group (with_names k (renew n p (names_at k st)) st) u
            → Settles s (re_register_in n p w.group) st (answer_of True Done) u
        replaced h u m =
            let q = is_held (lookup n (names_at k st)) h in
            named _ True (insert (record { name = n; pid = p }) (remove n (names_at k st))) u
            (rw (tested (holds_pid p) fresh, tested (λ ns. held (lookup n ns)) h, names_of st w))
            (subst (λ (ns : List Entry). Laid names_per_group (with_names k ns st) u)
            (renew-is-insert-remove 0 n p q.0 (names_at k st) (standing r w).regular.names_sound.names q.1) m)

-- ---- unregister_name

module _ {st : State} {t : List ℕ} (l : Laid names_per_group st t) {s k : ℕ} (w : Seat s k st.groups) (n : ℕ) (u : List ℕ)
    (m : Laid names_per_group (with_names k (remove n (names_at k st)) st) u) where
  pub unregistered : held (lookup n (names_at k st)) ≡ true → Settles s (unregister_in n w.group) st (answer_of True Done) u
  unregistered h = named l w _ True (remove n (names_at k st)) u (rw (tested l w (λ ns. held (lookup n ns)) h, names_of st w)) m

  pub not-registered : held (lookup n (names_at k st)) ≡ false → Settles s (unregister_in n w.group) st (answer_of True NotRegistered) u
  not-registered h =
      kept (unchanged k st (remove n (names_at k st)) (remove_absent n (names_at k st) (not-held _ h)) m) w _ True NotRegistered
      (rw (tested l w (λ ns. held (lookup n ns)) h))
