-- What the namespace functions find in the words of an s_group of a table, and the table after they changed them. Assumes nothing.
use Rattle.std.specs.Prelude.{◌≡◌, refl, true, false, List, ◌∷◌, ◌++◌, ℕ, zero, suc, ◌+◌, ◌-◌, ◌*◌, ◌<◌, length, get_or, take, drop, set, is_ok, Result, Ok, Err}
use Rattle.std.proofs.Common.{sym, ap, ◌∙◌, subst, arith, length-append, le-leb, le-ltb, eq-eqb, ne_eqb}
use Rattle.std.proofs.lemmas.Bool.{false≢true}
use Rattle.std.proofs.Math.Option.{Option, none, some}
use Rattle.std.proofs.lemmas.List.{set_at, set-get_or}
use Rattle.entries.specs.Entries.{Entry, insert, remove, renew, lookup, rank, holds_pid, drop_hosted, words}
use Rattle.entries.specs.Raw.{place, found, found_at, answer_at, seen_of, lookup_seen, pid_answer, added, dropped, replaced, change_of, hosted_answer, hosted_dropped}
use Rattle.entries.specs.EntryLaws.{length-insert, length-remove, length-renew, remove_absent}
use Rattle.entries.specs.NamespaceKept.{length-drop_hosted}
use Rattle.entries.specs.NamespaceMeaning.{found-words, seen-words, pid_answer-words, added-words, dropped-words, replaced-words, hosted_answer-words, hosted_dropped-words}
use Rattle.entries.specs.declared.Refusal.{Refusal}
use Rattle.entries.specs.declared.Refusal.TheVariants.{Absent}
use Rattle.semantics.specs.Sizes.{group_limit, group_names, names_per_group, contents_at, members_at, bodies_at}
use Rattle.semantics.specs.State.{Group, State, with_groups}
use Rattle.semantics.specs.Ranges.{held}
use Rattle.semantics.specs.Steps.{hold, apply, looked, nothing_found, ask}
use Rattle.semantics.specs.Regular.{RegularGroup, Regular}
use Rattle.semantics.specs.Places.{no_group, group_at, members_at-place, every-iff}
use Rattle.semantics.specs.NamesKept.{not-held}
use Rattle.semantics.specs.WordsOfState.{Laid, members-word}
use Rattle.answers.specs.declared.Reason.{Reason}
use Rattle.answers.specs.declared.Reason.TheVariants.{NotRegistered}
use Rattle.place.specs.Seats.{Seat, Open, Shut, seat-group}
use Rattle.names.specs.NamesAt.{Standing, counted, names_at, renamed, with_names}
use Rattle.names.specs.Renamed.{contents-here, count-here, own_words, renamed-as-many, renamed-counted}

-- what a change at a name answers of a lookup
abbrev pub changed : Option ℕ → Result Unit Refusal
changed none = Err Absent
changed (some p) = Ok tt

pub is_held : (o : Option ℕ) → held o ≡ true → (p : ℕ) × (o ≡ some p)
is_held none h = absurd (false≢true h)
is_held (some p) h = (p, refl)

changed-at : (i : ℕ) (o : Option ℕ) → change_of (answer_at i o) ≡ changed o
changed-at i none = refl
changed-at i (some p) = refl

module _ {st : State} {t : List ℕ} (l : Laid names_per_group st t) (k : ℕ) (w : Standing k st) where
  pub count-is : counted k t ≡ length (names_at k st)
  count-is = count-here l k w.below w.regular.small

  -- ---- read

  module _ (ns : List ℕ) (lent : ns ≡ take names_per_group (drop (bodies_at + names_per_group * k) t)) where
    pub read-here : ns ≡ words names_per_group (names_at k st)
    read-here =
        let b : ℕ = bodies_at + names_per_group * k in
        let many : b + names_per_group - b ≡ names_per_group = omega arith in
        lent ∙ ap (λ (n : ℕ). take n (drop b t)) (sym many) ∙ own_words l k w.below b (b + names_per_group) refl refl

    pub found_here : (n : ℕ) → found (counted k t) n ns ≡ answer_at (rank n (names_at k st)) (lookup n (names_at k st))
    found_here n = rw (count-is, read-here) (found-words names_per_group st.size n (names_at k st) w.regular.names_sound)

    -- and told by the members
    pub seen_here : (n : ℕ) → k < group_limit
        → seen_of (get_or t (members_at + k) 0) (found (counted k t) n ns) ≡ lookup_seen (group_at st.groups k).members (lookup n (names_at k st))
    seen_here n h =
        rw (members-word l k h ∙ members_at-place st.groups k, count-is, read-here)
        (seen-words names_per_group st.size n (group_at st.groups k).members (names_at k st) w.regular.names_sound)

    pub pid-here : (p : ℕ) → pid_answer (counted k t) p ns ≡ Ok (holds_pid p (names_at k st))
    pid-here p = rw (count-is, read-here) (pid_answer-words names_per_group st.size p (names_at k st) w.regular.names_sound)

  -- ---- written

  module _ (b e : ℕ) (eb : b ≡ bodies_at + names_per_group * k) (ee : e ≡ b + names_per_group) where
    pub changed-here : (n : ℕ) → change_of (found (counted k t) n (take (e - b) (drop b t))) ≡ changed (lookup n (names_at k st))
    changed-here n =
        ap change_of (rw (count-is, own_words l k w.below b e eb ee) (found-words names_per_group st.size n (names_at k st) w.regular.names_sound))
        ∙ changed-at (rank n (names_at k st)) (lookup n (names_at k st))

    -- how many names are left without those of some hosts
    pub left_here : (hosts : ℕ) → hosted_answer (counted k t) hosts (take (e - b) (drop b t)) ≡ Ok (length (drop_hosted hosts (names_at k st)))
    left_here hosts =
        rw (count-is, own_words l k w.below b e eb ee) (hosted_answer-words names_per_group st.size hosts (names_at k st) w.regular.names_sound)

    module _ (r : List ℕ) (long : length r ≡ length (take (e - b) (drop b t))) where
      -- the table with r in the place of the names
      abbrev lent : List ℕ
      lent = take b t ++ (r ++ drop (e - b) (drop b t))

      pub added-here : (n p : ℕ) → r ≡ added (counted k t) n p (take (e - b) (drop b t)) → counted k t < names_per_group → lookup n (names_at k st) ≡ none
          → Laid names_per_group (with_names k (insert (record { name = n; pid = p }) (names_at k st)) st) (set lent (contents_at + k) (get_or t (contents_at + k) 0 + group_names))
      added-here n p left room absent =
          renamed-counted l k w.below b e eb ee (insert (record { name = n; pid = p }) (names_at k st)) (added (counted k t) n p)
          (rw count-is (added-words names_per_group st.size (record { name = n; pid = p }) (names_at k st) w.regular.names_sound absent (omega (arith, count-is))))
          r long left (get_or t (contents_at + k) 0 + group_names)
          (omega (arith, contents-here l k w.below, length-insert (record { name = n; pid = p }) (names_at k st)))

      module _ (n : ℕ) (left : r ≡ dropped (counted k t) n (take (e - b) (drop b t))) where
        made : dropped (counted k t) n (words names_per_group (names_at k st)) ≡ words names_per_group (remove n (names_at k st))
        made = rw count-is (dropped-words names_per_group st.size n (names_at k st) w.regular.names_sound)

        pub dropped-here : held (lookup n (names_at k st)) ≡ true
            → Laid names_per_group (with_names k (remove n (names_at k st)) st) (set lent (contents_at + k) (get_or t (contents_at + k) 0 - group_names))
        dropped-here h =
            let p = is_held (lookup n (names_at k st)) h in
            renamed-counted l k w.below b e eb ee (remove n (names_at k st)) (dropped (counted k t) n) made r long left (get_or t (contents_at + k) 0 - group_names)
            (omega (arith, contents-here l k w.below, length-remove n p.0 (names_at k st) p.1))

        pub not-dropped-here : held (lookup n (names_at k st)) ≡ false → Laid names_per_group (with_names k (remove n (names_at k st)) st) lent
        not-dropped-here h =
            renamed-as-many l k w.below b e eb ee (remove n (names_at k st)) (dropped (counted k t) n) made r long left
            (ap length (remove_absent n (names_at k st) (not-held (lookup n (names_at k st)) h)))

      pub replaced-here : (n p : ℕ) → r ≡ replaced (counted k t) n p (take (e - b) (drop b t)) → Laid names_per_group (with_names k (renew n p (names_at k st)) st) lent
      replaced-here n p left =
          renamed-as-many l k w.below b e eb ee (renew n p (names_at k st)) (replaced (counted k t) n p)
          (rw count-is (replaced-words names_per_group st.size n p (names_at k st) w.regular.names_sound)) r long left (length-renew n p (names_at k st))

      -- without the names of some hosts, the number of those that are left being stored
      pub hosted-here : (hosts kept : ℕ) → Ok kept ≡ hosted_answer (counted k t) hosts (take (e - b) (drop b t))
          → r ≡ hosted_dropped (counted k t) hosts (take (e - b) (drop b t))
          → Laid names_per_group (with_names k (drop_hosted hosts (names_at k st)) st) (set lent (contents_at + k) (get_or t (contents_at + k) 0 - group_names * (counted k t - kept)))
      hosted-here hosts kept told left =
          renamed-counted l k w.below b e eb ee (drop_hosted hosts (names_at k st)) (hosted_dropped (counted k t) hosts)
          (rw count-is (hosted_dropped-words names_per_group st.size hosts (names_at k st) w.regular.names_sound)) r long left _
          (omega (arith, contents-here l k w.below, count-is, many, length-drop_hosted hosts (names_at k st)))
        where
          many : kept ≡ length (drop_hosted hosts (names_at k st))
          many = let same : ◌≡◌ {A = Result ℕ Refusal} (Ok kept) (Ok (length (drop_hosted hosts (names_at k st)))) = told ∙ left_here hosts in cc

-- where a change was made there was a name
pub some-name : (count n : ℕ) (ws : List ℕ) → is_ok (change_of (found count n ws)) ≡ true → 0 < count
unfolding found found_at
some-name zero n ws e = absurd (false≢true (rw (le-leb 0 (length ws) (omega arith), le-ltb (place 0 n ws) 0 (omega arith)) at e))
some-name (suc count) n ws e = omega arith

-- ---- the s_group of a name

-- it stands at its place
pub standing : {st : State} {s k : ℕ} → Regular names_per_group st → Seat s k st.groups → Standing k st
standing {st} {k = k} r w =
    let b : k < length st.groups = omega (arith, ap length w.is, length-append w.before (w.group ∷ w.after), w.stands) in
    record { below = b; regular = (every-iff (RegularGroup names_per_group st.size) st.groups).0 r.each k b }

-- the names at the place of an s_group are its names
pub names_of : (st : State) {s k : ℕ} (w : Seat s k st.groups) → names_at k st ≡ w.group.names
names_of st w = ap (λ (g : Group). g.names) (seat-group w)

-- the s_groups with other names there
pub names-put : (st : State) {s k : ℕ} (w : Seat s k st.groups) (ns : List Entry) → (with_names k ns st).groups ≡ w.before ++ renamed ns w.group ∷ w.after
names-put st {k = k} w ns =
    ap (λ (g : Group). set st.groups k (renamed ns g)) (seat-group w)
    ∙ ap (λ (gs : List Group). set gs k (renamed ns w.group)) w.is ∙ set_at w.before w.group w.after (renamed ns w.group) k w.stands

-- its names are put anew
pub held-names : {st : State} {s k : ℕ} {u : List ℕ} (w : Seat s k st.groups) (ns : List Entry) → Laid names_per_group (with_names k ns st) u
    → Laid names_per_group (apply s (hold w.group.members ns) st) u
unfolding apply
held-names {st} {s} {k} {u} w ns l =
    subst (λ (gs : List Group). Laid names_per_group (with_groups gs st) u)
    (names-put st w ns ∙ sym (w.putting w.group.members ns)) l

-- the names that it has change nothing
pub same_names : (k : ℕ) (st : State) → with_names k (names_at k st) st ≡ st
same_names k st = ap (λ (gs : List Group). with_groups gs st) (set-get_or st.groups k no_group)

-- ---- a lookup

pub ask-zero : (i s n : ℕ) (st : State) → s ≡ 0 → ask i s n st ≡ nothing_found NotRegistered
ask-zero i s n st h = rw (eq-eqb s 0)

pub ask-denied : (i s n : ℕ) (st : State) {r : Reason} → (s ≡ 0 → ⊥) → Shut i s st.groups r → ask i s n st ≡ nothing_found r
ask-denied i s n st h d = rw (ne_eqb s 0) (d.lookups n)

pub ask-open : (i s n k : ℕ) (st : State) → (s ≡ 0 → ⊥) → Open i s k st.groups → ask i s n st ≡ looked (group_at st.groups k).members (lookup n (names_at k st))
ask-open i s n k st h o = rw (ne_eqb s 0, o.seat.finds, o.member) (ap (λ (g : Group). looked g.members (lookup n g.names)) (sym (seat-group o.seat)))
