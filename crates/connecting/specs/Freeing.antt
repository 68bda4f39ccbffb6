-- Leaving free groups and becoming free as the code does it: over the roster, and over the members of sets. Assumes nothing.
use Rattle.std.specs.Prelude.{◌≡◌, refl, Bool, true, false, not, ◌&&◌, ℕ, ◌+◌, ◌-◌, ◌≤◌, ◌<◌, length, get_or, take, drop}
use Rattle.std.proofs.Common.{sym, ◌∙◌, ⊎_elim, true≢false, zero-add, arith, lit<, length-append, length-drop, take-append-drop, take_at, get_or-append-add, get_or-take, get_or-drop, length-take-le, ext_get_or, eq-eqb, eqb-true}
use Rattle.std.proofs.Math.Path.{ap, ap₂, subst}
use Rattle.std.proofs.Math.Bool.{and-eq-true_iff}
use Rattle.std.proofs.lemmas.Bool.{false≢true}
use mathlib.Core.List.{List, [], ◌++◌, map}
use Rattle.std.proofs.lemmas.List.{length-map}
use Rattle.std.proofs.Math.ListN.{get_or-append, get_or-eq_default}
use Rattle.nodes.specs.Sets.{node_limit, has, empty, union, inter, diff, union_all, unions_at}
use Rattle.nodes.specs.Bools.{by_lt, by_test, test-ext}
use Rattle.nodes.proofs.SetLaws.{has-inter, has_diff, has-none, has-ext, inter-none, diff-none, none-union}
use Rattle.nodes.proofs.Walk.{unions_at-in, unions_at_out}
use Rattle.semantics.specs.Sizes.{group_limit, members_at, links_at, free_at}
use Rattle.semantics.specs.State.{Group, State, with_links, with_free, all_members}
use Rattle.semantics.specs.Table.{sections}
use Rattle.semantics.specs.Steps.{left, leave_free, merge, lot, touched, become_free}
use Rattle.semantics.specs.Truth.{unless}
use Rattle.semantics.specs.Members.{length-leave_free, getD-mapi}
use Rattle.semantics.proofs.Freed.{touched-in, touched_out}
use Rattle.semantics.specs.ThreeParts.{Cut}
use Rattle.semantics.specs.Sections.{read, lent-in}
use Rattle.semantics.specs.WordsOfState.{Sized, Laid, count-is, hidden-is, links-are, free-are}
use Rattle.connecting.specs.Loosed.{Rostered, Apart}
use Rattle.connecting.specs.PairConnected.{interconnect-same, one_free_group-same}

-- ---- leaving: the words past the roster are zeros, and stay so

left-zero : (m i : ℕ) → left m i 0 ≡ 0
left-zero m i = ⊎_elim (λ (h : has m i ≡ true). rw h) (λ (h : has m i ≡ false). rw h (diff-none m)) (by_test (has m i))

at-leave_free : (m : ℕ) (l : List ℕ) (i : ℕ) → i < length l → get_or (leave_free m l) i 0 ≡ left m i (get_or l i 0)
unfolding leave_free
at-leave_free m l i h = getD-mapi (left m) 0 i l h ∙ ap (λ (k : ℕ). left m k (get_or l i 0)) (zero-add i)

pub leave-first : (m n : ℕ) (l : List ℕ) → n ≤ length l → ((i : ℕ) → n ≤ i → get_or l i 0 ≡ 0) → leave_free m (take n l) ++ drop n l ≡ leave_free m l
leave-first m n l h z =
    ext_get_or 0 _ _ (omega (arith, length-append (leave_free m (take n l)) (drop n l), front, length-drop n l, length-leave_free m l)) (λ i j.
    ⊎_elim
    (λ (b : i < n).
    get_or-append (leave_free m (take n l)) (drop n l) 0 i (omega (arith, front)) ∙ at-leave_free m (take n l) i (omega (arith, length-take-le n l h))
    ∙ ap (left m i) (get_or-take n l i 0 b) ∙ sym (at-leave_free m l i (omega arith)))
    (λ (b : n ≤ i). past i b ∙ sym (within i b (omega (arith, j, length-append (leave_free m (take n l)) (drop n l), front, length-drop n l))))
    (by_lt i n))
  where
    front : length (leave_free m (take n l)) ≡ n
    front = length-leave_free m (take n l) ∙ length-take-le n l h

    past : (i : ℕ) → n ≤ i → get_or (leave_free m (take n l) ++ drop n l) i 0 ≡ 0
    past i b =
        let e : i ≡ length (leave_free m (take n l)) + (i - n) = omega (arith, front) in
        let f : n + (i - n) ≡ i = omega arith in
        ap (λ (k : ℕ). get_or (leave_free m (take n l) ++ drop n l) k 0) e ∙ get_or-append-add (leave_free m (take n l)) (drop n l) (i - n) 0
        ∙ get_or-drop n l (i - n) 0 ∙ ap (λ (k : ℕ). get_or l k 0) f ∙ z i b

    within : (i : ℕ) → n ≤ i → i < length l → get_or (leave_free m l) i 0 ≡ 0
    within i b j = at-leave_free m l i j ∙ ap (left m i) (z i b) ∙ left-zero m i

-- the roster's words lent to a callee that left the nodes of m out of them
pub left-free : {cap : ℕ} {st : State} {t : List ℕ} → Laid cap st t → Rostered st → (m n : ℕ) (r : List ℕ) → n ≡ st.size → n ≤ node_limit
    → length r ≡ length (take (free_at + n - free_at) (drop free_at t)) → r ≡ leave_free m (take (free_at + n - free_at) (drop free_at t))
    → Laid cap (with_free (leave_free m st.free) st) (take free_at t ++ (r ++ drop (free_at + n - free_at) (drop free_at t)))
unfolding sections
left-free {st = st} l z m n r en few k e =
    let h : n ≤ length st.free = omega (arith, l.sized.free_long) in
    let d : Cut 0 n st.free [] (take n st.free) (drop n st.free) = record { is = sym (take-append-drop n st.free); starts = refl; long = length-take-le n st.free h } in
    let s : leave_free m (take n st.free) ++ drop n st.free ≡ leave_free m st.free = leave-first m n st.free h (λ i j. z i (omega arith)) in
    record {
      sized = record { groups_few = l.sized.groups_few; links_long = l.sized.links_long; free_long = length-leave_free m st.free ∙ l.sized.free_long };
      run = rw s at (lent-in l.run 4 (lit< tt) d free_at (free_at + n) refl refl (leave_free m) r k e);
    }

-- ---- becoming free

-- the members of all s_groups, gathered from the table
pub gathered : {cap : ℕ} {st : State} {t : List ℕ} → Laid cap st t → union_all (take (get_or t 2 0) (take group_limit (drop members_at t))) ≡ all_members st.groups
unfolding sections
gathered {st = st} l =
    rw (count-is l, read l.run 2 (lit< tt), ← length-map {A = Group} {B = ℕ} st.groups (λ g. g.members))
    (ap union_all (take_at (map (λ g. g.members) st.groups) _ (length (map (λ g. g.members) st.groups)) refl))

module _ {st : State} (w : Apart st) (sized : Sized st) (m : ℕ) where
  same-long : length st.links ≡ length st.free
  same-long = sized.links_long ∙ sym sized.free_long

  -- a node of the lists
  in_list : (l : List ℕ) (i j : ℕ) → length l ≡ node_limit → has (get_or l i 0) j ≡ true → i < node_limit
  in_list l i j e h =
      ⊎_elim (λ (b : i < node_limit). b)
      (λ (b : node_limit ≤ i). absurd (false≢true (sym (has-none j) ∙ ap (λ (x : ℕ). has x j) (sym (get_or-eq_default l 0 (omega arith))) ∙ h)))
      (by_lt i node_limit)

  -- the nodes that are connected with one of m
  abbrev met : ℕ
  met = unions_at st.links m

  met-out : (k : ℕ) → has met k ≡ true → empty (inter (get_or st.links k 0) m) ≡ false
  met-out k h =
      let q = unions_at_out st.links m k h in
      unless (empty (inter (get_or st.links k 0) m)) (λ z. false≢true (sym (has-none q.0) ∙ ap (λ (x : ℕ). has x q.0) (sym (eqb-true _ 0 z))
      ∙ has-inter (get_or st.links k 0) m q.0 ∙ ap₂ ◌&&◌ (w.both_ways k q.0 ∙ q.3) q.2))

  met-in : (k : ℕ) → empty (inter (get_or st.links k 0) m) ≡ false → has met k ≡ true
  met-in k e = ⊎_elim (λ (h : has met k ≡ true). h) (λ (h : has met k ≡ false). absurd (true≢false (sym (eq-eqb _ 0 (none h)) ∙ e))) (by_test (has met k))
    where
      none : has met k ≡ false → inter (get_or st.links k 0) m ≡ 0
      none h = has-ext _ 0 (λ j. unless _ (λ x. false≢true (sym h ∙ found j ((and-eq-true_iff _ _).0 (sym (has-inter (get_or st.links k 0) m j) ∙ x)))) ∙ sym (has-none j))
        where
          found : (j : ℕ) → (has (get_or st.links k 0) j ≡ true) × (has m j ≡ true) → has met k ≡ true
          found j p =
              let b : has (get_or st.links j 0) k ≡ true = w.both_ways j k ∙ p.0 in
              unions_at-in st.links m k j (in_list st.links j k sized.links_long b) p.1 b

  -- the free groups that have a node connected to one of m, by members
  pub touched-members : unions_at st.free (diff (diff met (all_members st.groups)) st.hidden) ≡ touched m st
  touched-members = has-ext _ _ (λ i. test-ext _ _ (out i) (back i))
    where
      near : ℕ → Bool
      near k = has (diff (diff met (all_members st.groups)) st.hidden) k

      near-is : (k : ℕ) → near k ≡ (has met k && not (has (all_members st.groups) k)) && not (has st.hidden k)
      near-is k = has_diff (diff met (all_members st.groups)) st.hidden k ∙ ap (λ (x : Bool). x && not (has st.hidden k)) (has_diff met (all_members st.groups) k)

      out : (i : ℕ) → has (unions_at st.free (diff (diff met (all_members st.groups)) st.hidden)) i ≡ true → has (touched m st) i ≡ true
      out i h =
          let q = unions_at_out st.free _ i h in
          let p = (and-eq-true_iff _ _).0 ((and-eq-true_iff _ _).0 (sym (near-is q.0) ∙ q.2)).0 in
          touched-in m st same-long q.0 i (met-out q.0 p.0) q.3

      back : (i : ℕ) → has (touched m st) i ≡ true → has (unions_at st.free (diff (diff met (all_members st.groups)) st.hidden)) i ≡ true
      back i h =
          let q = touched_out m st same-long i h in
          unions_at-in st.free _ i q.0 (in_list st.free q.0 i sized.free_long q.2)
          (near-is q.0 ∙ rw (met-in q.0 q.1, w.outside q.0 i q.2, w.normal q.0 i q.2)) q.2

-- where no node becomes free
pub none-freed : (gone : ℕ) (st : State) → Sized st → lot gone st.groups st ≡ 0 → become_free gone st.groups st ≡ st
unfolding become_free
none-freed gone st z e =
    ap (λ (m : ℕ). merge (union m (touched m st)) st) e ∙ ap (λ (m : ℕ). merge m st) (none-union (touched 0 st) ∙ untouched) ∙ unmerged
  where
    untouched : touched 0 st ≡ 0
    untouched = has-ext _ 0 (λ i. unless _ (λ h. let q = touched_out 0 st (z.links_long ∙ sym z.free_long) i h in
        true≢false (sym (eq-eqb _ 0 (inter-none (get_or st.links q.0 0))) ∙ q.1)) ∙ sym (has-none i))

    unmerged : merge 0 st ≡ st
    unmerged = λ i. with_free (one_free_group-same 0 st.free (lit< tt) z.free_long (λ k. rw (has-none k)) i)
        (with_links (interconnect-same 0 st.links (lit< tt) z.links_long (λ k. rw (has-none k)) i) st)

-- ---- what the code has at its ends

module _ {cap : ℕ} {st : State} {t : List ℕ} (l : Laid cap st t) (gone taken apart those : ℕ)
    (taken_is : taken ≡ union_all (take (get_or t 2 0) (take group_limit (drop members_at t)))) (apart-is : apart ≡ diff gone taken)
    (those-are : those ≡ diff apart (get_or t 1 0)) where
  all-taken : taken ≡ all_members st.groups
  all-taken = taken_is ∙ gathered l

  the-lot : those ≡ lot gone st.groups st
  the-lot = those-are ∙ ap₂ diff (apart-is ∙ ap (diff gone) all-taken) (hidden-is l)

  pub nobody-freed : those ≡ 0 → Laid cap (become_free gone st.groups st) t
  nobody-freed z = subst (λ (x : State). Laid cap x t) (sym (none-freed gone st l.sized (sym the-lot ∙ z))) l

  pub lot-freed : Apart st → (met beside near beyond m : ℕ) (u : List ℕ) → met ≡ unions_at (take node_limit (drop links_at t)) those
      → beside ≡ diff met taken → near ≡ diff beside (get_or t 1 0) → beyond ≡ unions_at (take node_limit (drop free_at t)) near → m ≡ union those beyond
      → Laid cap (merge m st) u → Laid cap (become_free gone st.groups st) u
  unfolding become_free
  lot-freed w met beside near beyond m u e f g h k =
      let near-is : near ≡ diff (diff (unions_at st.links those) (all_members st.groups)) st.hidden =
      g ∙ ap₂ diff (f ∙ ap₂ diff (e ∙ ap (λ (ws : List ℕ). unions_at ws those) (links-are l)) all-taken) (hidden-is l) in
      let beyond-is : beyond ≡ touched (lot gone st.groups st) st =
      h ∙ ap₂ unions_at (free-are l) near-is ∙ touched-members w l.sized those ∙ ap (λ (x : ℕ). touched x st) the-lot in
      subst (λ (x : State). Laid cap x u) (ap (λ (x : ℕ). merge x st) (k ∙ ap₂ union the-lot beyond-is))
