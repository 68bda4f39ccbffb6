-- A regular state stays regular when nodes leave an s_group: the normal ones that are in none become free. Assumes nothing.
use Rattle.std.specs.Prelude.{◌≡◌, refl, Bool, true, false, not, ◌&&◌, ◌||◌, cond, List, ℕ, ◌^◌, ◌≤◌, ◌<◌, ltb, length, get_or}
use Rattle.std.proofs.Common.{sym, ap, ap₂, ◌∙◌, ⊎_elim, true≢false, lt_of_le_of_lt, arith, eqb-true, lt-ltb}
use Rattle.std.proofs.lemmas.Bool.{false≢true, eqb-false}
use Rattle.std.proofs.Math.Bool.{and-eq-true_iff}
use Rattle.std.proofs.Math.Option.{some}
use Rattle.nodes.specs.Sets.{has, empty, union, inter, diff}
use Rattle.nodes.specs.Bools.{by_test}
use Rattle.nodes.proofs.SetLaws.{has-union, has-inter, has_diff, has-none, has-below, below-pow, none-inter, inter-le-l, diff-le, union_all-in, union_all_out, subset-diff}
use Rattle.entries.specs.Entries.{Entry}
use Rattle.entries.specs.NamespaceKept.{sound-drop_hosted}
use Rattle.semantics.specs.Sizes.{group_limit}
use Rattle.semantics.specs.State.{Group, State, with_groups, free_of, find, put, drop_group, all_members}
use Rattle.semantics.specs.Steps.{zip_with, interconnect, lot, near, touched, become_free, kept_names, left_in}
use Rattle.semantics.specs.Regular.{Every, Rising, RegularGroup, Met, Regular, loose}
use Rattle.semantics.specs.Truth.{or_cases, neither, unless}
use Rattle.semantics.specs.Members.{in-word, at-zip_with, length-one_free_group}
use Rattle.semantics.specs.Groups.{every_map, every-put, every_drop, of-found, rising-put, rising-drop, length-put, length-drop_group, all_found, all-put}
use Rattle.semantics.specs.Merged.{wired-merge}
use Rattle.semantics.specs.FreeGroupsOfNodes.{has-free_nodes, loose-on_roster, loose_in, own_free, spread}
use Rattle.semantics.specs.Changed.{regular-rewired, met-still, place, regular-found, small-name}

-- ---- what is touched: the free groups of the nodes k whose connections meet m

module _ (m : ℕ) (st : State) (long : length st.links ≡ length st.free) where
  word-touched : (k : ℕ) → get_or (zip_with (near m) st.links st.free) k 0 ≡ near m (get_or st.links k 0) (free_of k st)
  word-touched k = at-zip_with (near m) (rw (none-inter m)) st.links st.free long k

  pub touched-in : (k i : ℕ) → empty (inter (get_or st.links k 0) m) ≡ false → has (free_of k st) i ≡ true → has (touched m st) i ≡ true
  touched-in k i e h = union_all-in _ k i (rw (word-touched k, e) h)

  pub touched_out : (i : ℕ) → has (touched m st) i ≡ true
      → (k : ℕ) × (empty (inter (get_or st.links k 0) m) ≡ false) × (has (free_of k st) i ≡ true)
  touched_out i h =
      let q = union_all_out (zip_with (near m) st.links st.free) i h in
      let r = kept (empty (inter (get_or st.links q.0 0) m)) (free_of q.0 st) (rw (word-touched q.0) at q.2) in
      (q.0, r.0, r.1)
    where
      kept : (x : Bool) (f : ℕ) → has (cond x 0 f) i ≡ true → (x ≡ false) × (has f i ≡ true)
      kept true f e = absurd (false≢true (sym (has-none i) ∙ e))
      kept false f e = (refl, e)

-- two sets that share a node
sharing : (a b j : ℕ) → has a j ≡ true → has b j ≡ true → empty (inter a b) ≡ false
sharing a b j p q =
    unless (empty (inter a b)) λ z. false≢true (sym (has-none j) ∙ ap (λ (x : ℕ). has x j) (sym (eqb-true (inter a b) 0 z)) ∙ has-inter a b j ∙ rw (p, q))

-- ---- the tests of one node: r on the roster, h hidden, a in an s_group after it, g gone from one

lot-loose : (r h a g : Bool) → (g ≡ true → r ≡ true) → (g && not a) && not h ≡ true → (r && not h) && not a ≡ true
lot-loose true true true true k e = e
lot-loose true true false true k e = e
lot-loose true false true true k e = e
lot-loose true false false true k e = refl
lot-loose r h a false k e = absurd (false≢true e)
lot-loose false h a true k e = absurd (false≢true (k refl))

loose-after : (n a g : Bool) → n && not (a || g) ≡ true → n && not a ≡ true
loose-after true true g e = e
loose-after true false true e = refl
loose-after true false false e = refl
loose-after false a g e = e

not-lot : (r h a g : Bool) → (g && not a) && not h ≡ false → (r && not h) && not a ≡ (r && not h) && not (a || g)
not-lot true true true g e = refl
not-lot true true false g e = refl
not-lot true false true g e = refl
not-lot true false false true e = absurd (true≢false e)
not-lot true false false false e = refl
not-lot false h a g e = refl

-- ---- the nodes of gone have left, and the s_groups are gs

module _ {cap : ℕ} {st : State} (w : Regular cap st) (gone : ℕ) (gs : List Group) (few : length gs ≤ group_limit) (rising : Rising 0 gs)
    (each : Every (RegularGroup cap st.size) gs) (met : Every (Met st.links) gs)
    (parted : (i : ℕ) → has (all_members st.groups) i ≡ has (all_members gs) i || has gone i) (gone-in : gone < 2 ^ st.size) where
  was_loose : (i : ℕ) → loose st i ≡ (ltb i st.size && not (has st.hidden i)) && not (has (all_members gs) i || has gone i)
  was_loose i = has-free_nodes st i ∙ rw (parted i)

  in-lot : (i : ℕ) → has (lot gone gs st) i ≡ (has gone i && not (has (all_members gs) i)) && not (has st.hidden i)
  in-lot i = has_diff (diff gone (all_members gs)) st.hidden i ∙ ap (λ (x : Bool). x && not (has st.hidden i)) (has_diff gone (all_members gs) i)

  -- the lot, with the free groups that it touches
  abbrev whole : ℕ
  whole = union (lot gone gs st) (touched (lot gone gs st) st)

  same-long : length st.links ≡ length st.free
  same-long = w.links_long ∙ sym w.free_long

  in_whole : {A : Type 0} (i : ℕ) → has whole i ≡ true → (has (lot gone gs st) i ≡ true → A) → (has (touched (lot gone gs st) st) i ≡ true → A) → A
  in_whole i e = or_cases _ _ (sym (has-union (lot gone gs st) (touched (lot gone gs st) st) i) ∙ e)

  loosened : (i : ℕ) → has whole i ≡ true → loose (with_groups gs st) i ≡ true
  loosened i e =
      has-free_nodes (with_groups gs st) i ∙ in_whole i e
      (λ x. lot-loose (ltb i st.size) (has st.hidden i) (has (all_members gs) i) (has gone i) (λ g. lt-ltb i st.size (has-below gone st.size i gone-in g))
      (sym (in-lot i) ∙ x))
      (λ x. let q = touched_out (lot gone gs st) st same-long i x in
      loose-after (ltb i st.size && not (has st.hidden i)) (has (all_members gs) i) (has gone i) (sym (was_loose i) ∙ loose_in w q.0 i q.2))

  others : (i : ℕ) → has whole i ≡ false → loose (with_groups gs st) i ≡ loose st i
  others i e =
      has-free_nodes (with_groups gs st) i
      ∙ not-lot (ltb i st.size) (has st.hidden i) (has (all_members gs) i) (has gone i)
      (sym (in-lot i) ∙ (neither (has (lot gone gs st) i) _ (sym (has-union (lot gone gs st) (touched (lot gone gs st) st) i) ∙ e)).0)
      ∙ sym (was_loose i)

  -- a loose node that is connected with one of the whole is in it
  closed : (i j : ℕ) → has whole j ≡ true → has whole i ≡ false → loose st i ≡ true → has (get_or st.links i 0) j ≡ false
  closed i j mj mi li =
      unless (has (get_or st.links i 0) j) λ l. false≢true (sym (no-touched i mi) ∙ in_whole j mj
      (λ x. touched-in (lot gone gs st) st same-long i i (sharing (get_or st.links i 0) (lot gone gs st) j l x) (own_free w i ∙ li))
      (λ x. let q = touched_out (lot gone gs st) st same-long j x in touched-in (lot gone gs st) st same-long q.0 i q.1 (spread w q.0 i j q.2 li l)))
    where
      no-touched : (i : ℕ) → has whole i ≡ false → has (touched (lot gone gs st) st) i ≡ false
      no-touched i e = (neither (has (lot gone gs st) i) _ (sym (has-union (lot gone gs st) (touched (lot gone gs st) st) i) ∙ e)).1

  pub regular-become_free : Regular cap (become_free gone gs st)
  unfolding become_free
  regular-become_free =
      let small : whole < 2 ^ st.size = below-pow whole st.size (λ i e. loose-on_roster (with_groups gs st) i (loosened i e)) in
      regular-rewired w whole gs _ small few rising each (every_map (Met st.links) (Met (interconnect whole st.links)) (met-still w whole small) gs met)
      (length-one_free_group whole st.free ∙ w.free_long)
      (wired-merge (loose st) _ whole st.links st.free (in-word w.size_high small) w.links_long w.free_long loosened others closed w.wires)

-- ---- an s_group goes, or loses members

module _ {cap : ℕ} {st : State} (w : Regular cap st) (s : ℕ) (g : Group) (f : find s st.groups ≡ some g) where
  pub regular-delete : Regular cap (become_free g.members (drop_group s st.groups) st)
  regular-delete =
      regular-become_free w g.members (drop_group s st.groups) (omega (arith, length-drop_group s st.groups, w.groups_few))
      (rising-drop s 0 st.groups w.rising) (every_drop (RegularGroup cap st.size) s st.groups w.each)
      (every_drop (Met st.links) s st.groups w.met) (all_found s st.groups g (place w s g f)) (regular-found w s g f).on_roster

  -- some are left
  pub regular-remove : (set : ℕ) → empty (diff g.members set) ≡ false
      → Regular cap (become_free (inter g.members set) (put s (diff g.members set) (kept_names set g) st.groups) st)
  regular-remove set manned =
      let m : ℕ = diff g.members set in
      let ns : List Entry = kept_names set g in
      regular-become_free w (inter g.members set) (put s m ns st.groups) (omega (arith, length-put s m ns st.groups, w.groups_few))
      (rising-put s m ns 0 st.groups w.rising)
      (every-put (RegularGroup cap st.size) (RegularGroup cap st.size) s m ns (λ k p. p)
      (record {
        small = small-name w s g f;
        some_member = eqb-false m 0 manned;
        on_roster = lt_of_le_of_lt (diff-le g.members set) (regular-found w s g f).on_roster;
        names_sound = sound-drop_hosted cap st.size (inter g.members set) g.names (regular-found w s g f).names_sound;
      }) st.groups w.each)
      (every-put (Met st.links) (Met st.links) s m ns (λ k p. p)
      (λ i j a b n. of-found s st.groups g f (Met st.links) w.met i j (still set i a) (still set j b) n) st.groups w.met)
      (parted set) (lt_of_le_of_lt (inter-le-l g.members set) (regular-found w s g f).on_roster)
    where
      still : (set i : ℕ) → has (diff g.members set) i ≡ true → has g.members i ≡ true
      still set i h = ((and-eq-true_iff (has g.members i) _).0 (sym (has_diff g.members set i) ∙ h)).0

      parted : (set i : ℕ) → has (all_members st.groups) i
          ≡ has (all_members (put s (diff g.members set) (kept_names set g) st.groups)) i || has (inter g.members set) i
      parted set i =
          all_found s st.groups g (place w s g f) i ∙ split (has (all_members (drop_group s st.groups)) i) (has g.members i) (has set i)
          ∙ sym (ap₂ (λ (x y : Bool). x || y)
          (all-put s st.groups g (place w s g f) (diff g.members set) (kept_names set g) i
          ∙ ap (λ (x : Bool). has (all_members (drop_group s st.groups)) i || x) (has_diff g.members set i)) (has-inter g.members set i))
        where
          split : (a x t : Bool) → a || x ≡ (a || (x && not t)) || (x && t)
          split true x t = refl
          split false true true = refl
          split false true false = refl
          split false false t = refl

  -- none is left, so that the s_group goes
  pub regular-empty : (set : ℕ) → empty (diff g.members set) ≡ true → Regular cap (become_free (inter g.members set) (drop_group s st.groups) st)
  regular-empty set e = rw (eqb-true (inter g.members set) g.members (subset-diff g.members set ∙ e)) regular-delete

  pub regular-left_in : (set : ℕ) → Regular cap (become_free (inter g.members set) (left_in s set g st.groups) st)
  regular-left_in set =
      ⊎_elim (λ (e : empty (diff g.members set) ≡ true). rw e (regular-empty set e)) (λ (e : empty (diff g.members set) ≡ false). rw e (regular-remove set e))
      (by_test (empty (diff g.members set)))
