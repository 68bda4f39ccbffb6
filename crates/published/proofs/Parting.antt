-- The gr_names of nodes that leave an s_group: what is left of them, who is left with none, and who is still in an s_group. Assumes nothing.
use Rattle.std.specs.Prelude.{◌≡◌, refl, Bool, true, false, not, ◌&&◌, ◌||◌, cond, ℕ, ◌<◌, eqb}
use Rattle.std.proofs.Common.{sym, ap, ◌∙◌, subst, ⊎_elim, eqb-true, ne_eqb}
use Rattle.std.proofs.Math.Path.{fun_ext}
use Rattle.std.proofs.lemmas.Bool.{false≢true}
use Rattle.std.proofs.Math.Bool.{and-true, and-false, and-eq-true_iff, or-true}
use Rattle.nodes.specs.Bools.{by_eq}
use Rattle.semantics.specs.Sizes.{group_names}
use Rattle.semantics.specs.Truth.{or_cases, unless}
use Rattle.published.specs.Published.{Set, Map, any, SGroup, GrNames, NoGroup, Names, IsSGroupNode, LessSGroupS, left_none}
use Rattle.published.specs.Seen.{names_seen}
use Rattle.published.proofs.SomeBelow.{any-hit, any_case, any_none, any-is}
use Rattle.published.proofs.GroupsSeen.{member}
use Rattle.published.proofs.Merging.{to_NoGroup}

module _ (grs grs' : Map SGroup) (s : ℕ) (nis : Set)
    (fewer : (i t : ℕ) → member i (grs' t) ≡ member i (grs t) && not (nis i && eqb s t)) (low : (i t : ℕ) → member i (grs t) ≡ true → t < group_names) where
  -- the gr_names that RemoveSGroup leaves
  abbrev pub left_names : ℕ → GrNames
  left_names i = cond (nis i) (LessSGroupS s (names_seen i grs)) (names_seen i grs)

  still-none : (i : ℕ) → IsSGroupNode i grs ≡ false → IsSGroupNode i grs' ≡ false
  still-none i h =
      unless (IsSGroupNode i grs') (λ e. any_case group_names (λ t. member i (grs' t)) e (λ t l q.
      false≢true (sym (any_none group_names (λ u. member i (grs u)) h t l) ∙ ((and-eq-true_iff (member i (grs t)) _).0 (sym (fewer i t) ∙ q)).0)))

  pub names-left : (i : ℕ) → to_NoGroup (left_names i) ≡ names_seen i grs'
  names-left i = go (nis i) refl (IsSGroupNode i grs) refl
    where
      go : (x : Bool) → nis i ≡ x → (y : Bool) → IsSGroupNode i grs ≡ y
          → to_NoGroup (cond x (LessSGroupS s (cond y (Names (λ t. member i (grs t))) NoGroup)) (cond y (Names (λ t. member i (grs t))) NoGroup))
          ≡ names_seen i grs'
      go true e true h = ap (λ (a : Set). cond (any group_names a) (Names a) NoGroup) (sym (fun_ext (λ t. fewer i t ∙ rw e)))
      go true e false h = rw (still-none i h)
      go false e true h = ap (λ (a : Set). cond (any group_names a) (Names a) NoGroup) (sym (fun_ext (λ t. fewer i t ∙ rw e (and-true (member i (grs t))))))
      go false e false h = rw (still-none i h)

  -- who is left with none has left the last
  pub left-last : (i : ℕ) → left_none (left_names i) ≡ (member i (grs s) && nis i) && not (IsSGroupNode i grs')
  left-last i = go (nis i) refl (IsSGroupNode i grs) refl
    where
      none_here : IsSGroupNode i grs ≡ false → member i (grs s) ≡ false
      none_here h = unless (member i (grs s)) (λ e. false≢true (sym h ∙ any-hit group_names (λ t. member i (grs t)) s (low i s e) e))

      last : nis i ≡ true → IsSGroupNode i grs ≡ true → IsSGroupNode i grs' ≡ false → member i (grs s) ≡ true
      last e h k =
          any_case group_names (λ t. member i (grs t)) h (λ t l a. ⊎_elim
          (λ (p : s ≡ t). subst (λ (x : ℕ). member i (grs x) ≡ true) (sym p) a)
          (λ (p : s ≡ t → ⊥). absurd (false≢true (sym k ∙ any-hit group_names (λ u. member i (grs' u)) t l (fewer i t ∙ rw (a, e, ne_eqb s t p)))))
          (by_eq s t))

      end : (z : Bool) → IsSGroupNode i grs' ≡ z → nis i ≡ true → IsSGroupNode i grs ≡ true → not z ≡ (member i (grs s) && true) && not z
      end true q e h = sym (and-false (member i (grs s) && true))
      end false q e h = sym (rw (last e h q))

      go : (x : Bool) → nis i ≡ x → (y : Bool) → IsSGroupNode i grs ≡ y
          → left_none (cond x (LessSGroupS s (cond y (Names (λ t. member i (grs t))) NoGroup)) (cond y (Names (λ t. member i (grs t))) NoGroup))
          ≡ (member i (grs s) && x) && not (IsSGroupNode i grs')
      go true e true h = ap (λ (a : Set). not (any group_names a)) (sym (fun_ext (λ t. fewer i t ∙ rw e))) ∙ end (IsSGroupNode i grs') refl e h
      go true e false h = sym (rw (none_here h))
      go false e true h = rw (h, and-false (member i (grs s)))
      go false e false h = sym (rw (none_here h))

  -- who was in an s_group is, or has left
  pub in-or-left : (i : ℕ) → IsSGroupNode i grs ≡ IsSGroupNode i grs' || (member i (grs s) && nis i)
  in-or-left i =
      any-is group_names (λ t. member i (grs t)) _ (λ t l a. goes t l a (nis i && eqb s t) refl)
      (λ e. or_cases (IsSGroupNode i grs') _ e
      (λ x. any_case group_names (λ t. member i (grs' t)) x (λ t l a.
      any-hit group_names (λ u. member i (grs u)) t l ((and-eq-true_iff (member i (grs t)) _).0 (sym (fewer i t) ∙ a)).0))
      (λ x. let h = ((and-eq-true_iff (member i (grs s)) (nis i)).0 x).0 in any-hit group_names (λ u. member i (grs u)) s (low i s h) h))
    where
      goes : (t : ℕ) → t < group_names → member i (grs t) ≡ true → (x : Bool) → nis i && eqb s t ≡ x → IsSGroupNode i grs' || (member i (grs s) && nis i)
          ≡ true
      goes t l a true e =
          let q = (and-eq-true_iff (nis i) (eqb s t)).0 e in
          let r : member i (grs s) ≡ true = subst (λ (u : ℕ). member i (grs u) ≡ true) (sym (eqb-true s t q.1)) a in
          rw (r, q.0) (or-true (IsSGroupNode i grs'))
      goes t l a false e = rw (any-hit group_names (λ u. member i (grs' u)) t l (fewer i t ∙ rw (a, e)))
