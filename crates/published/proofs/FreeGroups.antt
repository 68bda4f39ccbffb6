-- Free groups as 000 has them, a set of sets of nodes: what the group of each node tells of that set loses nothing, and what RemoveNodes and the
-- joining of groups do to it. Assumes nothing.
use Rattle.std.specs.Prelude.{◌≡◌, refl, ◌⊎◌, Bool, true, false, not, ◌&&◌, cond, ℕ}
use Rattle.std.proofs.Common.{sym, ap, ◌∙◌, inl, inr}
use Rattle.std.proofs.Math.Path.{fun_ext}
use Rattle.std.proofs.lemmas.Bool.{false≢true, not-true}
use Rattle.std.proofs.Math.Bool.{and-eq-true_iff}
use Rattle.semantics.specs.Truth.{unless}
use Rattle.published.specs.Published.{Set, ◌∖◌, nobody, FreeGroups, Published, Joined, RemoveNodes}
use Rattle.published.specs.WellFormed.{free, WellFormed}
use Rattle.published.proofs.Classes.{normal-is}

-- F is one of the free groups
abbrev pub Among : FreeGroups → Set → Type 0
Among fgs F = (ni : ℕ) × (fgs ni ni ≡ true) × (F ≡ fgs ni)

-- each free group stands at its own nodes alone
pub record Disjoint (fgs : FreeGroups) : Type 0 where
  pub own : (ni ni' : ℕ) → fgs ni ni' ≡ true → fgs ni ni ≡ true
  pub one : (ni ni' : ℕ) → fgs ni ni' ≡ true → fgs ni ≡ fgs ni'

pub fair-disjoint : (X : Published) → WellFormed X → Disjoint X.fgs
fair-disjoint X wf =
    record { own = λ i j h. normal-is X wf i ∙ ((and-eq-true_iff (free false X i) _).0 (sym (wf.free_normal i j) ∙ h)).0; one = wf.disjoint }

-- the same free groups: the same at each node
pub same-groups : (a b : FreeGroups) → Disjoint a → Disjoint b → ((F : Set) → Among a F → Among b F) → ((F : Set) → Among b F → Among a F) → a ≡ b
same-groups a b p q f g = fun_ext (λ i. go i (a i i) refl (b i i) refl)
  where
    none : (c : FreeGroups) → Disjoint c → (i : ℕ) → c i i ≡ false → c i ≡ nobody
    none c d i e = fun_ext (λ j. unless (c i j) (λ h. false≢true (sym e ∙ d.own i j h)))

    meets : (c d : FreeGroups) → Disjoint d → ((F : Set) → Among c F → Among d F) → (i : ℕ) → c i i ≡ true → c i ≡ d i
    meets c d w h i e =
        let z = h (c i) (i, e, refl) in
        z.2 ∙ w.one z.0 i (ap (λ (F : Set). F i) (sym z.2) ∙ e)

    go : (i : ℕ) (x : Bool) → a i i ≡ x → (y : Bool) → b i i ≡ y → a i ≡ b i
    go i true e y r = meets a b q f i e
    go i false e true r = sym (meets b a p g i r)
    go i false e false r = none a p i e ∙ sym (none b q i r)

-- ---- RemoveNodes leaves each free group less nis, but an empty one

module _ (nis : Set) (X : Published) where
  pub removed_from : (F : Set) → Among (RemoveNodes nis X).fgs F → (G : Set) × Among X.fgs G × (F ≡ G ∖ nis) × ((ni : ℕ) × (F ni ≡ true))
  removed_from F m = go (nis m.0) refl m.1 m.2
    where
      go : (x : Bool) → nis m.0 ≡ x → cond x nobody (X.fgs m.0 ∖ nis) m.0 ≡ true → F ≡ cond x nobody (X.fgs m.0 ∖ nis)
          → (G : Set) × Among X.fgs G × (F ≡ G ∖ nis) × ((ni : ℕ) × (F ni ≡ true))
      go true e h r = absurd (false≢true h)
      go false e h r =
          (X.fgs m.0, (m.0, ((and-eq-true_iff (X.fgs m.0 m.0) _).0 h).0, refl), r, (m.0, ap (λ (G : Set). G m.0) r ∙ h))

  pub removed-to : Disjoint X.fgs → (G : Set) → Among X.fgs G → (ni : ℕ) → (G ∖ nis) ni ≡ true → Among (RemoveNodes nis X).fgs (G ∖ nis)
  removed-to d G m ni h = (
    ni,
    ap (λ (x : Bool). cond x nobody (X.fgs ni ∖ nis) ni) out ∙ ap (λ (F : Set). (F ∖ nis) ni) (sym same) ∙ h,
    ap (λ (F : Set). F ∖ nis) same ∙ sym (ap (λ (x : Bool). cond x nobody (X.fgs ni ∖ nis)) out),
  )
    where
      parts : (G ni ≡ true) × (not (nis ni) ≡ true)
      parts = (and-eq-true_iff (G ni) (not (nis ni))).0 h

      out : nis ni ≡ false
      out = not-true (nis ni) parts.1

      same : G ≡ X.fgs ni
      same = m.2 ∙ d.one m.0 ni (ap (λ (F : Set). F ni) (sym m.2) ∙ parts.0)

-- ---- where the groups of the nodes of nis become one, there are nis and the groups that have none of it

module _ (nis : Set) (fgs : FreeGroups) where
  pub joined_from : Disjoint fgs → ((i j : ℕ) → fgs i j ≡ true → nis i ≡ true → nis j ≡ true) → (F : Set) → Among (Joined nis fgs) F
      → (F ≡ nis) ⊎ (Among fgs F × ((ni : ℕ) → F ni && nis ni ≡ false))
  joined_from d closed F m = go (nis m.0) refl m.1 m.2
    where
      go : (x : Bool) → nis m.0 ≡ x → cond x nis (fgs m.0) m.0 ≡ true → F ≡ cond x nis (fgs m.0)
          → (F ≡ nis) ⊎ (Among fgs F × ((ni : ℕ) → F ni && nis ni ≡ false))
      go true e h r = inl r
      go false e h r = inr (
        (m.0, h, r),
        λ j. unless (F j && nis j) (λ k.
            let p = (and-eq-true_iff (F j) (nis j)).0 k in
            let back : fgs j m.0 ≡ true = ap (λ (G : Set). G m.0) (sym (d.one m.0 j (ap (λ (G : Set). G j) (sym r) ∙ p.0))) ∙ h in
            false≢true (sym e ∙ closed j m.0 back p.1)),
      )

  pub joined-to-one : (ni : ℕ) → nis ni ≡ true → Among (Joined nis fgs) nis
  joined-to-one ni e = (ni, ap (λ (x : Bool). cond x nis (fgs ni) ni) e ∙ e, sym (ap (λ (x : Bool). cond x nis (fgs ni)) e))

  pub joined-to-others : (F : Set) → Among fgs F → ((ni : ℕ) → F ni && nis ni ≡ false) → Among (Joined nis fgs) F
  joined-to-others F m h = (m.0, ap (λ (x : Bool). cond x nis (fgs m.0) m.0) out ∙ m.1, m.2 ∙ sym (ap (λ (x : Bool). cond x nis (fgs m.0)) out))
    where
      out : nis m.0 ≡ false
      out = sym (ap (λ (x : Bool). x && nis m.0) (ap (λ (G : Set). G m.0) m.2 ∙ m.1)) ∙ h m.0
