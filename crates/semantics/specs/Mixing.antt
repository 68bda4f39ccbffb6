-- Where lines that do not clash can change places, any two mixes of scripts whose lines do not clash agree. Over any machine. Assumes nothing.
use Rattle.std.specs.Prelude.{◌≡◌, ◌≢◌, Bool, ℕ, suc, ◌≤◌, ◌<◌, eqb, length}
use Rattle.std.proofs.Math.Path.{refl, sym, ap, ap₂}
use Rattle.std.proofs.Common.{◌∙◌, subst, eqb-true, eq-eqb, ne_eqb}
use Rattle.std.proofs.Math.Bool.{true, false, cond}
use mathlib.Core.List.{List, [], ◌∷◌, ◌++◌, map, Memᴰ, nil≢cons, head-eq_of_cons-eq, tail-eq_of_cons-eq, append-nil}
use Rattle.std.proofs.Math.ListN.{get_or, get_or-eq_default}
use native.Mathlib.Omega.{arith}
use Rattle.std.proofs.Math.Decide.{dec_lt}
use Rattle.std.proofs.lemmas.Bool.{eqb-false}
use Rattle.semantics.specs.Mixes.{Turn, times, of, Mix, Disjoint, EachOnce, whole, last, answers, Agree}

-- what a test of two script numbers shows
data Same (j k : ℕ) : Bool → Type 0 where
  same : j ≡ k → Same j k true
  other : j ≢ k → Same j k false

compare : (j k : ℕ) → Same j k (eqb j k)
compare j k = go (eqb j k) refl
  where
    go : (x : Bool) → eqb j k ≡ x → Same j k x
    go true e = same (eqb-true j k e)
    go false e = other (eqb-false j k e)

module _ {C : Type 0} where
  -- ---- the lines of one script

  of-own : (k : ℕ) (t : Turn C) (m : List (Turn C)) → t.script ≡ k → of k (t ∷ m) ≡ t.line ∷ of k m
  unfolding of
  of-own k t m e = rw (eq-eqb t.script k e)

  of_other : (k : ℕ) (t : Turn C) (m : List (Turn C)) → t.script ≢ k → of k (t ∷ m) ≡ of k m
  unfolding of
  of_other k t m h = rw (ne_eqb t.script k h)

  pub of_head : (t : Turn C) (m : List (Turn C)) → Memᴰ t.line (of t.script (t ∷ m))
  of_head t m = rw (of-own t.script t m refl) (Memᴰ.head refl)

  pub of_tail : (k : ℕ) (t : Turn C) (m : List (Turn C)) (a : C) → Memᴰ a (of k m) → Memᴰ a (of k (t ∷ m))
  unfolding of
  of_tail k t m a h = go (eqb t.script k)
    where
      go : (x : Bool) → Memᴰ a (cond x (t.line ∷ of k m) (of k m))
      go true = Memᴰ.tail h
      go false = h

  -- ---- the turns without script k's first

  skip : ℕ → List (Turn C) → List (Turn C)
  skip k [] = []
  skip k (t ∷ m) = cond (eqb t.script k) m (t ∷ skip k m)

  of-skip-own : (k : ℕ) (x : C) (r : List C) (m : List (Turn C)) → of k m ≡ x ∷ r → of k (skip k m) ≡ r
  unfolding of skip
  of-skip-own k x r [] e = absurd (nil≢cons e)
  of-skip-own k x r (t ∷ m) e = go (compare t.script k) e (of-skip-own k x r m)
    where
      go : {y : Bool} → Same t.script k y → cond y (t.line ∷ of k m) (of k m) ≡ x ∷ r
          → (of k m ≡ x ∷ r → of k (skip k m) ≡ r) → of k (cond y m (t ∷ skip k m)) ≡ r
      go (same p) q ih = tail-eq_of_cons-eq q
      go (other n) q ih = of_other k t (skip k m) n ∙ ih q

  of-skip-other : (j k : ℕ) → j ≢ k → (m : List (Turn C)) → of j (skip k m) ≡ of j m
  unfolding of skip
  of-skip-other j k h [] = refl
  of-skip-other j k h (t ∷ m) = go (compare t.script k) (of-skip-other j k h m)
    where
      go : {y : Bool} → Same t.script k y → of j (skip k m) ≡ of j m → of j (cond y m (t ∷ skip k m)) ≡ of j (t ∷ m)
      go (same p) ih = sym (of_other j t m (λ q. h (sym q ∙ p)))
      go (other n) ih = ap (λ (l : List C). cond (eqb t.script j) (t.line ∷ l) l) ih

  -- with its first turn gone, a mix is still one of what is left of the scripts
  of-rest : (t : Turn C) (m m' : List (Turn C)) → ((k : ℕ) → of k (t ∷ m) ≡ of k m') → (k : ℕ) → of k m ≡ of k (skip t.script m')
  of-rest t m m' e k = go (compare t.script k)
    where
      go : {y : Bool} → Same t.script k y → of k m ≡ of k (skip t.script m')
      go (same p) =
          subst (λ (n : ℕ). of n m ≡ of n (skip t.script m')) p
          (sym (of-skip-own t.script t.line (of t.script m) m' (sym (e t.script) ∙ of-own t.script t m refl)))
      go (other n) = sym (of_other k t m n) ∙ e k ∙ sym (of-skip-other k t.script (λ q. n (sym q)) m')

  -- ---- turns that do not clash

  -- lines of two scripts of the turns never clash
  abbrev pub Sole : (C → C → Type 0) → List (Turn C) → Type 0
  Sole Clash m = (j k : ℕ) (a b : C) → Memᴰ a (of j m) → Memᴰ b (of k m) → Clash a b → j ≡ k

  sole-tail : (Clash : C → C → Type 0) (t : Turn C) (m : List (Turn C)) → Sole Clash (t ∷ m) → Sole Clash m
  sole-tail Clash t m h j k a b p q = h j k a b (of_tail j t m a p) (of_tail k t m b q)

  sole-same : (Clash : C → C → Type 0) (m m' : List (Turn C)) → ((k : ℕ) → of k m ≡ of k m') → Sole Clash m → Sole Clash m'
  sole-same Clash m m' e h j k a b p q = h j k a b (rw (e j) p) (rw (e k) q)

  pub sole-mix : (Clash : C → C → Type 0) (scripts : List (List C)) (m : List (Turn C)) → Mix scripts m → Disjoint Clash scripts → Sole Clash m
  sole-mix Clash scripts m mix h j k a b p q = h j k a b (rw (← mix j) p) (rw (← mix k) q)

  -- ---- the scripts whole, one after another, are a mix of them

  of-append : (j : ℕ) (a b : List (Turn C)) → of j (a ++ b) ≡ of j a ++ of j b
  unfolding of
  of-append j [] b = refl
  of-append j (t ∷ a) b = go (eqb t.script j) (of-append j a b)
    where
      go : (x : Bool) → of j (a ++ b) ≡ of j a ++ of j b
          → cond x (t.line ∷ of j (a ++ b)) (of j (a ++ b)) ≡ cond x (t.line ∷ of j a) (of j a) ++ of j b
      go true e = ap (λ (l : List C). t.line ∷ l) e
      go false e = e

  -- script k says its lines
  abbrev turns : ℕ → List C → List (Turn C)
  turns k l = map (λ c. record { script = k; line = c }) l

  of_turns : (j k : ℕ) (l : List C) → of j (turns k l) ≡ cond (eqb k j) l []
  unfolding of
  of_turns j k [] = go (eqb k j)
    where
      go : (x : Bool) → [] ≡ cond {A = List C} x [] []
      go true = refl
      go false = refl
  of_turns j k (c ∷ l) = go (eqb k j) (of_turns j k l)
    where
      go : (x : Bool) → of j (turns k l) ≡ cond x l [] → cond x (c ∷ of j (turns k l)) (of j (turns k l)) ≡ cond x (c ∷ l) []
      go true e = ap (λ (r : List C). c ∷ r) e
      go false e = e

  whole-step : (scripts : List (List C)) (j k : ℕ) (ks : List ℕ)
      → of j (whole scripts (k ∷ ks)) ≡ cond (eqb k j) (get_or scripts k []) [] ++ of j (whole scripts ks)
  unfolding whole
  whole-step scripts j k ks =
      of-append j (turns k (get_or scripts k [])) (whole scripts ks) ∙ ap (λ (l : List C). l ++ of j (whole scripts ks)) (of_turns j k (get_or scripts k []))

  whole-never : (scripts : List (List C)) (j : ℕ) (ks : List ℕ) → times j ks ≡ 0 → of j (whole scripts ks) ≡ []
  unfolding whole of
  whole-never scripts j [] h = refl
  whole-never scripts j (k ∷ ks) h = whole-step scripts j k ks ∙ go (eqb k j) h (whole-never scripts j ks)
    where
      go : (x : Bool) → cond x (suc (times j ks)) (times j ks) ≡ 0 → (times j ks ≡ 0 → of j (whole scripts ks) ≡ [])
          → cond x (get_or scripts k []) [] ++ of j (whole scripts ks) ≡ []
      go true e ih = absurd (omega arith)
      go false e ih = ih e

  whole-once : (scripts : List (List C)) (j : ℕ) (ks : List ℕ) → times j ks ≡ 1 → of j (whole scripts ks) ≡ get_or scripts j []
  unfolding whole of
  whole-once scripts j [] h = absurd (omega arith)
  whole-once scripts j (k ∷ ks) h = whole-step scripts j k ks ∙ go (compare k j) h (whole-once scripts j ks)
    where
      go : {x : Bool} → Same k j x → cond x (suc (times j ks)) (times j ks) ≡ 1 → (times j ks ≡ 1 → of j (whole scripts ks) ≡ get_or scripts j [])
          → cond x (get_or scripts k []) [] ++ of j (whole scripts ks) ≡ get_or scripts j []
      go (same p) e ih =
          let z : times j ks ≡ 0 = omega arith in
          rw (whole-never scripts j ks z) (append-nil (get_or scripts k []) ∙ ap (λ (n : ℕ). get_or scripts n []) p)
      go (other n) e ih = ih e

  -- a number past the scripts says nothing
  whole-past : (scripts : List (List C)) (j : ℕ) (ks : List ℕ) → length scripts ≤ j → of j (whole scripts ks) ≡ []
  unfolding whole of
  whole-past scripts j [] h = refl
  whole-past scripts j (k ∷ ks) h = whole-step scripts j k ks ∙ go (compare k j) (whole-past scripts j ks h)
    where
      go : {x : Bool} → Same k j x → of j (whole scripts ks) ≡ [] → cond x (get_or scripts k []) [] ++ of j (whole scripts ks) ≡ []
      go (same p) ih = rw (ih, get_or-eq_default scripts [] {n = k} (rw p h))
      go (other n) ih = ih

  pub whole-mix : (scripts : List (List C)) (order : List ℕ) → EachOnce scripts order → Mix scripts (whole scripts order)
  whole-mix scripts order h j = go (dec_lt j (length scripts))
    where
      go : Dec (j < length scripts) → of j (whole scripts order) ≡ get_or scripts j []
      go (yes p) = whole-once scripts j order (h j p)
      go (no n) =
          let z : length scripts ≤ j = omega arith in
          whole-past scripts j order z ∙ sym (get_or-eq_default scripts [] z)

-- ---- machines on which lines that do not clash change places

module _ {S C : Type 0} (move : C → S → S) (Clash : C → C → Type 0) (moves : (a b : C) → (Clash a b → ⊥) → (s : S) → move a (move b s) ≡ move b (move a s)) where
  -- two scripts' lines do not clash
  differ : (t : Turn C) (m : List (Turn C)) → Sole Clash (t ∷ m) → (k : ℕ) → t.script ≢ k → (b : C) → Memᴰ b (of k m) → Clash b t.line → ⊥
  differ t m sole k n b q e = n (sym (sole k t.script b t.line (of_tail k t m b q) (of_head t m) e))

  -- a script's first line may as well come first
  pull : (k : ℕ) (x : C) (r : List C) (m : List (Turn C)) → Sole Clash m → of k m ≡ x ∷ r → (s : S) → last move m s ≡ last move (skip k m) (move x s)
  unfolding last skip of
  pull k x r [] sole e s = absurd (nil≢cons e)
  pull k x r (t ∷ m) sole e s = go (compare t.script k) e (pull k x r m (sole-tail Clash t m sole))
    where
      go : {y : Bool} → Same t.script k y → cond y (t.line ∷ of k m) (of k m) ≡ x ∷ r
          → (of k m ≡ x ∷ r → (z : S) → last move m z ≡ last move (skip k m) (move x z))
          → last move m (move t.line s) ≡ last move (cond y m (t ∷ skip k m)) (move x s)
      go (same p) q ih = ap (λ (c : C). last move m (move c s)) (head-eq_of_cons-eq q)
      go (other n) q ih =
          ih q (move t.line s)
          ∙ ap (last move (skip k m)) (moves x t.line (differ t m sole k n x (rw q (Memᴰ.head refl))) s)

  -- two mixes of the same scripts end in the same state
  pub ends : (m m' : List (Turn C)) → Sole Clash m → ((k : ℕ) → of k m ≡ of k m') → (s : S) → last move m s ≡ last move m' s
  unfolding last of
  ends [] [] sole e s = refl
  ends [] (t ∷ m') sole e s = absurd (nil≢cons (e t.script ∙ of-own t.script t m' refl))
  ends (t ∷ m) m' sole e s =
      ends m (skip t.script m') (sole-tail Clash t m sole) (of-rest t m m' e) (move t.line s)
      ∙ sym (pull t.script t.line (of t.script m) m' (sole-same Clash (t ∷ m) m' e sole) (sym (e t.script) ∙ of-own t.script t m refl) s)

  module _ {R : Type 0} (say : C → S → R) (says : (a b : C) → (Clash a b → ⊥) → (s : S) → say a (move b s) ≡ say a s) where
    -- what a script hears by itself
    alone : List C → S → List R
    alone [] s = []
    alone (c ∷ l) s = say c s ∷ alone l (move c s)

    -- a line that clashes with none of its own is not felt by a script
    unfelt : (l : List C) (c : C) → ((b : C) → Memᴰ b l → Clash b c → ⊥) → (s : S) → alone l (move c s) ≡ alone l s
    unfolding alone
    unfelt [] c h s = refl
    unfelt (b ∷ l) c h s =
        ap₂ ◌∷◌ (says b c (h b (Memᴰ.head refl)) s)
        (ap (alone l) (moves b c (h b (Memᴰ.head refl)) s) ∙ unfelt l c (λ a p. h a (Memᴰ.tail p)) (move b s))

    -- each script hears what it hears by itself
    heard-alone : (m : List (Turn C)) → Sole Clash m → (k : ℕ) (s : S) → answers move say k m s ≡ alone (of k m) s
    unfolding alone answers of
    heard-alone [] sole k s = refl
    heard-alone (t ∷ m) sole k s = go (compare t.script k) (heard-alone m (sole-tail Clash t m sole) k (move t.line s))
      where
        go : {x : Bool} → Same t.script k x → answers move say k m (move t.line s) ≡ alone (of k m) (move t.line s)
            → cond x (say t.line s ∷ answers move say k m (move t.line s)) (answers move say k m (move t.line s)) ≡ alone (cond x (t.line ∷ of k m) (of k m)) s
        go (same p) ih = ap (λ (l : List R). say t.line s ∷ l) ih
        go (other n) ih = ih ∙ unfelt (of k m) t.line (differ t m sole k n) s

    -- any two mixes of the scripts agree
    pub mixing : (scripts : List (List C)) → Disjoint Clash scripts → (m m' : List (Turn C)) → Mix scripts m → Mix scripts m' → (s : S) → Agree move say m m' s
    mixing scripts apart m m' p q s =
        let e : (k : ℕ) → of k m ≡ of k m' = λ k. p k ∙ sym (q k) in
        let u : Sole Clash m = sole-mix Clash scripts m p apart in
        record {
          end = ends m m' u e s;
          each = λ k. heard-alone m u k s ∙ ap (λ (l : List C). alone l s) (e k) ∙ sym (heard-alone m' (sole-mix Clash scripts m' q apart) k s);
        }

-- ---- a machine that does what another does, seen through f, while Inv holds of the turns to come and the state

module _ {S Z C R : Type 0} (move : C → S → S) (say : C → S → R) (move' : C → Z → Z) (say' : C → Z → R) (f : S → Z) (Inv : List (Turn C) → S → Type 0)
    (does : (t : Turn C) (m : List (Turn C)) (s : S) → Inv (t ∷ m) s
    → (move' t.line (f s) ≡ f (move t.line s)) × (say' t.line (f s) ≡ say t.line s) × Inv m (move t.line s)) where
  last-through : (m : List (Turn C)) (s : S) → Inv m s → last move' m (f s) ≡ f (last move m s)
  unfolding last
  last-through [] s h = refl
  last-through (t ∷ m) s h = ap (last move' m) (does t m s h).0 ∙ last-through m (move t.line s) (does t m s h).2

  answers-through : (k : ℕ) (m : List (Turn C)) (s : S) → Inv m s → answers move' say' k m (f s) ≡ answers move say k m s
  unfolding answers
  answers-through k [] s h = refl
  answers-through k (t ∷ m) s h =
      ap₂ (λ (r : R) (l : List R). cond (eqb t.script k) (r ∷ l) l) (does t m s h).1
      (ap (answers move' say' k m) (does t m s h).0 ∙ answers-through k m (move t.line s) (does t m s h).2)

  -- where the one agrees, so does the other
  pub agree_through : (m m' : List (Turn C)) (s : S) → Inv m s → Inv m' s → Agree move say m m' s → Agree move' say' m m' (f s)
  agree_through m m' s h h' a =
      record {
        end = last-through m s h ∙ ap f a.end ∙ sym (last-through m' s h');
        each = λ k. answers-through k m s h ∙ a.each k ∙ sym (answers-through k m' s h');
      }
