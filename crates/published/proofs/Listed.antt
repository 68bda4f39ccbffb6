-- The lists of registered_names and own_s_groups ascend, and have exactly what the published sets have. Assumes nothing.
use Rattle.std.specs.Prelude.{◌≡◌, refl, Bool, true, false, ◌||◌, cond, eqb}
use Rattle.std.proofs.Math.Path.{sym}
use Rattle.std.proofs.Common.{ap, ap₂, ◌∙◌, eq-eqb, ne_eqb}
use Rattle.std.proofs.Math.Logic.{⊎_elim}
use Rattle.std.proofs.Math.Option.{Option, none, some}
use mathlib.Core.List.{List, [], ◌∷◌, ◌++◌}
use Prim.Native.Nat.{ℕ, zero, suc, ◌+◌, ◌*◌, ◌/◌, ◌%◌, ◌≤◌, ◌<◌}
use native.Mathlib.Omega.{arith}
use Rattle.std.proofs.Math.Arith.{digits_div, digits_mod}
use Rattle.nodes.specs.Sets.{node_limit}
use Rattle.nodes.specs.Bools.{by_eq}
use Rattle.entries.specs.Entries.{half_word}
use Rattle.semantics.specs.Sizes.{group_names}
use Rattle.published.specs.Published.{Set, Map, of_some}
use Rattle.published.specs.Seen.{set_word, chained, name_words, group_words}
use Rattle.published.proofs.Concatenated.{in_turn}
use Rattle.published.proofs.GroupsSeen.{on_some}

-- ---- registered_names

-- words from b on, each above the one before
abbrev pub Ascends : ℕ → List ℕ → Type 0
Ascends b [] = Unit {0}
Ascends b (x ∷ xs) = (b ≤ x) × Ascends (suc x) xs

-- the word is in the list
abbrev pub elem : ℕ → List ℕ → Bool
elem w [] = false
elem w (x ∷ xs) = eqb x w || elem w xs

ascends-lower : (b : ℕ) (l : List ℕ) → Ascends (suc b) l → Ascends b l
ascends-lower b [] u = tt
ascends-lower b (x ∷ xs) u = (omega (arith, u.0), u.1)

ascends-turn : (n k : ℕ) (a : Set) → Ascends k (chained n k (in_turn a))
unfolding chained
ascends-turn zero k a = tt
ascends-turn (suc n) k a = go (a k) (ascends-turn n (suc k) a)
  where
    go : (x : Bool) → Ascends (suc k) (chained n (suc k) (in_turn a)) → Ascends k (cond x (k ∷ []) [] ++ chained n (suc k) (in_turn a))
    go true u = (omega arith, u)
    go false u = ascends-lower k (chained n (suc k) (in_turn a)) u

elem-low : (w b : ℕ) (l : List ℕ) → w < b → Ascends b l → elem w l ≡ false
elem-low w b [] h u = refl
elem-low w b (x ∷ xs) h u = rw (ne_eqb x w (λ e. omega (arith, u.0))) (elem-low w (suc x) xs (omega (arith, u.0)) u.1)

elem-turn : (n k : ℕ) (a : Set) (w : ℕ) → k ≤ w → w < k + n → elem w (chained n k (in_turn a)) ≡ a w
unfolding chained
elem-turn zero k a w l m = absurd (omega arith)
elem-turn (suc n) k a w l m = ⊎_elim
    (λ (e : k ≡ w). here e (a k) (ap a (sym e)))
    (λ (e : k ≡ w → ⊥). past e (a k) ∙ elem-turn n (suc k) a w (omega arith) (omega arith))
    (by_eq k w)
  where
    here : k ≡ w → (x : Bool) → a w ≡ x → elem w (cond x (k ∷ []) [] ++ chained n (suc k) (in_turn a)) ≡ a w
    here e true q = rw (eq-eqb k w e) (sym q)
    here e false q = elem-low w (suc k) (chained n (suc k) (in_turn a)) (omega arith) (ascends-turn n (suc k) a) ∙ sym q

    past : (k ≡ w → ⊥) → (x : Bool) → elem w (cond x (k ∷ []) [] ++ chained n (suc k) (in_turn a)) ≡ elem w (chained n (suc k) (in_turn a))
    past e true = rw (ne_eqb k w e)
    past e false = refl

pub names_ascend : (nss : ℕ → Set) → Ascends 0 (name_words nss)
names_ascend nss = ascends-turn (group_names * half_word) 0 (λ w. nss (w / half_word) (w % half_word))

pub names-listed : (nss : ℕ → Set) (s n : ℕ) → s < group_names → n < half_word → elem (s * half_word + n) (name_words nss) ≡ nss s n
names-listed nss s n a b =
    elem-turn (group_names * half_word) 0 (λ w. nss (w / half_word) (w % half_word)) (s * half_word + n) (omega arith) (omega arith)
    ∙ ap₂ nss (digits_div s b) (digits_mod s b)

-- ---- own_s_groups: two words for each s_group

-- names from b on, ascending, each with a second word
abbrev pub PairsAscend : ℕ → List ℕ → Type 0
PairsAscend b [] = Unit {0}
PairsAscend b (x ∷ []) = ⊥
PairsAscend b (x ∷ m ∷ ws) = (b ≤ x) × PairsAscend (suc x) ws

-- the second word of the name s
abbrev pub pair_at : ℕ → List ℕ → Option ℕ
pair_at s [] = none
pair_at s (x ∷ []) = none
pair_at s (x ∷ m ∷ ws) = cond (eqb x s) (some m) (pair_at s ws)

pairs-lower : (b : ℕ) (l : List ℕ) → PairsAscend (suc b) l → PairsAscend b l
pairs-lower b [] u = tt
pairs-lower b (x ∷ []) u = u
pairs-lower b (x ∷ m ∷ ws) u = (omega (arith, u.0), u.1)

pair-low : (s b : ℕ) (l : List ℕ) → s < b → PairsAscend b l → pair_at s l ≡ none
pair-low s b [] h u = refl
pair-low s b (x ∷ []) h u = refl
pair-low s b (x ∷ m ∷ ws) h u = rw (ne_eqb x s (λ e. omega (arith, u.0))) (pair-low s (suc x) ws (omega (arith, u.0)) u.1)

module _ (snis : Map Set) where
  abbrev two : ℕ → List ℕ
  two s = of_some [] (λ nis. s ∷ set_word node_limit nis ∷ []) (snis s)

  ascends-two : (n k : ℕ) → PairsAscend k (chained n k two)
  unfolding chained
  ascends-two zero k = tt
  ascends-two (suc n) k = go (snis k) (ascends-two n (suc k))
    where
      go : (o : Option Set) → PairsAscend (suc k) (chained n (suc k) two)
          → PairsAscend k (of_some [] (λ nis. k ∷ set_word node_limit nis ∷ []) o ++ chained n (suc k) two)
      go none u = pairs-lower k (chained n (suc k) two) u
      go (some nis) u = (omega arith, u)

  pair-two : (n k s : ℕ) → k ≤ s → s < k + n → pair_at s (chained n k two) ≡ on_some (set_word node_limit) (snis s)
  unfolding chained
  pair-two zero k s l m = absurd (omega arith)
  pair-two (suc n) k s l m = ⊎_elim
      (λ (e : k ≡ s). here e (snis k) (ap snis (sym e)))
      (λ (e : k ≡ s → ⊥). past e (snis k) ∙ pair-two n (suc k) s (omega arith) (omega arith))
      (by_eq k s)
    where
      here : k ≡ s → (o : Option Set) → snis s ≡ o
          → pair_at s (of_some [] (λ nis. k ∷ set_word node_limit nis ∷ []) o ++ chained n (suc k) two) ≡ on_some (set_word node_limit) (snis s)
      here e none q = pair-low s (suc k) (chained n (suc k) two) (omega arith) (ascends-two n (suc k)) ∙ sym (ap (on_some (set_word node_limit)) q)
      here e (some nis) q = rw (eq-eqb k s e) (sym (ap (on_some (set_word node_limit)) q))

      past : (k ≡ s → ⊥) → (o : Option Set) → pair_at s (of_some [] (λ nis. k ∷ set_word node_limit nis ∷ []) o ++ chained n (suc k) two)
          ≡ pair_at s (chained n (suc k) two)
      past e none = refl
      past e (some nis) = rw (ne_eqb k s e)

  pub groups_ascend : PairsAscend 0 (group_words snis)
  groups_ascend = ascends-two group_names 0

  pub groups-listed : (s : ℕ) → s < group_names → pair_at s (group_words snis) ≡ on_some (set_word node_limit) (snis s)
  groups-listed s l = pair-two group_names 0 s (omega arith) (omega arith)
