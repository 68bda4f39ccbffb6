-- Connections and free groups stay as they must be when the nodes of a set become one free group and all meet. Assumes nothing.
use Rattle.std.specs.Prelude.{◌≡◌, refl, Bool, true, false, not, ◌&&◌, ◌||◌, cond, List, ℕ, ◌^◌, ◌<◌, eqb, length, get_or}
use Rattle.std.proofs.Common.{sym, ap, ◌∙◌, true≢false, eqb-true}
use Rattle.std.proofs.lemmas.Bool.{false≢true}
use Rattle.std.proofs.Math.Bool.{or-false}
use Rattle.nodes.specs.Sets.{node_limit, has}
use Rattle.semantics.specs.Steps.{interconnect, one_free_group}
use Rattle.semantics.specs.Regular.{Wired}
use Rattle.semantics.specs.Members.{has-interconnect, at-one_free_group, has-one_free_group}
use Rattle.semantics.specs.Wires.{both_ways-interconnect, no_self-interconnect}

-- what is in a node's free group after it: m in the set, l loose before and l' after, e the same node, a connected before
merged-free : (mi mj li lj l'i l'j e a : Bool) → (mi ≡ true → l'i ≡ true) → (mj ≡ true → l'j ≡ true) → (mi ≡ false → l'i ≡ li) → (mj ≡ false → l'j ≡ lj)
    → (e ≡ true → mi ≡ mj) → (mi ≡ true → mj ≡ false → lj ≡ true → a ≡ false) → (mj ≡ true → mi ≡ false → li ≡ true → a ≡ false)
    → cond mi mj (li && (lj && (e || a))) ≡ l'i && (l'j && (e || (a || (mi && (mj && not e)))))
merged-free true true li lj l'i l'j e a p q r s u v w = rw (p refl, q refl) (top e a)
  where
    top : (e a : Bool) → true ≡ e || (a || not e)
    top true a = refl
    top false true = refl
    top false false = refl
merged-free true false li lj l'i l'j true a p q r s u v w = absurd (true≢false (u refl))
merged-free true false li true l'i l'j false a p q r s u v w = rw (p refl, s refl, v refl refl refl)
merged-free true false li false l'i l'j false a p q r s u v w = rw (p refl, s refl)
merged-free false true true lj l'i l'j true a p q r s u v w = absurd (false≢true (u refl))
merged-free false true true true l'i l'j false a p q r s u v w = rw (r refl, q refl, w refl refl refl)
merged-free false true true false l'i l'j false a p q r s u v w = rw (r refl, q refl, w refl refl refl)
merged-free false true false lj l'i l'j e a p q r s u v w = rw (r refl)
merged-free false false li lj l'i l'j e a p q r s u v w = rw (r refl, s refl, or-false a)

-- the nodes of the set are loose after it, the others as before, and no loose node outside is connected with one of the set
module _ (loose loose' : ℕ → Bool) (m : ℕ) (links free : List ℕ) (m-in : m < 2 ^ node_limit)
    (links_long : length links ≡ node_limit) (free_long : length free ≡ node_limit)
    (loosened : (i : ℕ) → has m i ≡ true → loose' i ≡ true) (others : (i : ℕ) → has m i ≡ false → loose' i ≡ loose i)
    (closed : (i j : ℕ) → has m j ≡ true → has m i ≡ false → loose i ≡ true → has (get_or links i 0) j ≡ false) where
  -- a node of the set has the set as its word, another the word that it had
  word_in : (i : ℕ) → has m i ≡ true → get_or (one_free_group m free) i 0 ≡ m
  word_in i h = at-one_free_group m free m-in free_long i ∙ rw h

  word_out : (i : ℕ) → has m i ≡ false → get_or (one_free_group m free) i 0 ≡ get_or free i 0
  word_out i h = at-one_free_group m free m-in free_long i ∙ rw h

  -- no node outside the set has one of the set in its free group
  apart : Wired loose links free → (i j : ℕ) → has m i ≡ false → has m j ≡ true → has (get_or free i 0) j ≡ true → ⊥
  apart w i j p q h =
      parts (loose i) (loose j) (eqb i j) (has (get_or links i 0) j) (sym (w.frees i j) ∙ h) (closed i j q p)
      (λ e. false≢true (sym p ∙ ap (has m) (eqb-true i j e) ∙ q))
    where
      parts : (a b e l : Bool) → a && (b && (e || l)) ≡ true → (a ≡ true → l ≡ false) → (e ≡ true → ⊥) → ⊥
      parts true true true l h u v = v refl
      parts true true false l h u v = false≢true (sym (u refl) ∙ h)
      parts true false e l h u v = false≢true h
      parts false b e l h u v = false≢true h

  same_word : Wired loose links free → (i j : ℕ) (x y : Bool) → has m i ≡ x → has m j ≡ y → cond x y (has (get_or free i 0) j) ≡ true
      → get_or (one_free_group m free) i 0 ≡ get_or (one_free_group m free) j 0
  same_word w i j true true p q h = word_in i p ∙ sym (word_in j q)
  same_word w i j true false p q h = absurd (false≢true h)
  same_word w i j false true p q h = absurd (apart w i j p q h)
  same_word w i j false false p q h = word_out i p ∙ w.classes i j h ∙ sym (word_out j q)

  pub wired-merge : Wired loose links free → Wired loose' (interconnect m links) (one_free_group m free)
  wired-merge w =
      record {
        both_ways = both_ways-interconnect m links m-in links_long w.both_ways;
        no_self = no_self-interconnect m links m-in links_long w.no_self;
        frees = λ i j.
            has-one_free_group m free m-in free_long i j ∙ ap (λ (x : Bool). cond (has m i) (has m j) x) (w.frees i j)
            ∙ merged-free (has m i) (has m j) (loose i) (loose j) (loose' i) (loose' j) (eqb i j) (has (get_or links i 0) j) (loosened i) (loosened j) (others i) (others j)
            (λ e. ap (has m) (eqb-true i j e)) (λ a b c. w.both_ways i j ∙ closed j i a b c) (closed i j)
            ∙ sym (ap (λ (x : Bool). loose' i && (loose' j && (eqb i j || x))) (has-interconnect m links m-in links_long i j));
        classes = λ i j h. same_word w i j (has m i) (has m j) refl refl (sym (has-one_free_group m free m-in free_long i j) ∙ h);
      }
