-- Connections and free groups stay as they must be when nodes meet, and when nodes leave their free groups. Assumes nothing.
use Rattle.std.specs.Prelude.{◌≡◌, refl, ◌≢◌, Bool, true, false, not, ◌&&◌, ◌||◌, List, ℕ, ◌^◌, ◌<◌, eqb, length, get_or}
use Rattle.std.proofs.Common.{sym, ap, ap₂, ◌∙◌, subst, true≢false, eq-eqb}
use Rattle.std.proofs.Math.Path.{fun_ext}
use Rattle.std.proofs.lemmas.Bool.{false≢true, eqb-false}
use Rattle.std.proofs.Math.Bool.{and-false, and_self_left}
use Rattle.nodes.specs.Sets.{node_limit, has, diff}
use Rattle.semantics.specs.Steps.{interconnect, leave_free}
use Rattle.semantics.specs.Regular.{Wired}
use Rattle.semantics.specs.Truth.{eqb_comm}
use Rattle.semantics.specs.Members.{has-interconnect, has-leave_free, at-leave_free}

-- it matters only which nodes are loose
pub wired-same : (loose loose' : ℕ → Bool) (links free : List ℕ) → ((i : ℕ) → loose i ≡ loose' i) → Wired loose links free → Wired loose' links free
wired-same loose loose' links free h w = subst (λ (l : ℕ → Bool). Wired l links free) (fun_ext h) w

-- ---- the nodes of m meet

module _ (m : ℕ) (links : List ℕ) (small : m < 2 ^ node_limit) (long : length links ≡ node_limit) where
  pub both_ways-interconnect : ((i j : ℕ) → has (get_or links i 0) j ≡ has (get_or links j 0) i)
      → (i j : ℕ) → has (get_or (interconnect m links) i 0) j ≡ has (get_or (interconnect m links) j 0) i
  both_ways-interconnect h i j =
      has-interconnect m links small long i j ∙ turned (has m i) (has m j) (eqb i j) _ _ (h i j)
      ∙ ap (λ (e : Bool). has (get_or links j 0) i || (has m j && (has m i && not e))) (eqb_comm i j)
      ∙ sym (has-interconnect m links small long j i)
    where
      turned : (x y e a b : Bool) → a ≡ b → a || (x && (y && not e)) ≡ b || (y && (x && not e))
      turned true true e a b p = rw p
      turned true false e a b p = rw p
      turned false true e a b p = rw p
      turned false false e a b p = rw p

  pub no_self-interconnect : ((i : ℕ) → has (get_or links i 0) i ≡ false) → (i : ℕ) → has (get_or (interconnect m links) i 0) i ≡ false
  no_self-interconnect h i =
      has-interconnect m links small long i i ∙ rw (h i, eq-eqb i i refl) (and_self_left (has m i) false ∙ and-false (has m i))

-- in no pair of m are both loose: free groups stay
module _ (loose : ℕ → Bool) (m : ℕ) (links free : List ℕ) (small : m < 2 ^ node_limit) (long : length links ≡ node_limit)
    (tied : (i j : ℕ) → has m i ≡ true → has m j ≡ true → i ≢ j → loose i && loose j ≡ false) where
  pub wired-meet : Wired loose links free → Wired loose (interconnect m links) free
  wired-meet w =
      record {
        both_ways = both_ways-interconnect m links small long w.both_ways;
        no_self = no_self-interconnect m links small long w.no_self;
        frees = λ i j.
            w.frees i j
            ∙ more (loose i) (loose j) (eqb i j) (has (get_or links i 0) j) (has m i) (has m j) (λ p q e. tied i j p q (eqb-false i j e))
            ∙ sym (ap (λ (x : Bool). loose i && (loose j && (eqb i j || x))) (has-interconnect m links small long i j));
        classes = w.classes;
      }
    where
      more : (li lj e a mi mj : Bool) → (mi ≡ true → mj ≡ true → e ≡ false → li && lj ≡ false)
          → li && (lj && (e || a)) ≡ li && (lj && (e || (a || (mi && (mj && not e)))))
      more true true true a mi mj h = refl
      more true true false true mi mj h = refl
      more true true false false true true h = absurd (true≢false (h refl refl refl))
      more true true false false true false h = refl
      more true true false false false mj h = refl
      more true false e a mi mj h = refl
      more false lj e a mi mj h = refl

-- ---- the nodes of m meet, and those of set leave their free groups: no node of m is loose after it

module _ (loose loose' : ℕ → Bool) (m set : ℕ) (links free : List ℕ) (m-in : m < 2 ^ node_limit) (set-in : set < 2 ^ node_limit)
    (links_long : length links ≡ node_limit) (free_long : length free ≡ node_limit)
    (fewer : (i : ℕ) → loose' i ≡ loose i && not (has set i)) (tied : (i : ℕ) → has m i ≡ true → loose i && not (has set i) ≡ false) where
  pub wired-meet-leave : Wired loose links free → Wired loose' (interconnect m links) (leave_free set free)
  wired-meet-leave w =
      record {
        both_ways = both_ways-interconnect m links m-in links_long w.both_ways;
        no_self = no_self-interconnect m links m-in links_long w.no_self;
        frees = λ i j.
            has-leave_free set free set-in free_long i j
            ∙ ap (λ (b : Bool). not (has set i) && (b && not (has set j))) (w.frees i j)
            ∙ left-free (has set i) (has set j) (loose i) (loose j) (eqb i j) (has (get_or links i 0) j) (has m i) (has m j) (tied i)
            ∙ sym (ap₂ (λ (x y : Bool). x && y) (fewer i)
            (ap₂ (λ (x y : Bool). x && (eqb i j || y)) (fewer j) (has-interconnect m links m-in links_long i j)));
        classes = λ i j h.
            let p : (has set i ≡ false) × (has (get_or free i 0) j ≡ true) × (has set j ≡ false) =
            stayed (has set i) (has (get_or free i 0) j) (has set j) (sym (has-leave_free set free set-in free_long i j) ∙ h) in
            at-leave_free set free set-in free_long i
            ∙ rw (p.0, p.2) (ap (λ (f : ℕ). diff f set) (w.classes i j p.1))
            ∙ sym (at-leave_free set free set-in free_long j);
      }
    where
      stayed : (x f y : Bool) → not x && (f && not y) ≡ true → (x ≡ false) × (f ≡ true) × (y ≡ false)
      stayed true f y h = absurd (false≢true h)
      stayed false true true h = absurd (false≢true h)
      stayed false true false h = (refl, refl, refl)
      stayed false false y h = absurd (false≢true h)

      -- s in set, l loose, m in m; e the same node, a connected
      left-free : (si sj li lj e a mi mj : Bool) → (mi ≡ true → li && not si ≡ false)
          → not si && ((li && (lj && (e || a))) && not sj) ≡ (li && not si) && ((lj && not sj) && (e || (a || (mi && (mj && not e)))))
      left-free true sj true lj e a mi mj h = refl
      left-free true sj false lj e a mi mj h = refl
      left-free false sj false lj e a mi mj h = refl
      left-free false sj true lj e a true mj h = absurd (true≢false (h refl))
      left-free false sj true false e a false mj h = refl
      left-free false true true true true a false mj h = refl
      left-free false true true true false true false mj h = refl
      left-free false true true true false false false mj h = refl
      left-free false false true true true a false mj h = refl
      left-free false false true true false true false mj h = refl
      left-free false false true true false false false mj h = refl
