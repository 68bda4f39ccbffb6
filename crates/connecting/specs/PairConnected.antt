-- Connecting two nodes as the code does it: two stores where it is the pair alone, and nothing where the two have one free group already.
-- Assumes nothing.
use Rattle.std.specs.Prelude.{◌≡◌, refl, Bool, true, false, not, ◌&&◌, ◌||◌, cond, List, ℕ, ◌+◌, ◌^◌, ◌<◌, eqb, length, get_or, set}
use Rattle.std.proofs.Common.{sym, ap, ap₂, ◌∙◌, subst, ⊎_elim, arith, lit<, length-set, get_or-set_same, get_or-set_other, ext_get_or, eq-eqb, ne_eqb}
use Rattle.std.proofs.Math.Bool.{or-true, or-false, and-eq-true_iff}
use Rattle.std.proofs.Math.Pow.{pow-lt}
use Rattle.nodes.specs.Sets.{node_limit, has, empty, single, union, diff, with_node}
use Rattle.nodes.specs.Bools.{by_eq, by_test}
use Rattle.nodes.proofs.SetLaws.{has-union, has-single, has-ext, union_comm, union_self, union-none, union-diff, diff-self, without_other, with_node-in, union-lt}
use Rattle.semantics.specs.Sizes.{links_at, free_at}
use Rattle.semantics.specs.State.{State, with_links, with_free, free_of}
use Rattle.semantics.specs.Table.{sections}
use Rattle.semantics.specs.Steps.{meet, interconnect, one_free_group, link, merge, connect}
use Rattle.semantics.specs.Regular.{Regular, loose}
use Rattle.semantics.specs.Members.{length-interconnect, length-one_free_group, at-interconnect, at-one_free_group, has_meet, in-word}
use Rattle.semantics.specs.FreeGroupsOfNodes.{free-lt}
use Rattle.semantics.specs.Sections.{store}
use Rattle.semantics.specs.WordsOfState.{Laid, links-word, free-word}

-- ---- two stores

-- what is left of a pair without one of the two
other-one : (a b : ℕ) → (a ≡ b → ⊥) → diff (union (single a) (single b)) (single b) ≡ single a
other-one a b n =
    union-diff (single a) (single b) (single b)
    ∙ ap₂ union (without_other (single a) b (has-single a b ∙ ne_eqb a b n)) (diff-self (single b)) ∙ union-none (single a)

-- the second of a pair gets the first
meet-second : (a b w : ℕ) → (a ≡ b → ⊥) → meet (union (single a) (single b)) b w ≡ union w (single a)
meet-second a b w n =
    rw (has-union (single a) (single b) b, has-single b b, eq-eqb b b refl, or-true (has (single a) b), other-one a b n)

meet-third : (a b i w : ℕ) → (a ≡ i → ⊥) → (b ≡ i → ⊥) → meet (union (single a) (single b)) i w ≡ w
meet-third a b i w p q = rw (has-union (single a) (single b) i, has-single a i, has-single b i, ne_eqb a i p, ne_eqb b i q)

module _ (a b : ℕ) (l : List ℕ) (a_in : a < node_limit) (b-in : b < node_limit) (n : a ≡ b → ⊥) (long : length l ≡ node_limit) where
  pub pair-stored : set (set l a (with_node (get_or l a 0) b)) b (with_node (get_or (set l a (with_node (get_or l a 0) b)) b 0) a) ≡ interconnect (union (single a) (single b)) l
  pair-stored =
      rw (get_or-set_other l a b (with_node (get_or l a 0) b) 0 (λ e. n (sym e)), with_node-in (get_or l a 0) b b-in, with_node-in (get_or l b 0) a a_in)
      (ext_get_or 0 _ _ (length-set (set l a _) b _ ∙ length-set l a _ ∙ sym (length-interconnect _ l)) (λ i h. at i ∙ sym (at-interconnect _ l small long i)))
    where
      small : union (single a) (single b) < 2 ^ node_limit
      small = union-lt node_limit (single a) (single b) (pow-lt a_in) (pow-lt b-in)

      at : (i : ℕ) → get_or (set (set l a (union (get_or l a 0) (single b))) b (union (get_or l b 0) (single a))) i 0 ≡ meet (union (single a) (single b)) i (get_or l i 0)
      at i =
          ⊎_elim
          (λ (e : b ≡ i).
          rw (← e) (get_or-set_same (set l a _) b _ 0 (omega (arith, length-set l a (union (get_or l a 0) (single b)))) ∙ sym (meet-second a b (get_or l b 0) n)))
          (λ (d : b ≡ i → ⊥).
          get_or-set_other (set l a _) b i _ 0 (λ e. d (sym e))
          ∙ ⊎_elim
          (λ (e : a ≡ i).
          rw (← e) (get_or-set_same l a _ 0 (omega arith)
          ∙ sym (ap (λ (m : ℕ). meet m a (get_or l a 0)) (union_comm (single a) (single b)) ∙ meet-second b a (get_or l a 0) (λ e. n (sym e)))))
          (λ (f : a ≡ i → ⊥). get_or-set_other l a i _ 0 (λ e. f (sym e)) ∙ sym (meet-third a b i (get_or l i 0) f d))
          (by_eq a i))
          (by_eq b i)

-- a node's connections stored
pub links-stored : {cap : ℕ} {st : State} {t : List ℕ} → Laid cap st t → (i v : ℕ) → i < node_limit → Laid cap (with_links (set st.links i v) st) (set t (links_at + i) v)
unfolding sections
links-stored {st = st} l i v h = record {
  sized = record { groups_few = l.sized.groups_few; links_long = length-set st.links i v ∙ l.sized.links_long; free_long = l.sized.free_long };
  run = store l.run 3 (lit< tt) i v h;
}

-- both words stored
pub linked : {cap : ℕ} {st : State} {t : List ℕ} → Laid cap st t → (a b : ℕ) → a < node_limit → b < node_limit → (a ≡ b → ⊥) → (v w : ℕ)
    → v ≡ with_node (get_or t (links_at + a) 0) b → w ≡ with_node (get_or (set t (links_at + a) v) (links_at + b) 0) a
    → Laid cap (link a b st) (set (set t (links_at + a) v) (links_at + b) w)
linked {cap} {st} {t} l a b p q n v w e f =
    let first = links-stored l a v p in
    let ev : v ≡ with_node (get_or st.links a 0) b = e ∙ ap (λ (x : ℕ). with_node x b) (links-word l a p) in
    let ew : w ≡ with_node (get_or (set st.links a v) b 0) a = f ∙ ap (λ (x : ℕ). with_node x a) (links-word first b q) in
    let is : set (set st.links a v) b w ≡ interconnect (union (single a) (single b)) st.links =
    ap (set (set st.links a v) b) ew ∙ ap (λ (x : ℕ). set (set st.links a x) b (with_node (get_or (set st.links a x) b 0) a)) ev
    ∙ pair-stored a b st.links p q n l.sized.links_long in
    subst (λ (x : List ℕ). Laid cap (with_links x st) (set (set t (links_at + a) v) (links_at + b) w)) is (links-stored first b w q)

-- ---- nothing is changed

module _ (m : ℕ) (l : List ℕ) (small : m < 2 ^ node_limit) (long : length l ≡ node_limit) where
  -- where each node of m is connected with the others
  pub interconnect-same : ((i : ℕ) → meet m i (get_or l i 0) ≡ get_or l i 0) → interconnect m l ≡ l
  interconnect-same e = ext_get_or 0 _ _ (length-interconnect m l) (λ i h. at-interconnect m l small long i ∙ e i)

  -- where each node of m has it as its free group
  pub one_free_group-same : ((i : ℕ) → cond (has m i) m (get_or l i 0) ≡ get_or l i 0) → one_free_group m l ≡ l
  one_free_group-same e = ext_get_or 0 _ _ (length-one_free_group m l) (λ i h. at-one_free_group m l small long i ∙ e i)

-- ---- connecting, by cases

module _ (a b : ℕ) (st : State) where
  pub connect-same : a ≡ b → connect a b st ≡ st
  unfolding connect
  connect-same e = rw (eq-eqb a b)

  module _ (n : a ≡ b → ⊥) where
    pub connect-link : empty (free_of a st) || empty (free_of b st) ≡ true → connect a b st ≡ link a b st
    unfolding connect
    connect-link e = rw (ne_eqb a b, e)

    pub connect-merge : empty (free_of a st) || empty (free_of b st) ≡ false → connect a b st ≡ merge (union (free_of a st) (free_of b st)) st
    unfolding connect
    connect-merge e = rw (ne_eqb a b, e)

-- a free group of a regular state is one already
module _ {cap : ℕ} {st : State} (w : Regular cap st) (a : ℕ) where
  -- its nodes have it
  shared : (i : ℕ) → cond (has (free_of a st) i) (free_of a st) (free_of i st) ≡ free_of i st
  shared i = ⊎_elim (λ (h : has (free_of a st) i ≡ true). rw h (w.wires.classes a i h)) (λ (h : has (free_of a st) i ≡ false). rw h) (by_test (has (free_of a st) i))

  -- its nodes are connected
  met : (i : ℕ) → meet (free_of a st) i (get_or st.links i 0) ≡ get_or st.links i 0
  met i = has-ext _ _ (λ j. has_meet (free_of a st) i (get_or st.links i 0) j ∙ known (has (free_of a st) i) (has (free_of a st) j) (eqb i j) (has (get_or st.links i 0) j) (linked j))
    where
      linked : (j : ℕ) → has (free_of a st) i ≡ true → has (free_of a st) j ≡ true → eqb i j || has (get_or st.links i 0) j ≡ true
      linked j p q =
          ((and-eq-true_iff (loose st j) _).0 ((and-eq-true_iff (loose st i) _).0 (sym (w.wires.frees i j) ∙ ap (λ (f : ℕ). has f j) (sym (w.wires.classes a i p)) ∙ q)).1).1

      known : (x y e k : Bool) → (x ≡ true → y ≡ true → e || k ≡ true) → k || (x && (y && not e)) ≡ k
      known true true true k h = or-false k
      known true true false k h = rw (h refl refl)
      known true false e k h = or-false k
      known false y e k h = or-false k

  pub merge-same : merge (free_of a st) st ≡ st
  merge-same =
      let small : free_of a st < 2 ^ node_limit = in-word w.size_high (free-lt w a) in
      λ i. with_free (one_free_group-same (free_of a st) st.free small w.free_long shared i) (with_links (interconnect-same (free_of a st) st.links small w.links_long met i) st)

  pub connect-met : (b : ℕ) → (a ≡ b → ⊥) → empty (free_of a st) || empty (free_of b st) ≡ false → free_of a st ≡ free_of b st → connect a b st ≡ st
  connect-met b n e f = connect-merge a b st n e ∙ ap (λ (m : ℕ). merge m st) (ap (union (free_of a st)) (sym f) ∙ union_self (free_of a st)) ∙ merge-same

-- ---- what the code has at its ends

module _ {cap : ℕ} {st : State} {t : List ℕ} (l : Laid cap st t) (a b : ℕ) (a_in : a < node_limit) (b-in : b < node_limit) (n : a ≡ b → ⊥) where
  -- the two words of the free groups, tested
  tested : (x : Bool) → empty (get_or t (free_at + a) 0) || empty (get_or t (free_at + b) 0) ≡ x → empty (free_of a st) || empty (free_of b st) ≡ x
  tested x e = sym (ap₂ (λ (f g : ℕ). empty f || empty g) (free-word l a a_in) (free-word l b b-in)) ∙ e

  pub pair-connected : (u : List ℕ) → empty (get_or t (free_at + a) 0) || empty (get_or t (free_at + b) 0) ≡ true → Laid cap (link a b st) u → Laid cap (connect a b st) u
  pair-connected u e = subst (λ (x : State). Laid cap x u) (sym (connect-link a b st n (tested true e)))

  module _ (e : empty (get_or t (free_at + a) 0) || empty (get_or t (free_at + b) 0) ≡ false) where
    pub connected-already : Regular cap st → get_or t (free_at + a) 0 ≡ get_or t (free_at + b) 0 → Laid cap (connect a b st) t
    connected-already w f =
        subst (λ (x : State). Laid cap x t) (sym (connect-met w a b n (tested false e) (sym (free-word l a a_in) ∙ f ∙ free-word l b b-in))) l

    pub groups-connected : (m : ℕ) (u : List ℕ) → m ≡ union (get_or t (free_at + a) 0) (get_or t (free_at + b) 0) → Laid cap (merge m st) u → Laid cap (connect a b st) u
    groups-connected m u f =
        subst (λ (x : State). Laid cap x u)
        (ap (λ (k : ℕ). merge k st) (f ∙ ap₂ union (free-word l a a_in) (free-word l b b-in)) ∙ sym (connect-merge a b st n (tested false e)))
