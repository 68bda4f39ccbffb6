-- The connections of each node with the node itself among them, and what they say of the members of a set. Assumes nothing.
use Rattle.std.specs.Prelude.{◌≡◌, Bool, not, ◌&&◌, ◌||◌, List, ℕ, ◌+◌, ◌^◌, ◌<◌, length, set}
use Rattle.std.proofs.Common.{sym, ap, ◌∙◌, subst, ⊎_elim, arith, get_or-set_same, get_or-set_other, eq-eqb}
use Rattle.std.proofs.Math.Bool.{and-eq-true_iff}
use Rattle.nodes.specs.Sets.{node_limit, has, empty, single, union, inter, diff, subset, without_node, lowest, rest, word_at}
use Rattle.nodes.specs.Bools.{by_lt, test-ext}
use Rattle.nodes.proofs.SetLaws.{union_comm, diff-diff, subset-diff, subset-trans, has-subset, subset-has, has-inter, inter-subset-l, inter-subset-r}
use Rattle.free_test.specs.WireTests.{all_of, others_met, members_met}
use Rattle.free_test.specs.Below.{below-ext}
use Rattle.free_test.specs.Gather.{turn}

-- the connections of node i, and node i
abbrev pub knows : List ℕ → ℕ → ℕ
knows links i = union (word_at links i) (single i)

-- known has for each node its connections with the node itself
pub record Known (links known : List ℕ) : Type 0 where
  pub long : length known ≡ node_limit
  pub at : (i : ℕ) → i < node_limit → word_at known i ≡ knows links i

-- node i knows every member of the set
abbrev pub knows_all : List ℕ → ℕ → ℕ → Bool
knows_all known set i = subset set (word_at known i)

-- one node more is written
pub known_more : (links known : List ℕ) (k : ℕ) → k < length known → ((i : ℕ) → i < k → word_at known i ≡ knows links i)
    → (i : ℕ) → i < k + 1
    → word_at (set known k (knows links k)) i ≡ knows links i
known_more links known k l done i m =
    ⊎_elim (λ lt. get_or-set_other known k i (knows links k) 0 (λ e. omega arith) ∙ done i lt)
    (λ ge.
    let e : k ≡ i = omega arith in
    subst (λ (j : ℕ). word_at (set known k (knows links k)) j ≡ knows links j) e (get_or-set_same known k (knows links k) 0 l))
    (by_lt i k)

-- a set is in what two sets share where it is in both
subset-inter : (a b c : ℕ) → subset a (inter b c) ≡ (subset a b && subset a c)
subset-inter a b c =
    test-ext (subset a (inter b c)) (subset a b && subset a c)
    (λ s. (and-eq-true_iff (subset a b) (subset a c)).1
    (subset-trans a (inter b c) b s (inter-subset-l b c), subset-trans a (inter b c) c s (inter-subset-r b c)))
    (λ s. let both = (and-eq-true_iff (subset a b) (subset a c)).0 s in
    has-subset a (inter b c) (λ i m. has-inter b c i
    ∙ (and-eq-true_iff (has b i) (has c i)).1 (subset-has a b i both.0 m, subset-has a c i both.1 m)))

-- one turn: what the lowest member knows narrows what all passed know, and the rest is left
pub known-turn : (known : List ℕ) (set common left : ℕ) → 0 < left → left < 2 ^ node_limit
    → (subset set (inter common (word_at known (lowest left))) && all_of (rest left) (knows_all known set))
    ≡ (subset set common && all_of left (knows_all known set))
known-turn known set common left some fits =
    turn (subset set common) (subset set (inter common (word_at known (lowest left)))) left (knows_all known set) some fits
    (subset-inter set common (word_at known (lowest left)))

-- the members of a set know all of them where each has the others among its connections
pub known-met : (links known : List ℕ) (set : ℕ) → length links ≡ node_limit → Known links known
    → all_of set (knows_all known set) ≡ members_met links set
unfolding members_met
known-met links known set long k =
    rw (eq-eqb (length links) node_limit long)
    (below-ext node_limit (λ i. not (has set i) || knows_all known set i) (λ i. not (has set i) || others_met links set i)
    (λ i l. ap (λ (t : Bool). not (has set i) || t) (ap (subset set) (k.at i l) ∙ others i)))
  where
    -- the node itself is let off
    others : (i : ℕ) → subset set (knows links i) ≡ others_met links set i
    others i =
        subset-diff set (knows links i)
        ∙ ap empty (ap (diff set) (union_comm (word_at links i) (single i)) ∙ sym (diff-diff set (single i) (word_at links i)))
        ∙ sym (subset-diff (without_node set i) (word_at links i))
