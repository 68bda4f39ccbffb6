-- What the tests of connections and free normal groups compute. Definitions only: this file is what a reader has to believe.
-- Assumes nothing.
use Rattle.std.specs.Prelude.{Bool, true, not, ◌&&◌, ◌||◌, List, ℕ, zero, suc, eqb, leb, length, drop}
use Rattle.std.specs.Bool.{beq}
use Rattle.nodes.specs.Sets.{node_limit, has, empty, subset, without_node, lowest, word_at}
use Rattle.semantics.specs.Test.{linked, freely}

-- every i below n passes p
unfoldable pub all_below : ℕ → (ℕ → Bool) → Bool
all_below zero p = true
all_below (suc n) p = all_below n p && p n

-- every member of the set passes p
abbrev pub all_of : ℕ → (ℕ → Bool) → Bool
all_of set p = all_below node_limit (λ i. not (has set i) || p i)

-- every word is zero
unfoldable pub all_zero : List ℕ → Bool
all_zero ws = all_below (length ws) (λ i. empty (word_at ws i))

-- the run has one word a node
abbrev pub one_a_node : List ℕ → Bool
one_a_node ws = eqb (length ws) node_limit

-- ---- connections

-- the connections of each of the first n nodes are among those nodes, without the node itself
abbrev pub own_linked : List ℕ → ℕ → Bool
own_linked links n = all_below n (λ i. linked n i (word_at links i))

-- node i has node j exactly where j has i
abbrev pub both_ways : List ℕ → ℕ → ℕ → Bool
both_ways links i j = beq (has (word_at links i) j) (has (word_at links j) i)

-- the connections between the first n nodes are mutual
abbrev pub own_mutual : List ℕ → ℕ → Bool
own_mutual links n = all_below n (λ i. all_below n (both_ways links i))

-- the connections of n nodes: among them, none to itself, mutual; every other word is zero
unfoldable pub links_sound : List ℕ → ℕ → Bool
links_sound links n =
    one_a_node links && leb n node_limit && own_linked links n && all_zero (drop n links) && own_mutual links n

-- the other members of the set are among the connections of i
abbrev pub others_met : List ℕ → ℕ → ℕ → Bool
others_met links set i = subset (without_node set i) (word_at links i)

-- each member of the set has the other members among its connections
unfoldable pub members_met : List ℕ → ℕ → Bool
members_met links set = one_a_node links && all_of set (others_met links set)

-- ---- free normal groups, where loose is the set of the free normal nodes

-- each of the first n nodes has the free normal group that its connections give
abbrev pub own_free : List ℕ → List ℕ → ℕ → ℕ → Bool
own_free links free loose n = all_below n (λ i. eqb (word_at free i) (freely loose i (word_at links i)))

-- node i has the word that the lowest node of its free normal group has
abbrev pub is_lowest : List ℕ → ℕ → Bool
is_lowest free i = eqb (word_at free (lowest (word_at free i))) (word_at free i)

-- each of the first n nodes has the word that the lowest node of its free normal group has
abbrev pub own_lowest : List ℕ → ℕ → Bool
own_lowest free n = all_below n (is_lowest free)

-- the free normal groups of n nodes: those that the connections give, each in the word of its lowest node; every other word is zero.
-- With sound connections each is then in the words of all its nodes (`Reading`)
unfoldable pub free_sound : List ℕ → List ℕ → ℕ → ℕ → Bool
free_sound links free loose n =
    one_a_node links && one_a_node free && leb n node_limit && own_free links free loose n && all_zero (drop n free) && own_lowest free n
