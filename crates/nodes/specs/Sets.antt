-- What the code and the proofs do with sets of nodes, over the definitions of `NodeSets`, which are passed on. Definitions only. Assumes nothing.
use Rattle.std.specs.Prelude.{Bool, false, ◌||◌, cond, List, [], ◌∷◌, ℕ, zero, suc, ◌-◌, ◌/◌, ◌%◌, ◌^◌, eqb, ltb}
use Rattle.std.specs.Int.Bits.{bit_and, bit_or}
use Rattle.std.specs.Int.Count.{ones, count_trailing_zeros}
unfoldable pub use Rattle.nodes.specs.NodeSets.{node_limit, has, beyond, word_at}

-- ---- membership

-- the binary digit i of w: 1 where i is in w, else 0
abbrev pub bit : ℕ → ℕ → ℕ
bit w i = w / 2 ^ i % 2

-- whether w has no member
abbrev pub empty : ℕ → Bool
empty w = eqb w 0

-- ---- sets

-- i alone
abbrev pub single : ℕ → ℕ
single i = 2 ^ i

-- the first n nodes: 0 to n - 1
abbrev pub roster : ℕ → ℕ
roster n = 2 ^ n - 1

-- the nodes that are in a or in b
unfoldable pub union : ℕ → ℕ → ℕ
union a b = bit_or a b

-- the nodes that are in a and in b
unfoldable pub inter : ℕ → ℕ → ℕ
inter a b = bit_and a b

-- the nodes of a that are not in b
unfoldable pub diff : ℕ → ℕ → ℕ
diff a b = a - bit_and a b

-- w with i; no word has a node past 63, so that such an i is left out
abbrev pub with_node : ℕ → ℕ → ℕ
with_node w i = cond (ltb i node_limit) (union w (single i)) w

-- w without i
abbrev pub without_node : ℕ → ℕ → ℕ
without_node w i = diff w (single i)

-- whether every node of a is in b
abbrev pub subset : ℕ → ℕ → Bool
subset a b = eqb (inter a b) a

-- ---- members

-- how many nodes w has
abbrev pub count : ℕ → ℕ
count w = ones w

-- the lowest node of w, and 64 where w has none below 64
abbrev pub lowest : ℕ → ℕ
lowest w = count_trailing_zeros node_limit w

-- w without its lowest node
abbrev pub rest : ℕ → ℕ
rest w = without_node w (lowest w)

-- ---- lists of sets

-- the union of all words of a list
unfoldable pub union_all : List ℕ → ℕ
union_all [] = 0
union_all (w ∷ ws) = union w (union_all ws)

-- whether some word of a list has i
abbrev pub some_has : List ℕ → ℕ → Bool
some_has [] i = false
some_has (w ∷ ws) i = has w i || some_has ws i

-- ---- walks over members

module _ {A : Type 0} (f : A → ℕ → A) where
  -- f at each member of s below n, upwards, from a
  unfoldable pub upto : ℕ → A → ℕ → A
  upto s a zero = a
  upto s a (suc n) = cond (has s n) (f (upto s a n) n) (upto s a n)

  -- f at each member of s, upwards, from a
  abbrev pub walk : ℕ → A → A
  walk s a = upto s a node_limit

-- one step of a union over members: the word at i comes in
abbrev pub gather : List ℕ → ℕ → ℕ → ℕ
gather ws a i = union a (word_at ws i)

-- the union of the words at the members of s
abbrev pub unions_at : List ℕ → ℕ → ℕ
unions_at ws s = walk (gather ws) s 0
