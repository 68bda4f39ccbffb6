-- Worked examples, by computation. Assumes nothing.
use Rattle.std.specs.Prelude.{◌≡◌, refl, true, false, [], ◌∷◌, ℕ}
use Rattle.std.proofs.Common.{arith}
use Rattle.std.specs.Int.Count.{count_trailing_zeros}
use Rattle.nodes.specs.Sets.{has, union, inter, diff, roster, with_node, without_node, subset, beyond, count, lowest, rest, union_all, upto, unions_at}
use Rattle.nodes.proofs.TruthTable.{x, y, z, u, v, none, or, and, less, ◌≐◌, by-table}
use Rattle.nodes.proofs.Counts.{tally, count_tally}

-- the nodes 0, 2 and 63 are in 0x8000_0000_0000_0005, the node 1 is not
has-0 : has 0x8000_0000_0000_0005 0 ≡ true
has-0 = refl

has_1 : has 0x8000_0000_0000_0005 1 ≡ false
has_1 = refl

has-63 : has 0x8000_0000_0000_0005 63 ≡ true
has-63 = refl

-- {0, 1} and {1, 2}
both : union 0b011 0b110 ≡ 0b111
unfolding union
both = refl

shared : inter 0b011 0b110 ≡ 0b010
unfolding inter
shared = refl

first-only : diff 0b011 0b110 ≡ 0b001
unfolding diff
first-only = refl

-- the node 63 comes in and goes; the node 64 is left out
with-63 : with_node 1 63 ≡ 0x8000_0000_0000_0001
unfolding union
with-63 = refl

with-64 : with_node 1 64 ≡ 1
unfolding union
with-64 = refl

without-63 : without_node 0x8000_0000_0000_0001 63 ≡ 1
unfolding diff
without-63 = refl

-- {1} is a subset of {0, 1}, and not the other way round
one-in-two : subset 0b10 0b11 ≡ true
unfolding inter
one-in-two = refl

two-in_one : subset 0b11 0b10 ≡ false
unfolding inter
two-in_one = refl

-- the first 3 nodes, all 64, and none
roster-3 : roster 3 ≡ 0b111
roster-3 = refl

roster-64 : roster 64 ≡ 0xffff_ffff_ffff_ffff
roster-64 = refl

roster-0 : roster 0 ≡ 0
roster-0 = refl

-- {3} is beyond the first 3 nodes, and not beyond the first 4
beyond-3 : beyond 0b1000 3 ≡ true
beyond-3 = refl

beyond-4 : beyond 0b1000 4 ≡ false
beyond-4 = refl

-- {1, 3, 63} has three nodes, the lowest is 1, and {3, 63} is left
count-three : count 0x8000_0000_0000_000a ≡ 3
unfolding tally
count-three = count_tally 64 0x8000_0000_0000_000a (omega arith)

lowest-one : lowest 0x8000_0000_0000_000a ≡ 1
unfolding count_trailing_zeros
lowest-one = refl

lowest-of-none : lowest 0 ≡ 64
unfolding count_trailing_zeros
lowest-of-none = refl

rest-two : rest 0x8000_0000_0000_000a ≡ 0x8000_0000_0000_0008
unfolding count_trailing_zeros diff
rest-two = refl

-- the words at 1 and 3, and all of four words
at-two : unions_at (1 ∷ 2 ∷ 4 ∷ 0x8000_0000_0000_0000 ∷ []) 0b1010 ≡ 0x8000_0000_0000_0002
unfolding upto union
at-two = refl

of-all : union_all (1 ∷ 2 ∷ 4 ∷ 0x8000_0000_0000_0000 ∷ []) ≡ 0x8000_0000_0000_0007
unfolding union_all union
of-all = refl

-- laws by their truth tables: with no premise, and from what is given
five-sets : (a b c d e : ℕ)
    → diff (union (union a b) (inter c d)) (union e (inter a c))
    ≡ union (diff (diff a c) e) (diff (union (diff b (inter a c)) (diff (inter c d) a)) e)
five-sets a b c d e =
    by-table []
    (less (or (or x y) (and z u)) (or v (and x z)) ≐ or (less (less x z) v) (less (or (less y (and x z)) (less (and z u) x)) v))
    (a ∷ b ∷ c ∷ d ∷ e ∷ []) tt tt

apart : (a b c : ℕ) → inter a b ≡ 0 → diff (union a c) b ≡ union a (diff c b)
apart a b c h = by-table (and x y ≐ none ∷ []) (less (or x z) y ≐ or x (less z y)) (a ∷ b ∷ c ∷ []) tt (h, tt)
