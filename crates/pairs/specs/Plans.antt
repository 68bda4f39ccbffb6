-- A plan seen as a list: its numbers and sets, side by side. Definitions, and their laws. Assumes nothing.
use Rattle.std.specs.Prelude.{◌≡◌, refl, Bool, List, [], ◌∷◌, ℕ, zero, suc, eqb, map, length, take, set, get_or, replicate}
use Rattle.std.specs.List.{list_any}
use Rattle.std.proofs.Common.{ap, arith}
use Rattle.pairs.specs.declared.Made.{Made}

-- an s_group that is to be made, by its number and its set
abbrev pub made_of : ℕ → ℕ → Made
made_of number s = record { number = number; set = s }

-- the numbers and the sets, one of each by turns, as far as both go
unfoldable pub paired : List ℕ → List ℕ → List Made
paired [] ss = []
paired (n ∷ ns) [] = []
paired (n ∷ ns) (s ∷ ss) = made_of n s ∷ paired ns ss

-- a number is one of these
abbrev pub holds : List ℕ → ℕ → Bool
holds ns m = list_any (λ n. eqb n m) ns

-- a number is that of one of these s_groups
abbrev pub seen : List Made → ℕ → Bool
seen ms m = list_any (λ g. eqb g.number m) ms

-- the numbers of s_groups
abbrev pub numbers_of : List Made → List ℕ
numbers_of ms = map (λ g. g.number) ms

-- and their sets
abbrev pub sets_of : List Made → List ℕ
sets_of ms = map (λ g. g.set) ms

-- as many as there are numbers
pub paired-length : (ns ss : List ℕ) → length ns ≡ length ss → length (paired ns ss) ≡ length ns
unfolding paired
paired-length [] ss e = refl
paired-length (n ∷ ns) [] e = absurd (omega arith)
paired-length (n ∷ ns) (s ∷ ss) e = omega (arith, paired-length ns ss (omega arith))

-- both are written at a place
pub paired-set : (ns ss : List ℕ) (i n s : ℕ) → length ns ≡ length ss → paired (set ns i n) (set ss i s) ≡ set (paired ns ss) i (made_of n s)
unfolding paired
paired-set [] [] i n s e = refl
paired-set [] (y ∷ ss) i n s e = absurd (omega arith)
paired-set (x ∷ ns) [] i n s e = absurd (omega arith)
paired-set (x ∷ ns) (y ∷ ss) zero n s e = refl
paired-set (x ∷ ns) (y ∷ ss) (suc i) n s e = ap (λ ms. made_of x y ∷ ms) (paired-set ns ss i n s (omega arith))

-- both are read at a place
pub paired-get : (ns ss : List ℕ) (i : ℕ) → length ns ≡ length ss → get_or (paired ns ss) i (made_of 0 0) ≡ made_of (get_or ns i 0) (get_or ss i 0)
unfolding paired
paired-get [] [] i e = refl
paired-get [] (s ∷ ss) i e = absurd (omega arith)
paired-get (n ∷ ns) [] i e = absurd (omega arith)
paired-get (n ∷ ns) (s ∷ ss) zero e = refl
paired-get (n ∷ ns) (s ∷ ss) (suc i) e = paired-get ns ss i (omega arith)

-- a number stands among the first numbers where it is that of one of the first s_groups
pub paired-seen : (ns ss : List ℕ) (count m : ℕ) → length ns ≡ length ss → seen (take count (paired ns ss)) m ≡ holds (take count ns) m
unfolding paired
paired-seen ns ss zero m e = refl
paired-seen [] [] (suc count) m e = refl
paired-seen [] (s ∷ ss) (suc count) m e = absurd (omega arith)
paired-seen (n ∷ ns) [] (suc count) m e = absurd (omega arith)
paired-seen (n ∷ ns) (s ∷ ss) (suc count) m e = rw (paired-seen ns ss count m (omega arith))

-- of equal ones
pub paired-replicate : (k n s : ℕ) → paired (replicate k n) (replicate k s) ≡ replicate k (made_of n s)
unfolding paired
paired-replicate zero n s = refl
paired-replicate (suc k) n s = ap (λ ms. made_of n s ∷ ms) (paired-replicate k n s)

-- the first numbers are those of the first s_groups
pub paired-numbers : (ns ss : List ℕ) (count : ℕ) → length ns ≡ length ss → numbers_of (take count (paired ns ss)) ≡ take count ns
unfolding paired
paired-numbers ns ss zero e = refl
paired-numbers [] [] (suc count) e = refl
paired-numbers [] (s ∷ ss) (suc count) e = absurd (omega arith)
paired-numbers (n ∷ ns) [] (suc count) e = absurd (omega arith)
paired-numbers (n ∷ ns) (s ∷ ss) (suc count) e = ap (λ l. n ∷ l) (paired-numbers ns ss count (omega arith))

-- and the first sets
pub paired-sets : (ns ss : List ℕ) (count : ℕ) → length ns ≡ length ss → sets_of (take count (paired ns ss)) ≡ take count ss
unfolding paired
paired-sets ns ss zero e = refl
paired-sets [] [] (suc count) e = refl
paired-sets [] (s ∷ ss) (suc count) e = absurd (omega arith)
paired-sets (n ∷ ns) [] (suc count) e = absurd (omega arith)
paired-sets (n ∷ ns) (s ∷ ss) (suc count) e = ap (λ l. s ∷ l) (paired-sets ns ss count (omega arith))

-- s_groups have as many sets as numbers
pub one-each : (ms : List Made) → length (numbers_of ms) ≡ length (sets_of ms)
one-each [] = refl
one-each (m ∷ ms) = omega (arith, one-each ms)

-- both side by side are the s_groups again
pub paired-again : (ms : List Made) → paired (numbers_of ms) (sets_of ms) ≡ ms
unfolding paired
paired-again [] = refl
paired-again (m ∷ ms) = ap (λ l. m ∷ l) (paired-again ms)
