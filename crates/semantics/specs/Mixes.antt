-- Scripts, their mixes, and what a machine does with a mix, for lines of any kind and any machine. Definitions only. Assumes nothing.
use Rattle.std.specs.Prelude.{◌≡◌, cond, ℕ, suc, ◌<◌, eqb, length, get_or}
use mathlib.Core.List.{List, [], ◌∷◌, ◌++◌, map, Memᴰ}

-- a turn: which script has it, and the line that it says
pub record Turn (C : Type 0) : Type 0 where
  pub script : ℕ
  pub line : C

-- how often j stands in a list
abbrev pub times : ℕ → List ℕ → ℕ
times j [] = 0
times j (k ∷ ks) = cond (eqb k j) (suc (times j ks)) (times j ks)

module _ {C : Type 0} where
  -- the lines of script k among the turns, in order
  unfoldable pub of : ℕ → List (Turn C) → List C
  of k [] = []
  of k (t ∷ m) = cond (eqb t.script k) (t.line ∷ of k m) (of k m)

  -- m is a mix of the scripts: it holds each of them whole, in its own order, and nothing else
  abbrev pub Mix : List (List C) → List (Turn C) → Type 0
  Mix scripts m = (k : ℕ) → of k m ≡ get_or scripts k []

  -- lines of two scripts never clash
  abbrev pub Disjoint : (C → C → Type 0) → List (List C) → Type 0
  Disjoint Clash scripts = (j k : ℕ) (a b : C) → Memᴰ a (get_or scripts j []) → Memᴰ b (get_or scripts k []) → Clash a b → j ≡ k

  -- every line of every script is P
  abbrev pub AllLines : (C → Type 0) → List (List C) → Type 0
  AllLines P scripts = (k : ℕ) (a : C) → Memᴰ a (get_or scripts k []) → P a

  -- each script stands once in the order
  abbrev pub EachOnce : List (List C) → List ℕ → Type 0
  EachOnce scripts order = (k : ℕ) → k < length scripts → times k order ≡ 1

  -- the scripts whole, one after another, in the order
  unfoldable pub whole : List (List C) → List ℕ → List (Turn C)
  whole scripts [] = []
  whole scripts (k ∷ ks) = map (λ c. record { script = k; line = c }) (get_or scripts k []) ++ whole scripts ks

-- ---- a machine: what a line makes of a state

module _ {S C : Type 0} (move : C → S → S) where
  -- the state after all turns
  unfoldable pub last : List (Turn C) → S → S
  last [] s = s
  last (t ∷ m) s = last m (move t.line s)

  -- and what it says to a line
  module _ {R : Type 0} (say : C → S → R) where
    -- what script k hears, line by line
    unfoldable pub answers : ℕ → List (Turn C) → S → List R
    answers k [] s = []
    answers k (t ∷ m) s = cond (eqb t.script k) (say t.line s ∷ answers k m (move t.line s)) (answers k m (move t.line s))

    -- they end in the same state, and each script hears the same
    pub record Agree (m m' : List (Turn C)) (s : S) : Type 0 where
      pub end : last m s ≡ last m' s
      pub each : (k : ℕ) → answers k m s ≡ answers k m' s
