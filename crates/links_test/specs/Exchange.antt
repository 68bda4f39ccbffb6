-- One round of turning rows of 64 digits about their diagonal: the place a of the row's number, 1, 2 or 4, and the place j of the column's, 1, 2, 4, 8, 16 or 32,
-- change sides. Row r and column c is the digit c of word r.
-- Assumes nothing.
use Rattle.std.specs.Prelude.{◌≡◌, refl, ◌⊎◌, Bool, true, false, List, length, set}
use Rattle.std.proofs.Math.Path.{sym, ap, ap₂}
use Rattle.std.proofs.Common.{◌∙◌, inl, inr, div-add-mod', div-lt_iff_lt-mul, mod-lt, pow-add, shr-shr, lt-ltb}
use Rattle.std.proofs.Math.Logic.{⊎_elim}
use Rattle.std.proofs.Math.Bool.{not, ◌&&◌, beq, and-true, and-false}
use Prim.Native.Nat.{ℕ, zero, suc, ◌+◌, ◌-◌, ◌*◌, ◌/◌, ◌%◌, ◌^◌, ◌≤◌, ◌<◌}
use Rattle.std.proofs.Math.Nat.{add-div_left}
use native.Mathlib.Omega.{arith}
use Rattle.std.proofs.Math.Arith.{digits_lt, digits_div, digits_mod}
use Rattle.std.proofs.Math.Dec.{eqb}
use Rattle.std.proofs.lemmas.Nat.{shl-shr, and_mask, xor_shr}
use Rattle.std.specs.Int.Bits.{bit_and, bit_xor, shifted_even}
use Rattle.std.proofs.Math.ListN.{length-set}
use Rattle.std.proofs.Math.Seq.{get_or-set_same, get_or-set_other}
use Rattle.nodes.specs.Sets.{node_limit, has, roster, inter, word_at}
use Rattle.nodes.specs.Bools.{by_lt}
use Rattle.nodes.proofs.SetLaws.{has-inter, has-roster}
use Rattle.free_test.specs.WireTests.{all_below}
use Rattle.free_test.specs.Below.{below-iff, beq-iff}
use Rattle.links_test.specs.Mutual.{even, even-xor}

-- so many rows are turned at a time
abbrev pub unit_rows : ℕ
unit_rows = 8

-- so many pairs they make
abbrev pub unit_pairs : ℕ
unit_pairs = unit_rows / 2

-- the place j of the number c: 0 or 1
abbrev pub place : ℕ → ℕ → ℕ
place c j = c / j % 2

-- the number c with d in its place j
abbrev pub placed : ℕ → ℕ → ℕ → ℕ
placed c j d = (c / j / 2 * 2 + d) * j + c % j

-- mask has the columns whose place j is 0
pub record Half (j mask : ℕ) : Type 0 where
  pub some : 0 < j
  pub few : j < node_limit
  pub low : all_below node_limit (λ c. beq (has mask c) (eqb (place c j) 0)) ≡ true

-- the pairs of rows at the place a fill a unit
abbrev pub Within : ℕ → Type 0
Within a = unit_pairs % a ≡ 0

-- the digits in which rows x and y change sides in a round at the place j
abbrev pub crossing : ℕ → ℕ → ℕ → ℕ → ℕ
crossing j mask x y = bit_and (bit_xor (x / 2 ^ j) y) mask

-- what the round makes of the two: the first of the new rows, and the second
abbrev pub lower : ℕ → ℕ → ℕ → ℕ → ℕ
lower j mask x y = bit_xor x (crossing j mask x y * 2 ^ j % 2 ^ node_limit)

abbrev pub upper : ℕ → ℕ → ℕ → ℕ → ℕ
upper j mask x y = bit_xor y (crossing j mask x y)

-- row d of the two
abbrev changed : ℕ → ℕ → ℕ → ℕ → ℕ → ℕ
changed j mask x y zero = lower j mask x y
changed j mask x y (suc d) = upper j mask x y

-- the first row of the pair k, and the pair that row r is in
abbrev pub row_of : ℕ → ℕ → ℕ
row_of a k = k / a * (2 * a) + k % a

abbrev pub pair_of : ℕ → ℕ → ℕ
pair_of a r = r / a / 2 * a + r % a

-- the pair k of rows done
abbrev pub after_pair : ℕ → ℕ → ℕ → List ℕ → ℕ → List ℕ
after_pair a j mask to k =
    set (set to (row_of a k) (lower j mask (word_at to (row_of a k)) (word_at to (row_of a k + a)))) (row_of a k + a)
    (upper j mask (word_at to (row_of a k)) (word_at to (row_of a k + a)))

-- at row r and column c the places a and j have changed sides
abbrev pub Crossed : ℕ → ℕ → List ℕ → List ℕ → ℕ → ℕ → Type 0
Crossed a j from to r c = has (word_at to r) c ≡ has (word_at from (placed r a (place c j))) (placed c j (place r a))

-- a round as far as the pair k, whose rows are words: the other rows are as they were
pub record Partly (a j k : ℕ) (from to : List ℕ) : Type 0 where
  pub long : length to ≡ unit_rows
  pub fits : (r : ℕ) → r < unit_rows → pair_of a r < k → word_at to r < 2 ^ node_limit
  pub done : (r c : ℕ) → r < unit_rows → c < node_limit → pair_of a r < k → Crossed a j from to r c
  pub left : (r : ℕ) → r < unit_rows → k ≤ pair_of a r → word_at to r ≡ word_at from r

-- a whole round
pub record Exchanged (a j : ℕ) (from to : List ℕ) : Type 0 where
  pub long : length to ≡ unit_rows
  pub fits : (r : ℕ) → r < unit_rows → word_at to r < 2 ^ node_limit
  pub at : (r c : ℕ) → r < unit_rows → c < node_limit → Crossed a j from to r c

-- ---- digits of a word

has-shr : (w s c : ℕ) → has (w / 2 ^ s) c ≡ has w (s + c)
has-shr w s c = ap (λ (x : ℕ). eqb (x % 2) 1) (shr-shr w s c)

has-mod : (w n c : ℕ) → c < n → has (w % 2 ^ n) c ≡ has w c
unfolding inter
has-mod w n c l =
    ap (λ (x : ℕ). has x c) (sym (and_mask w n)) ∙ has-inter w (roster n) c
    ∙ ap (λ (t : Bool). has w c && t) (has-roster n c ∙ lt-ltb c n l) ∙ and-true (has w c)

has-shl : (w s c : ℕ) → s + c < node_limit → has (w * 2 ^ s % 2 ^ node_limit) (s + c) ≡ has w c
has-shl w s c l =
    has-mod (w * 2 ^ s) node_limit (s + c) l
    ∙ ap (λ (x : ℕ). eqb (x % 2) 1) (sym (shr-shr (w * 2 ^ s) s c) ∙ ap (λ (x : ℕ). x / 2 ^ c) (shl-shr w s))

-- below the shift there is nothing
has-shl-below : (w d c : ℕ) → suc d + c < node_limit → has (w * 2 ^ (suc d + c) % 2 ^ node_limit) c ≡ false
has-shl-below w d c l =
    let parts : w * 2 ^ (suc d + c) ≡ w * 2 ^ suc d * 2 ^ c = omega (arith, ap (λ (x : ℕ). w * x) (pow-add 2 (suc d) c)) in
    has-mod (w * 2 ^ (suc d + c)) node_limit c (omega arith)
    ∙ ap (λ (x : ℕ). eqb (x % 2) 1) (ap (λ (x : ℕ). x / 2 ^ c) parts ∙ shl-shr (w * 2 ^ suc d) c)
    ∙ ap (λ (x : ℕ). eqb x 1) (shifted_even w d)

odd_even : (w : ℕ) → eqb (w % 2) 1 ≡ not (even w)
odd_even w = go (w % 2) (omega arith)
  where
    go : (x : ℕ) → x < 2 → eqb x 1 ≡ not (eqb x 0)
    go zero h = refl
    go (suc zero) h = refl
    go (suc (suc x)) h = absurd (omega arith)

has-xor : (a b c : ℕ) → has (bit_xor a b) c ≡ not (beq (has a c) (has b c))
has-xor a b c =
    ap (λ (x : ℕ). eqb (x % 2) 1) (xor_shr a b c) ∙ odd_even (bit_xor (a / 2 ^ c) (b / 2 ^ c)) ∙ ap not (even-xor (a / 2 ^ c) (b / 2 ^ c))

-- ---- places

place_cases : (c j : ℕ) → (place c j ≡ 0) ⊎ (place c j ≡ 1)
place_cases c j = go (place c j) (omega arith)
  where
    go : (x : ℕ) → x < 2 → (x ≡ 0) ⊎ (x ≡ 1)
    go zero h = inl refl
    go (suc x) h = inr (omega arith)

-- a number is itself with its own place
placed-own : (c j d : ℕ) → place c j ≡ d → placed c j d ≡ c
placed-own c j d e =
    ap (λ (x : ℕ). (c / j / 2 * 2 + x) * j + c % j) (sym e) ∙ ap (λ (x : ℕ). x * j + c % j) (div-add-mod' (c / j) 2) ∙ div-add-mod' c j

placed_one : (c j : ℕ) → placed c j 1 ≡ j + placed c j 0
placed_one c j = omega arith

-- the place is what was put there
place-placed : (c j d : ℕ) → 0 < j → d < 2 → place (placed c j d) j ≡ d
place-placed c j d some l = ap (λ (x : ℕ). x % 2) (digits_div (c / j / 2 * 2 + d) (mod-lt c some)) ∙ omega arith

-- ---- one pair of rows

-- what differs twice is as it was
differs-back : (s t : Bool) → not (beq t (not (beq s t))) ≡ s
differs-back true true = refl
differs-back true false = refl
differs-back false true = refl
differs-back false false = refl

differs-on : (s t : Bool) → not (beq s (not (beq s t))) ≡ t
differs-on true true = refl
differs-on true false = refl
differs-on false true = refl
differs-on false false = refl

differs_none : (t : Bool) → not (beq t false) ≡ t
differs_none true = refl
differs_none false = refl

module _ (j mask x y : ℕ) (h : Half j mask) where
  cross : ℕ
  cross = crossing j mask x y

  masked : (c d : ℕ) → c < node_limit → place c j ≡ d → has cross c ≡ (not (beq (has x (j + c)) (has y c)) && eqb d 0)
  unfolding cross inter
  masked c d l e =
      let columns = (below-iff node_limit (λ k. beq (has mask k) (eqb (place k j) 0))).0 h.low c l in
      has-inter (bit_xor (x / 2 ^ j) y) mask c
      ∙ ap₂ ◌&&◌ (has-xor (x / 2 ^ j) y c ∙ ap (λ (t : Bool). not (beq t (has y c))) (has-shr x j c))
      ((beq-iff (has mask c) (eqb (place c j) 0)).0 columns ∙ ap (λ (k : ℕ). eqb k 0) e)

  -- digits change sides in the columns whose place j is 0
  cross-on : (c : ℕ) → c < node_limit → place c j ≡ 0 → has cross c ≡ not (beq (has x (j + c)) (has y c))
  cross-on c l e = masked c 0 l e ∙ and-true (not (beq (has x (j + c)) (has y c)))

  cross-off : (c : ℕ) → c < node_limit → place c j ≡ 1 → has cross c ≡ false
  cross-off c l e = masked c 1 l e ∙ and-false (not (beq (has x (j + c)) (has y c)))

  upper_first : (c : ℕ) → c < node_limit → place c j ≡ 0 → has (upper j mask x y) c ≡ has x (placed c j 1)
  unfolding cross
  upper_first c l e =
      let own : j + c ≡ placed c j 1 = ap (λ (k : ℕ). j + k) (sym (placed-own c j 0 e)) ∙ sym (placed_one c j) in
      has-xor y cross c ∙ ap (λ (t : Bool). not (beq (has y c) t)) (cross-on c l e) ∙ differs-back (has x (j + c)) (has y c) ∙ ap (has x) own

  upper-second : (c : ℕ) → c < node_limit → place c j ≡ 1 → has (upper j mask x y) c ≡ has y (placed c j 1)
  unfolding cross
  upper-second c l e =
      has-xor y cross c ∙ ap (λ (t : Bool). not (beq (has y c) t)) (cross-off c l e) ∙ differs_none (has y c)
      ∙ ap (has y) (sym (placed-own c j 1 e))

  -- what the first row takes in, j columns further on
  moved : ℕ
  moved = cross * 2 ^ j % 2 ^ node_limit

  moved-below : (c : ℕ) → c < node_limit → c < j → has moved c ≡ false
  unfolding moved
  moved-below c l lt =
      let back : suc (j - suc c) + c ≡ j = omega arith in
      rw back at (has-shl-below cross (j - suc c) c (omega arith))

  moved-off : (c : ℕ) → c < node_limit → place c j ≡ 0 → j ≤ c → has moved c ≡ false
  unfolding moved
  moved-off c l e ge =
      let back : j + (c - j) ≡ c = omega arith in
      let before : place (c - j) j ≡ 1 = omega (arith, ap (λ (k : ℕ). k / j) back, add-div_left (c - j) h.some) in
      rw back at (has-shl cross j (c - j) (omega arith) ∙ cross-off (c - j) (omega arith) before)

  lower-first : (c : ℕ) → c < node_limit → place c j ≡ 0 → has (lower j mask x y) c ≡ has x (placed c j 0)
  unfolding cross moved
  lower-first c l e =
      has-xor x moved c
      ∙ ap (λ (t : Bool). not (beq (has x c) t)) (⊎_elim (moved-below c l) (moved-off c l e) (by_lt c j))
      ∙ differs_none (has x c) ∙ ap (has x) (sym (placed-own c j 0 e))

  lower-second : (c : ℕ) → c < node_limit → place c j ≡ 1 → has (lower j mask x y) c ≡ has y (placed c j 0)
  unfolding cross moved
  lower-second c l e =
      let own : j + placed c j 0 ≡ c = sym (placed_one c j) ∙ placed-own c j 1 e in
      let in-first : has moved c ≡ not (beq (has x c) (has y (placed c j 0))) =
      rw own at (has-shl cross j (placed c j 0) (omega arith) ∙ cross-on (placed c j 0) (omega arith) (place-placed c j 0 h.some (omega arith))) in
      has-xor x moved c ∙ ap (λ (t : Bool). not (beq (has x c) t)) in-first ∙ differs-on (has x c) (has y (placed c j 0))

  -- the digits of the new rows, where w has the old ones by their place
  changed-at : (w : ℕ → ℕ) → x ≡ w 0 → y ≡ w 1 → (d c : ℕ) → d < 2 → c < node_limit
      → has (changed j mask x y d) c ≡ has (w (place c j)) (placed c j d)
  changed-at w first second zero c ld lc =
      ⊎_elim (λ e. lower-first c lc e ∙ ap (λ (v : ℕ). has v (placed c j 0)) (first ∙ ap w (sym e)))
      (λ e. lower-second c lc e ∙ ap (λ (v : ℕ). has v (placed c j 0)) (second ∙ ap w (sym e)))
      (place_cases c j)
  changed-at w first second (suc zero) c ld lc =
      ⊎_elim (λ e. upper_first c lc e ∙ ap (λ (v : ℕ). has v (placed c j 1)) (first ∙ ap w (sym e)))
      (λ e. upper-second c lc e ∙ ap (λ (v : ℕ). has v (placed c j 1)) (second ∙ ap w (sym e)))
      (place_cases c j)
  changed-at w first second (suc (suc d)) c ld lc = absurd (omega arith)

-- ---- the pairs of rows of a unit

module _ (a : ℕ) (some : 0 < a) where
  -- row d of the pair k, by its digits at a
  row-digits : (k d : ℕ) → row_of a k + d * a ≡ (k / a * 2 + d) * a + k % a
  row-digits k d = omega arith

  pair_row : (k d : ℕ) → d < 2 → pair_of a (row_of a k + d * a) ≡ k
  pair_row k d l =
      ap (λ (r : ℕ). r / a / 2 * a + r % a) (row-digits k d)
      ∙ ap₂ (λ (q m : ℕ). q / 2 * a + m) (digits_div (k / a * 2 + d) (mod-lt k some)) (digits_mod (k / a * 2 + d) (mod-lt k some))
      ∙ ap (λ (q : ℕ). q * a + k % a) (omega arith) ∙ div-add-mod' k a

  -- the rows of the pair that row r is in
  row-pair : (r d : ℕ) → row_of a (pair_of a r) + d * a ≡ placed r a d
  row-pair r d =
      row-digits (pair_of a r) d
      ∙ ap₂ (λ (q m : ℕ). (q * 2 + d) * a + m) (digits_div (r / a / 2) (mod-lt r some)) (digits_mod (r / a / 2) (mod-lt r some))

  module _ (within : Within a) where
    -- so many pairs at a time stand side by side
    blocks : unit_pairs / a * a ≡ unit_pairs
    blocks = omega (arith, div-add-mod' unit_pairs a)

    pub row_lt : (k : ℕ) → k < unit_pairs → row_of a k + a < unit_rows
    row_lt k l =
        let q : k / a < unit_pairs / a = (div-lt_iff_lt-mul some).1 (omega (arith, blocks)) in
        omega (arith, row-digits k 1, digits_lt {q = k / a * 2 + 1} {m = unit_pairs / a * 2} {r = k % a} {c = a} (omega arith) (mod-lt k some), blocks)

    row-high : (r : ℕ) → r < unit_rows → r / a < unit_pairs / a * 2
    row-high r l = (div-lt_iff_lt-mul some).1 (omega (arith, blocks))

    pair_lt : (r : ℕ) → r < unit_rows → pair_of a r < unit_pairs
    pair_lt r l =
        let q = row-high r l in
        omega (arith, digits_lt {q = r / a / 2} {m = unit_pairs / a} {r = r % a} {c = a} (omega arith) (mod-lt r some), blocks)

    placed-lt : (r d : ℕ) → r < unit_rows → d < 2 → placed r a d < unit_rows
    placed-lt r d lr ld =
        let q = row-high r lr in
        omega (arith, digits_lt {q = r / a / 2 * 2 + d} {m = unit_pairs / a * 2} {r = r % a} {c = a} (omega arith) (mod-lt r some), blocks)

-- ---- a round

-- before the first pair every row is as it was
pub begun : (a j : ℕ) (ws : List ℕ) → length ws ≡ unit_rows → Partly a j 0 ws ws
begun a j ws long = record { long = long; fits = λ r lr l. absurd (omega arith); done = λ r c lr lc l. absurd (omega arith); left = λ r lr l. refl }

module _ (a j mask : ℕ) (from to : List ℕ) (k : ℕ) (some : 0 < a) (within : Within a) (h : Half j mask) (lk : k < unit_pairs) (was : Partly a j k from to) where
  -- the two rows of the pair
  low : ℕ
  low = row_of a k

  high : ℕ
  high = row_of a k + a

  -- what they become, and the rows with both in place
  new : ℕ → ℕ
  new = changed j mask (word_at to low) (word_at to high)

  next : List ℕ
  next = set (set to low (new 0)) high (new 1)

  high_lt : high < length to
  unfolding high
  high_lt = omega (arith, row_lt a some within k lk, was.long)

  next_low : word_at next low ≡ new 0
  unfolding low high next
  next_low =
      get_or-set_other (set to low (new 0)) high low (new 1) 0 (λ e. omega (arith, some)) ∙ get_or-set_same to low (new 0) 0 (omega (arith, high_lt))

  next-high : word_at next high ≡ new 1
  unfolding next
  next-high = get_or-set_same (set to low (new 0)) high (new 1) 0 (simp length-set high_lt)

  -- the rows of other pairs
  next-other : (r : ℕ) → (pair_of a r ≡ k → ⊥) → word_at next r ≡ word_at to r
  unfolding low high next
  next-other r other =
      let off : (d : ℕ) → d < 2 → r ≡ row_of a k + d * a → ⊥ = λ d l e. other (ap (pair_of a) e ∙ pair_row a some k d l) in
      get_or-set_other (set to low (new 0)) high r (new 1) 0 (λ e. off 1 (omega arith) (omega arith))
      ∙ get_or-set_other to low r (new 0) 0 (λ e. off 0 (omega arith) (omega arith))

  -- a row of the pair
  module _ (r c : ℕ) (lr : r < unit_rows) (lc : c < node_limit) (e : pair_of a r ≡ k) where
    rows : (d : ℕ) → row_of a k + d * a ≡ placed r a d
    rows d = ap (λ (i : ℕ). row_of a i + d * a) (sym e) ∙ row-pair a some r d

    low-is : low ≡ placed r a 0
    unfolding low
    low-is = omega (arith, rows 0)

    high_is : high ≡ placed r a 1
    unfolding high
    high_is = omega (arith, rows 1)

    -- the old rows, by their place
    old : (d : ℕ) → d < 2 → word_at to (placed r a d) ≡ word_at from (placed r a d)
    old d l =
        let own : pair_of a (placed r a d) ≡ k = ap (pair_of a) (sym (rows d)) ∙ pair_row a some k d l in
        was.left (placed r a d) (placed-lt a some within r d lr l) (omega arith)

    first : word_at to low ≡ word_at from (placed r a 0)
    first = ap (word_at to) low-is ∙ old 0 (omega arith)

    second : word_at to high ≡ word_at from (placed r a 1)
    second = ap (word_at to) high_is ∙ old 1 (omega arith)

    next_row : word_at next r ≡ new (place r a)
    next_row =
        ⊎_elim (λ p. ap (word_at next) (sym (low-is ∙ placed-own r a 0 p)) ∙ next_low ∙ ap new (sym p))
        (λ p. ap (word_at next) (sym (high_is ∙ placed-own r a 1 p)) ∙ next-high ∙ ap new (sym p))
        (place_cases r a)

    turned : Crossed a j from next r c
    unfolding new
    turned =
        ap (λ (w : ℕ). has w c) next_row
        ∙ changed-at j mask (word_at to low) (word_at to high) h (λ d. word_at from (placed r a d)) first second (place r a) c (omega arith) lc

    word : new 0 < 2 ^ node_limit → new 1 < 2 ^ node_limit → word_at next r < 2 ^ node_limit
    word f₀ f₁ = rw next_row (⊎_elim (λ p. rw p f₀) (λ p. rw p f₁) (place_cases r a))

  -- one pair more, whose new rows are words
  pub one_more : lower j mask (word_at to (row_of a k)) (word_at to (row_of a k + a)) < 2 ^ node_limit
      → upper j mask (word_at to (row_of a k)) (word_at to (row_of a k + a)) < 2 ^ node_limit → Partly a j (k + 1) from (after_pair a j mask to k)
  unfolding low high new next
  one_more f₀ f₁ = record {
    long = simp length-set was.long;
    fits = λ r lr l.
        ⊎_elim (λ lt. rw (next-other r (λ e. omega arith)) (was.fits r lr lt))
        (λ ge. word r 0 lr (omega arith) (omega arith) f₀ f₁)
        (by_lt (pair_of a r) k);
    done = λ r c lr lc l.
        ⊎_elim (λ lt. ap (λ (w : ℕ). has w c) (next-other r (λ e. omega arith)) ∙ was.done r c lr lc lt)
        (λ ge. turned r c lr lc (omega arith))
        (by_lt (pair_of a r) k);
    left = λ r lr l. next-other r (λ e. omega arith) ∙ was.left r lr (omega arith);
  }

-- after the last pair every row is done
pub ended : (a j : ℕ) (from to : List ℕ) → 0 < a → Within a → Partly a j unit_pairs from to → Exchanged a j from to
ended a j from to some within p = record {
  long = p.long;
  fits = λ r lr. p.fits r lr (pair_lt a some within r lr);
  at = λ r c lr lc. p.done r c lr lc (pair_lt a some within r lr);
}
