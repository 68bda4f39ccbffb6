-- Lists and tuples as values: their brackets and commas. Assumes nothing.
use Rattle.std.specs.Prelude.{◌≡◌, refl, Bool, List, ◌∷◌, ℕ, ◌+◌, ◌<◌, eqb, ltb, length, get_or}
use Rattle.std.proofs.Math.Bool.{true, false, cond}
use borrow.Author.Tests.{eq-eqb, ne_eqb, eqb-true, eqb-false}
use Rattle.tokens.specs.Bytes.{white}
use Rattle.tokens.specs.Tokens.{behind}
use Rattle.tokens.specs.declared.Class.TheVariants.{White}
use Rattle.grammar.specs.File.{depth_limit, Here, comma, open_list, open_tuple, ascii, Bracket, list, tuple, closing, value, first, after, goes, dead, spaced, opens, begins, closes, separates, follows, step, refused}
use Rattle.grammar.specs.Steps.{from, from_step, from-dead, from-like, from-run}

-- the sign that opens a bracket
abbrev pub opening_of : Bracket → ℕ
opening_of list = ascii open_list
opening_of tuple = ascii open_tuple

-- ---- white space

-- it keeps the phase before a value
stay-value : (h : Here) (due : List Bracket) (b : ℕ) → white b ≡ true → step h due value b ≡ goes h due value
unfolding step spaced
stay-value h due b e = rw e

-- it keeps the phase behind an opening bracket
stay-first : (h : Here) (due : List Bracket) (b : ℕ) → white b ≡ true → step h due first b ≡ goes h due first
unfolding step spaced
stay-first h due b e = rw e

-- it keeps the phase behind a value
stay-after : (h : Here) (due : List Bracket) (b : ℕ) → white b ≡ true → step h due after b ≡ goes h due after
unfolding step follows spaced
stay-after h due b e = rw e

-- it is passed before a value
pub white-value : (t : List ℕ) (h : Here) (due : List Bracket) (at : ℕ) → from h due value t at ≡ from h due value t (behind White t at)
white-value t h due at = from-run White h due value (stay-value h due) t at

-- it is passed behind an opening bracket
pub white-first : (t : List ℕ) (h : Here) (due : List Bracket) (at : ℕ) → from h due first t at ≡ from h due first t (behind White t at)
white-first t h due at = from-run White h due first (stay-first h due) t at

-- it is passed behind a value
pub white-after : (t : List ℕ) (h : Here) (due : List Bracket) (at : ℕ) → from h due after t at ≡ from h due after t (behind White t at)
white-after t h due at = from-run White h due after (stay-after h due) t at

-- ---- at a byte that is not white space

module _ (t : List ℕ) (i : ℕ) (l : i < length t) (dark : white (get_or t i 0) ≡ false) (h : Here) where
  -- an opening bracket opens what it belongs to
  begins-with : (k : Bracket) (due : List Bracket) → get_or t i 0 ≡ opening_of k → step h due value (get_or t i 0) ≡ opens h k due
  unfolding step spaced begins
  begins-with list due e = rw e
  begins-with tuple due e = rw e

  -- what stands in the bracket comes next, within the limit
  pub opening : (k : Bracket) (due : List Bracket) → get_or t i 0 ≡ opening_of k → from h due value t i ≡ cond (ltb (length due) depth_limit) (from h (k ∷ due) first t (i + 1)) (refused i)
  unfolding opens
  opening k due e = go (ltb (length due) depth_limit) (begins-with k due e)
    where
      go : (x : Bool) → step h due value (get_or t i 0) ≡ cond x (goes h (k ∷ due) first) dead → from h due value t i ≡ cond x (from h (k ∷ due) first t (i + 1)) (refused i)
      go true s = from_step t h due value i h (k ∷ due) first l s
      go false s = from-dead t h due value i l s

  -- a closing bracket is no value
  pub no_value : (k : Bracket) (due : List Bracket) → get_or t i 0 ≡ closing k → from h due value t i ≡ refused i
  unfolding step spaced begins
  no_value list due e = from-dead t h due value i l (rw e)
  no_value tuple due e = from-dead t h due value i l (rw e)

  -- a closing bracket ends an empty list or tuple
  closed-first : (k : Bracket) (due : List Bracket) → get_or t i 0 ≡ closing k → from h (k ∷ due) first t i ≡ from h due after t (i + 1)
  unfolding step spaced closes
  closed-first k due e = from_step t h (k ∷ due) first i h due after l (rw (dark, eq-eqb (get_or t i 0) (closing k) e))

  -- a closing bracket ends what holds the value
  pub closed : (k : Bracket) (due : List Bracket) → get_or t i 0 ≡ closing k → from h (k ∷ due) after t i ≡ from h due after t (i + 1)
  unfolding step follows spaced closes
  closed k due e = from_step t h (k ∷ due) after i h due after l (rw (dark, eq-eqb (get_or t i 0) (closing k) e))

  -- behind a comma another value is to come
  pub another : (k : Bracket) (due : List Bracket) → (get_or t i 0 ≡ closing k → ⊥) → get_or t i 0 ≡ ascii comma → from h (k ∷ due) after t i ≡ from h (k ∷ due) value t (i + 1)
  unfolding step follows spaced closes separates
  another k due n e = from_step t h (k ∷ due) after i h (k ∷ due) value l (rw (dark, ne_eqb (get_or t i 0) (closing k) n, eq-eqb (get_or t i 0) (ascii comma) e))

  -- no other byte stands behind a value
  pub no-separator : (k : Bracket) (due : List Bracket) → (get_or t i 0 ≡ closing k → ⊥) → (get_or t i 0 ≡ ascii comma → ⊥) → from h (k ∷ due) after t i ≡ refused i
  unfolding step follows spaced closes separates
  no-separator k due n e = from-dead t h (k ∷ due) after i l (rw (dark, ne_eqb (get_or t i 0) (closing k) n, ne_eqb (get_or t i 0) (ascii comma) e))

  -- where the closing bracket does not stand, a value is to begin
  not-closed : (k : Bracket) (due : List Bracket) → (get_or t i 0 ≡ closing k → ⊥) → from h (k ∷ due) first t i ≡ from h (k ∷ due) value t i
  unfolding step spaced closes
  not-closed k due n = from-like t h (k ∷ due) first value i l (rw (dark, ne_eqb (get_or t i 0) (closing k) n))

  -- behind an opening bracket, its closing one ends what it opened, and anything else is a value
  pub begun-with : (k : Bracket) (due : List Bracket) → from h (k ∷ due) first t i ≡ cond (eqb (get_or t i 0) (closing k)) (from h due after t (i + 1)) (from h (k ∷ due) value t i)
  begun-with k due = go (eqb (get_or t i 0) (closing k)) refl
    where
      go : (x : Bool) → eqb (get_or t i 0) (closing k) ≡ x → from h (k ∷ due) first t i ≡ cond x (from h due after t (i + 1)) (from h (k ∷ due) value t i)
      go true e = closed-first k due (eqb-true (get_or t i 0) (closing k) e)
      go false e = not-closed k due (eqb-false (get_or t i 0) (closing k) e)
