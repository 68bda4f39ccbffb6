-- Atoms and numbers as values: where one stands, the text goes on behind it, and where none stands, it is refused. Assumes nothing.
use Rattle.std.proofs.Math.Path.{◌≡◌, refl}
use Rattle.std.proofs.Common.{sym, ap, ◌∙◌, le_refl, add-one, arith, drop-cons, drop-drop}
use Rattle.std.specs.Prelude.{Ok, Err, Bool, ◌&&◌, ℕ, suc, ◌+◌, ◌-◌, ◌≤◌, ◌<◌, ltb, length, drop, take, get_or}
use Rattle.std.proofs.Math.Bool.{true, false, not, cond}
use mathlib.Core.List.{List, [], ◌∷◌, ◌++◌}
use borrow.Author.Tests.{lt-ltb, ltb-true, ltb-false, ne_eqb}
use Rattle.std.proofs.Math.Dec.{eqb}
use Rattle.tokens.specs.Bytes.{has, white, small, digit, quote, name_byte}
use Rattle.tokens.specs.Runs.{run_of}
use Rattle.tokens.specs.Reserved.{is_reserved}
use Rattle.tokens.specs.Within.{run_none, run-within, run-stops}
use Rattle.tokens.specs.Tokens.{behind, atom_from, plain_to, plain_at, quoted_to, quoted_at, token_at}
use Rattle.tokens.specs.declared.Class.TheVariants.{Name, Digit, Quoted}
use Rattle.tokens.specs.declared.Token.{Token}
use Rattle.grammar.specs.File.{Here, open_list, open_tuple, ascii, Bracket, value, after, word, other, digits, goes, dead, spaced, begins, step, refused, rest}
use Rattle.grammar.specs.Steps.{from, from_step, from-dead, from_end, from-run, letters-run}
use Rattle.values.specs.Skipping.{resumed, IsBeyond, skip_of}

module _ (h : Here) (due : List Bracket) where
  -- ---- a plain atom

  -- a letter of it is read
  adds-letter : (w : List ℕ) (b : ℕ) → name_byte b ≡ true → step h due (word w) b ≡ goes h due (word (w ++ (b ∷ [])))
  unfolding step
  adds-letter w b e = rw e

  -- behind its letters it has ended, unless it is a reserved word
  word-ends : (w : List ℕ) (p : ℕ) (s : List ℕ) → run_of Name s ≡ 0 → rest h due (word w) p s ≡ cond (is_reserved w) (refused p) (rest h due after p s)
  unfolding rest run_of step
  word-ends w p [] z = go (is_reserved w)
    where
      go : (x : Bool) → refused p ≡ cond x (refused p) (refused p)
      go true = refl
      go false = refl
  word-ends w p (b ∷ bs) z = go (name_byte b) refl z (is_reserved w) refl
    where
      go : (x : Bool) → name_byte b ≡ x → cond x (suc (run_of Name bs)) 0 ≡ 0 → (y : Bool) → is_reserved w ≡ y
          → rest h due (word w) p (b ∷ bs) ≡ cond y (refused p) (rest h due after p (b ∷ bs))
      go true e l y f = absurd (omega arith)
      go false e l true f = rw (e, f)
      go false e l false f = rw (e, f)

  -- a plain atom of which w is read
  from-word : (t w : List ℕ) (at : ℕ)
      → from h due (word w) t at ≡ cond (is_reserved (w ++ take (run_of Name (drop at t)) (drop at t))) (refused (behind Name t at)) (from h due after t (behind Name t at))
  from-word t w at =
      letters-run Name h due word adds-letter w at (drop at t)
      ∙ word-ends (w ++ take (run_of Name (drop at t)) (drop at t)) (behind Name t at) (drop (run_of Name (drop at t)) (drop at t)) (run_none Name (drop at t))
      ∙ rw (drop-drop (run_of Name (drop at t)) at t)

  -- the letters are the part of the text that the atom is
  letters : (t : List ℕ) (at : ℕ) → at < length t → (n : ℕ) → (get_or t at 0 ∷ []) ++ take n (drop (at + 1) t) ≡ take (at + 1 + n - at) (drop at t)
  letters t at l n = let k : at + 1 + n - at ≡ suc n = omega arith in rw (k, drop-cons t at 0, add-one)

  -- behind its first letter
  plain-goes : (t : List ℕ) (at : ℕ) → at < length t → from h due (word (get_or t at 0 ∷ [])) t (at + 1) ≡ resumed h due t (skip_of (plain_at t at))
  unfolding plain_at plain_to
  plain-goes t at l =
      from-word t (get_or t at 0 ∷ []) (at + 1)
      ∙ rw (letters t at l (run_of Name (drop (at + 1) t))) (pick (is_reserved (take (behind Name t (at + 1) - at) (drop at t))))
    where
      pick : (x : Bool) → cond x (refused (behind Name t (at + 1))) (from h due after t (behind Name t (at + 1)))
          ≡ resumed h due t (skip_of (cond x (Err (behind Name t (at + 1))) (Ok (Token.Atom (atom_from at (behind Name t (at + 1)) (behind Name t (at + 1)))))))
      pick true = refl
      pick false = refl

  -- ---- a number

  -- a digit of it is read
  stay-digit : (b : ℕ) → digit b ≡ true → step h due digits b ≡ goes h due digits
  unfolding step
  stay-digit b e = rw e

  -- behind its digits it has ended
  digits-end : (p : ℕ) (s : List ℕ) → run_of Digit s ≡ 0 → rest h due digits p s ≡ rest h due after p s
  unfolding rest run_of step
  digits-end p [] z = refl
  digits-end p (b ∷ bs) z = go (digit b) refl z
    where
      go : (x : Bool) → digit b ≡ x → cond x (suc (run_of Digit bs)) 0 ≡ 0 → rest h due digits p (b ∷ bs) ≡ rest h due after p (b ∷ bs)
      go true e l = absurd (omega arith)
      go false e l = rw e

  -- a number goes on to the end of its digits
  from-digits : (t : List ℕ) (at : ℕ) → from h due digits t at ≡ from h due after t (behind Digit t at)
  from-digits t at =
      from-run Digit h due digits stay-digit t at
      ∙ digits-end (behind Digit t at) (drop (behind Digit t at) t) (ap (run_of Digit) (sym (drop-drop (run_of Digit (drop at t)) at t)) ∙ run_none Digit (drop at t))

  -- ---- a quoted atom

  -- a byte of its name is read
  stay-quoted : (b : ℕ) → has Quoted b ≡ true → step h due other b ≡ goes h due other
  unfolding step
  stay-quoted b e = go (eqb b quote) (eqb b 92) e
    where
      go : (x y : Bool) → (not x && not y) ≡ true → cond x (goes h due after) (cond y dead (goes h due other)) ≡ goes h due other
      go true y e = absurd (let z : ◌≡◌ {A = ℕ} 0 1 = cc in omega arith)
      go false true e = absurd (let z : ◌≡◌ {A = ℕ} 0 1 = cc in omega arith)
      go false false e = refl

  -- the name is read up to e, where a quote ends it, and nothing else can stand
  quoted-ends : (t : List ℕ) (at e : ℕ) → (e < length t → has Quoted (get_or t e 0) ≡ false) → from h due other t e ≡ resumed h due t (skip_of (quoted_to t at e))
  unfolding quoted_to step
  quoted-ends t at e stops = go (ltb e (length t)) refl
    where
      closing : eqb (get_or t e 0) quote ≡ true → step h due other (get_or t e 0) ≡ goes h due after
      closing p = rw p

      escape : eqb (get_or t e 0) quote ≡ false → eqb (get_or t e 0) 92 ≡ true → step h due other (get_or t e 0) ≡ dead
      escape p q = rw (p, q)

      ends : e < length t → (x y : Bool) → eqb (get_or t e 0) quote ≡ x → eqb (get_or t e 0) 92 ≡ y → (not x && not y) ≡ false
          → from h due other t e ≡ resumed h due t (skip_of (cond x (Ok (Token.Atom (atom_from at e (e + 1)))) (Err e)))
      ends l true y p q n = from_step t h due other e h due after l (closing p)
      ends l false true p q n = from-dead t h due other e l (escape p q)
      ends l false false p q n = absurd (let z : ◌≡◌ {A = ℕ} 0 1 = cc in omega arith)

      go : (x : Bool) → ltb e (length t) ≡ x
          → from h due other t e ≡ resumed h due t (skip_of (cond x (cond (eqb (get_or t e 0) quote) (Ok (Token.Atom (atom_from at e (e + 1)))) (Err e)) (Err e)))
      go true l = ends (ltb-true e (length t) l) (eqb (get_or t e 0) quote) (eqb (get_or t e 0) 92) refl refl (stops (ltb-true e (length t) l))
      go false l = from_end t h due other e (ltb-false e (length t) l)

  -- behind its opening quote
  quoted-goes : (t : List ℕ) (at : ℕ) → from h due other t at ≡ resumed h due t (skip_of (quoted_at t at))
  unfolding quoted_at
  quoted-goes t at = from-run Quoted h due other stay-quoted t at ∙ quoted-ends t at (behind Quoted t at) (run-stops Quoted t at)

  -- ---- whichever stands there

  -- where no bracket and no white space stands, the token decides
  pub plain-goes_on : (t : List ℕ) (at : ℕ) → at < length t → white (get_or t at 0) ≡ false → (get_or t at 0 ≡ ascii open_list → ⊥) → (get_or t at 0 ≡ ascii open_tuple → ⊥)
      → from h due value t at ≡ resumed h due t (skip_of (token_at t at))
  unfolding token_at step spaced begins
  plain-goes_on t at l dark a b = rw (lt-ltb at (length t) l) (by_byte (small (get_or t at 0)) (eqb (get_or t at 0) quote) (digit (get_or t at 0)) refl refl refl)
    where
      move : (x y z : Bool) → small (get_or t at 0) ≡ x → eqb (get_or t at 0) quote ≡ y → digit (get_or t at 0) ≡ z
          → step h due value (get_or t at 0) ≡ cond x (goes h due (word (get_or t at 0 ∷ []))) (cond y (goes h due other) (cond z (goes h due digits) dead))
      move x y z p q r = rw (dark, p, q, r, ne_eqb (get_or t at 0) (ascii open_list) a, ne_eqb (get_or t at 0) (ascii open_tuple) b)

      by_byte : (x y z : Bool) → small (get_or t at 0) ≡ x → eqb (get_or t at 0) quote ≡ y → digit (get_or t at 0) ≡ z
          → from h due value t at ≡ resumed h due t (skip_of (cond x (plain_at t at) (cond y (quoted_at t (at + 1)) (cond z (Ok (Token.Number (behind Digit t (at + 1)))) (Err at)))))
      by_byte true y z p q r = from_step t h due value at h due (word (get_or t at 0 ∷ [])) l (move true y z p q r) ∙ plain-goes t at l
      by_byte false true z p q r = from_step t h due value at h due other l (move false true z p q r) ∙ quoted-goes t (at + 1)
      by_byte false false true p q r = from_step t h due value at h due digits l (move false false true p q r) ∙ from-digits t (at + 1)
      by_byte false false false p q r = from-dead t h due value at l (move false false false p q r)

-- what is reached stands further on, within the text
pub plain-beyond : (t : List ℕ) (at : ℕ) → at < length t → IsBeyond at t (skip_of (token_at t at))
unfolding token_at plain_at plain_to quoted_at quoted_to
plain-beyond t at l =
    rw (lt-ltb at (length t) l)
    (go (small (get_or t at 0)) (eqb (get_or t at 0) quote) (digit (get_or t at 0)) (is_reserved (take (behind Name t (at + 1) - at) (drop at t)))
    (ltb (behind Quoted t (at + 1)) (length t)) refl (eqb (get_or t (behind Quoted t (at + 1)) 0) quote)
    (run-within Name t (at + 1) (omega arith)) (run-within Quoted t (at + 1) (omega arith)) (run-within Digit t (at + 1) (omega arith)))
  where
    go : (x y z u v : Bool) → ltb (behind Quoted t (at + 1)) (length t) ≡ v → (w : Bool)
        → behind Name t (at + 1) ≤ length t → behind Quoted t (at + 1) ≤ length t → behind Digit t (at + 1) ≤ length t
        → IsBeyond at t (skip_of (cond x (cond u (Err (behind Name t (at + 1))) (Ok (Token.Atom (atom_from at (behind Name t (at + 1)) (behind Name t (at + 1))))))
        (cond y (cond v (cond w (Ok (Token.Atom (atom_from (at + 1) (behind Quoted t (at + 1)) (behind Quoted t (at + 1) + 1)))) (Err (behind Quoted t (at + 1)))) (Err (behind Quoted t (at + 1))))
        (cond z (Ok (Token.Number (behind Digit t (at + 1)))) (Err at)))))
    go true y z true v e w a b d = (omega arith, a)
    go true y z false v e w a b d = (omega arith, a)
    go false true z u true e true a b d = (omega arith, omega (arith, ltb-true (behind Quoted t (at + 1)) (length t) e))
    go false true z u true e false a b d = (omega arith, b)
    go false true z u false e w a b d = (omega arith, b)
    go false false true u v e w a b d = (omega arith, d)
    go false false false u v e w a b d = (le_refl at, omega arith)
