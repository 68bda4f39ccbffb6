-- Signs and atoms: what is read at a place is what the machine of `grammar` reads from there. Assumes nothing.
use Rattle.std.proofs.Math.Path.{◌≡◌, refl}
use Rattle.std.proofs.Common.{◌∙◌, add-zero, add-one, drop-drop}
use Rattle.std.specs.Prelude.{Result, Ok, Err, Bool, ◌&&◌, ℕ, suc, ◌+◌, ◌-◌, ◌<◌, length, drop, take, get_or}
use Rattle.std.proofs.Math.Bool.{true, false, not, cond}
use mathlib.Core.List.{List, [], ◌∷◌, ◌++◌}
use native.Mathlib.Omega.{arith}
use borrow.Author.Tests.{ltb-true, ltb-false, eqb-true}
use Rattle.std.proofs.Math.Dec.{eqb, ltb}
use Rattle.std.proofs.Math.Seq.{drop-cons}
use Rattle.tokens.specs.Bytes.{quote, white, small, digit, plain_byte}
use Rattle.tokens.specs.Runs.{run_of}
use Rattle.tokens.specs.Reserved.{is_reserved}
use Rattle.tokens.specs.Tokens.{behind, plain_to, plain_at, quoted_to, quoted_at, token_at, atom_from}
use Rattle.tokens.specs.Within.{run_none, run-stops}
use Rattle.tokens.specs.declared.Class.TheVariants.{White, Name, Digit, Quoted}
use Rattle.tokens.specs.declared.Atom.{Atom}
use Rattle.tokens.specs.declared.Token.{Token}
use Rattle.grammar.specs.File.{Here, Sign, ascii, Use, Phase, sign, atom, plain, quoted, Move, goes, dead, spaced, reads, named, step, Outcome, refused, ends, onward, rest}
use Rattle.grammar.specs.Steps.{from, from-dead, from_end, from-run, led, from-plain, from-quoted, quote-ends}
use Rattle.walk.specs.Walk.{part, dark, sign_from, sign_at, then_sign, atom_of, atom_at}

-- ---- the first byte behind white space decides

-- the rest of a text where the byte at a place makes this move
abbrev pub moved : List ℕ → ℕ → Move → Outcome
moved t i m = onward i (λ g d f. from g d f t (i + 1)) (λ gs. ends gs (i + 1) (drop (i + 1) t)) m

-- behind white space there is none
pub dark-again : (t : List ℕ) (at : ℕ) → dark t (dark t at) ≡ dark t at
dark-again t at = rw (← drop-drop (run_of White (drop at t)) at t, run_none White (drop at t), add-zero)

module _ (h : Here) (ph : Phase) (m : ℕ → Move) (spaces : (b : ℕ) → step h [] ph b ≡ spaced h [] ph b (m b)) where
  stays : (b : ℕ) → white b ≡ true → step h [] ph b ≡ goes h [] ph
  unfolding spaced
  stays b e = spaces b ∙ rw e

  moves : (b : ℕ) → white b ≡ false → step h [] ph b ≡ m b
  unfolding spaced
  moves b e = spaces b ∙ rw e

  pub behind-white : (t : List ℕ) (at : ℕ) → from h [] ph t at ≡ cond (ltb (dark t at) (length t)) (moved t (dark t at) (m (get_or t (dark t at) 0))) (refused (dark t at))
  unfolding rest
  behind-white t at = from-run White h [] ph stays t at ∙ go (ltb (dark t at) (length t)) refl
    where
      go : (x : Bool) → ltb (dark t at) (length t) ≡ x → from h [] ph t (dark t at) ≡ cond x (moved t (dark t at) (m (get_or t (dark t at) 0))) (refused (dark t at))
      go true e =
          let l = ltb-true (dark t at) (length t) e in
          rw (add-one (dark t at), drop-cons t (dark t at) 0 l, moves (get_or t (dark t at) 0) (run-stops White t at l))
      go false e = from_end t h [] ph (dark t at) (ltb-false (dark t at) (length t) e)

-- ---- a sign

-- the rest of a text behind what was read, or its refusal
abbrev pub passed : Here → Phase → List ℕ → Result ℕ ℕ → Outcome
passed h ph t (Ok n) = from h [] ph t n
passed h ph t (Err p) = refused p

sign-moves : (t : List ℕ) (i : ℕ) (s : Sign) (h : Here) (ph : Phase) → cond (ltb i (length t)) (moved t i (cond (eqb (get_or t i 0) (ascii s)) (goes h [] ph) dead)) (refused i) ≡ passed h ph t (sign_from t i (ascii s))
unfolding sign_from
sign-moves t i s h ph = go (ltb i (length t)) (eqb (get_or t i 0) (ascii s))
  where
    go : (x y : Bool) → cond x (moved t i (cond y (goes h [] ph) dead)) (refused i) ≡ passed h ph t (cond x (cond y (Ok (i + 1)) (Err i)) (Err i))
    go true true = refl
    go true false = refl
    go false y = refl

pub sign_read : (t : List ℕ) (at : ℕ) (s : Sign) (h : Here) (ph : Phase) → from h [] (sign s ph) t at ≡ passed h ph t (sign_at t at (ascii s))
unfolding step reads sign_at
sign_read t at s h ph = behind-white h (sign s ph) (λ b. cond (eqb b (ascii s)) (goes h [] ph) dead) (λ b. refl) t at ∙ sign-moves t (dark t at) s h ph

-- and behind what was read before it
pub then_sign-read : (t : List ℕ) (r : Result ℕ ℕ) (s : Sign) (h : Here) (ph : Phase) → passed h (sign s ph) t r ≡ passed h ph t (then_sign t r (ascii s))
then_sign-read t (Ok n) s h ph = sign_read t n s h ph
then_sign-read t (Err p) s h ph = refl

-- ---- an atom

-- the rest of a text behind an atom, which leads on by its name, or its refusal
abbrev pub atom_led : Here → Use → List ℕ → Result Atom ℕ → Outcome
atom_led h u t (Ok a) = led (named h u (part t a.from a.to)) a.to a.past (drop a.past t)
atom_led h u t (Err p) = refused p

module _ (h : Here) (u : Use) (t : List ℕ) (i : ℕ) where
  -- its letters are the first one and the run behind it
  letters : i < length t → (get_or t i 0 ∷ []) ++ take (run_of Name (drop (i + 1) t)) (drop (i + 1) t) ≡ part t i (behind Name t (i + 1))
  letters l =
      let n : behind Name t (i + 1) - i ≡ suc (run_of Name (drop (i + 1) t)) = omega arith in
      rw (n, drop-cons t i 0 l, add-one i)

  plain-read : i < length t → from h [] (plain u (get_or t i 0 ∷ [])) t (i + 1) ≡ atom_led h u t (atom_of i (plain_at t i))
  unfolding plain_at plain_to
  plain-read l = from-plain t h u (get_or t i 0 ∷ []) (i + 1) ∙ rw (letters l) (go (is_reserved (part t i (behind Name t (i + 1)))))
    where
      go : (x : Bool) → let e = behind Name t (i + 1) in
          cond x (refused e) (led (named h u (part t i e)) e e (drop e t)) ≡ atom_led h u t (atom_of i (cond x (Err e) (Ok (Token.Atom (atom_from i e e)))))
      go true = refl
      go false = refl

  -- what ends the run of a quoted atom is its quote, or no byte of an atom
  other-end : (e : ℕ) (w : List ℕ) → e < length t → plain_byte (get_or t e 0) ≡ false → eqb (get_or t e 0) quote ≡ false → from h [] (quoted u w) t e ≡ refused e
  unfolding step
  other-end e w l p q = from-dead t h [] (quoted u w) e l (rw q (go (eqb (get_or t e 0) quote) (eqb (get_or t e 0) 92) q p))
    where
      go : (x y : Bool) → x ≡ false → (not x && not y) ≡ false → cond y dead (goes h [] (quoted u (w ++ (get_or t e 0 ∷ [])))) ≡ dead
      go x true f g = refl
      go true false f g = absurd (let z : ◌≡◌ {A = ℕ} 0 1 = cc in omega arith)
      go false false f g = absurd (let z : ◌≡◌ {A = ℕ} 0 1 = cc in omega arith)

  quoted-read : from h [] (quoted u []) t (i + 1) ≡ atom_led h u t (atom_of i (quoted_at t (i + 1)))
  unfolding quoted_at quoted_to
  quoted-read =
      from-quoted t h u [] (i + 1) ∙ go (behind Quoted t (i + 1)) refl (ltb (behind Quoted t (i + 1)) (length t)) refl (eqb (get_or t (behind Quoted t (i + 1)) 0) quote) refl
    where
      go : (e : ℕ) → e ≡ behind Quoted t (i + 1) → (x : Bool) → ltb e (length t) ≡ x → (y : Bool) → eqb (get_or t e 0) quote ≡ y
          → from h [] (quoted u (take (run_of Quoted (drop (i + 1) t)) (drop (i + 1) t))) t e
          ≡ atom_led h u t (atom_of i (cond x (cond y (Ok (Token.Atom (atom_from (i + 1) e (e + 1)))) (Err e)) (Err e)))
      go e p true f true g =
          let n : e - (i + 1) ≡ run_of Quoted (drop (i + 1) t) = omega arith in
          rw n (quote-ends t h u (take (run_of Quoted (drop (i + 1) t)) (drop (i + 1) t)) e (ltb-true e (length t) f) (eqb-true _ _ g))
      go e p true f false g =
          let l = ltb-true e (length t) f in
          other-end e (take (run_of Quoted (drop (i + 1) t)) (drop (i + 1) t)) l (rw p (run-stops Quoted t (i + 1) (rw (← p) l))) g
      go e p false f y g = from_end t h [] (quoted u (take (run_of Quoted (drop (i + 1) t)) (drop (i + 1) t))) e (ltb-false e (length t) f)

  atom-moves : cond (ltb i (length t)) (moved t i (cond (small (get_or t i 0)) (goes h [] (plain u (get_or t i 0 ∷ []))) (cond (eqb (get_or t i 0) quote) (goes h [] (quoted u [])) dead))) (refused i)
      ≡ atom_led h u t (atom_of i (token_at t i))
  unfolding token_at
  atom-moves = go (ltb i (length t)) refl (small (get_or t i 0)) (eqb (get_or t i 0) quote) (digit (get_or t i 0))
    where
      go : (w : Bool) → ltb i (length t) ≡ w → (x y z : Bool)
          → cond w (moved t i (cond x (goes h [] (plain u (get_or t i 0 ∷ []))) (cond y (goes h [] (quoted u [])) dead))) (refused i)
          ≡ atom_led h u t (atom_of i (cond w (cond x (plain_at t i) (cond y (quoted_at t (i + 1)) (cond z (Ok (Token.Number (behind Digit t (i + 1)))) (Err i)))) (Err i)))
      go true e true y z = plain-read (ltb-true i (length t) e)
      go true e false true z = quoted-read
      go true e false false true = refl
      go true e false false false = refl
      go false e x y z = refl

pub atom-read : (t : List ℕ) (at : ℕ) (h : Here) (u : Use) → from h [] (atom u) t at ≡ atom_led h u t (atom_at t at)
unfolding step atom_at
atom-read t at h u =
    behind-white h (atom u) (λ b. cond (small b) (goes h [] (plain u (b ∷ []))) (cond (eqb b quote) (goes h [] (quoted u [])) dead)) (λ b. refl) t at
    ∙ atom-moves h u t (dark t at)
