-- Laws of the outcome: one byte, a run of bytes, whole atoms with where they lead, and the end of a pair. Assumes nothing.
use Rattle.std.specs.Prelude.{◌≡◌, Bool, not, ◌&&◌, eqb, length, drop, get_or}
use Rattle.std.proofs.Math.Path.{refl}
use Rattle.std.proofs.Common.{ap, ◌∙◌, add-one, drop_of_length-le, drop-cons, drop-drop}
use Rattle.std.proofs.Math.Bool.{true, false, cond}
use mathlib.Core.List.{List, [], ◌∷◌, ◌++◌, append_assoc, append-nil}
use Prim.Native.Nat.{ℕ, suc, ◌+◌, ◌≤◌, ◌<◌}
use Rattle.std.proofs.Math.Nat.{add-zero}
use native.Mathlib.Omega.{arith}
use Rattle.std.proofs.Math.ListN.{take}
use Rattle.tokens.specs.Bytes.{has, white, name_byte, quote}
use Rattle.tokens.specs.Runs.{run_of}
use Rattle.tokens.specs.Reserved.{is_reserved}
use Rattle.tokens.specs.Within.{run_none}
use Rattle.tokens.specs.declared.Class.{Class}
use Rattle.tokens.specs.declared.Class.TheVariants.{Name, Quoted}
use Rattle.grammar.specs.File.{Here, close_tuple, ascii, Use, Bracket, Phase, sign, plain, quoted, next_pair, next_node, after, Lead, to_sign, to_node, nowhere, goes, dead, spaced, reads, named, behind_quote, closes, separates, follows, step, Outcome, refused, ends, onward, rest}

-- the outcome of a text from a place on
abbrev pub from : Here → List Bracket → Phase → List ℕ → ℕ → Outcome
from h due ph t at = rest h due ph at (drop at t)

-- ---- one byte

-- a byte leads on
pub from_step : (t : List ℕ) (h : Here) (due : List Bracket) (ph : Phase) (at : ℕ) (g : Here) (d : List Bracket) (f : Phase) → at < length t → step h due ph (get_or t at 0) ≡ goes g d f
    → from h due ph t at ≡ from g d f t (at + 1)
unfolding rest
from_step t h due ph at g d f l e = rw (drop-cons t at 0, e, add-one)

-- a byte that no file has there
pub from-dead : (t : List ℕ) (h : Here) (due : List Bracket) (ph : Phase) (at : ℕ) → at < length t → step h due ph (get_or t at 0) ≡ dead → from h due ph t at ≡ refused at
unfolding rest
from-dead t h due ph at l e = rw (drop-cons t at 0, e)

-- two phases that do the same with the next byte
pub from-like : (t : List ℕ) (h : Here) (due : List Bracket) (ph f : Phase) (at : ℕ) → at < length t → step h due ph (get_or t at 0) ≡ step h due f (get_or t at 0) → from h due ph t at ≡ from h due f t at
unfolding rest
from-like t h due ph f at l e = rw (drop-cons t at 0, e)

-- at the end of the text every phase is refused
pub from_end : (t : List ℕ) (h : Here) (due : List Bracket) (ph : Phase) (at : ℕ) → length t ≤ at → from h due ph t at ≡ refused at
unfolding rest
from_end t h due ph at l = rw (drop_of_length-le t l)

-- ---- a run of bytes

-- a run whose bytes keep the phase
module _ (k : Class) (h : Here) (due : List Bracket) (ph : Phase) (stay : (b : ℕ) → has k b ≡ true → step h due ph b ≡ goes h due ph) where
  -- it is passed
  rest-run : (p : ℕ) (s : List ℕ) → rest h due ph p s ≡ rest h due ph (p + run_of k s) (drop (run_of k s) s)
  unfolding rest run_of
  rest-run p [] = rw add-zero
  rest-run p (b ∷ bs) = go (has k b) refl (rest-run (suc p) bs)
    where
      go : (x : Bool) → has k b ≡ x → rest h due ph (suc p) bs ≡ rest h due ph (suc p + run_of k bs) (drop (run_of k bs) bs)
          → rest h due ph p (b ∷ bs) ≡ rest h due ph (p + cond x (suc (run_of k bs)) 0) (drop (cond x (suc (run_of k bs)) 0) (b ∷ bs))
      go true e ih = let n : p + suc (run_of k bs) ≡ suc p + run_of k bs = omega arith in rw (stay b e, n) ih
      go false e ih = rw add-zero

  -- the same from a place on
  pub from-run : (t : List ℕ) (at : ℕ) → from h due ph t at ≡ from h due ph t (at + run_of k (drop at t))
  from-run t at = rest-run at (drop at t) ∙ ap (rest h due ph (at + run_of k (drop at t))) (drop-drop (run_of k (drop at t)) at t)

-- a run whose bytes are kept in the phase, as the letters of an atom
module _ (k : Class) (h : Here) (due : List Bracket) (at-letters : List ℕ → Phase) (adds : (w : List ℕ) (b : ℕ) → has k b ≡ true → step h due (at-letters w) b ≡ goes h due (at-letters (w ++ (b ∷ [])))) where
  -- its bytes are added
  pub letters-run : (w : List ℕ) (p : ℕ) (s : List ℕ) → rest h due (at-letters w) p s ≡ rest h due (at-letters (w ++ take (run_of k s) s)) (p + run_of k s) (drop (run_of k s) s)
  unfolding rest run_of
  letters-run w p [] = rw add-zero
  letters-run w p (b ∷ bs) = go (has k b) refl (letters-run (w ++ (b ∷ [])) (suc p) bs)
    where
      go : (x : Bool) → has k b ≡ x
          → rest h due (at-letters (w ++ (b ∷ []))) (suc p) bs ≡ rest h due (at-letters ((w ++ (b ∷ [])) ++ take (run_of k bs) bs)) (suc p + run_of k bs) (drop (run_of k bs) bs)
          → rest h due (at-letters w) p (b ∷ bs)
          ≡ rest h due (at-letters (w ++ take (cond x (suc (run_of k bs)) 0) (b ∷ bs))) (p + cond x (suc (run_of k bs)) 0) (drop (cond x (suc (run_of k bs)) 0) (b ∷ bs))
      go true e ih = let n : p + suc (run_of k bs) ≡ suc p + run_of k bs = omega arith in rw (adds w b e, n) (ih ∙ rw append_assoc)
      go false e ih = rw (add-zero, append-nil)

-- ---- where an ended atom leads

-- the outcome of the rest behind an atom; nowhere is refused at the place of the byte that ended the atom
abbrev pub led : Lead → ℕ → ℕ → List ℕ → Outcome
led (to_sign h c ph) e p s = rest h [] (sign c ph) p s
led (to_node h n ns) e p s = rest h [] (next_node n ns) p s
led nowhere e p s = refused e

-- its letters are read
adds-plain : (h : Here) (u : Use) (w : List ℕ) (b : ℕ) → name_byte b ≡ true → step h [] (plain u w) b ≡ goes h [] (plain u (w ++ (b ∷ [])))
unfolding step
adds-plain h u w b e = rw e

-- behind its letters a plain atom has ended, unless it is a reserved word
plain-ends : (h : Here) (u : Use) (w : List ℕ) (p : ℕ) (s : List ℕ) → run_of Name s ≡ 0 → rest h [] (plain u w) p s ≡ cond (is_reserved w) (refused p) (led (named h u w) p p s)
unfolding rest run_of step
plain-ends h u w p [] z = go (is_reserved w) (named h u w)
  where
    go : (x : Bool) (l : Lead) → refused p ≡ cond x (refused p) (led l p p [])
    go true l = refl
    go false (to_sign g c ph) = refl
    go false (to_node g n ns) = refl
    go false nowhere = refl
plain-ends h u w p (b ∷ bs) z = go (name_byte b) refl z (is_reserved w) refl (named h u w) refl
  where
    go : (x : Bool) → name_byte b ≡ x → cond x (suc (run_of Name bs)) 0 ≡ 0 → (y : Bool) → is_reserved w ≡ y → (l : Lead) → named h u w ≡ l
        → rest h [] (plain u w) p (b ∷ bs) ≡ cond y (refused p) (led l p p (b ∷ bs))
    go true e z y f l g = absurd (omega arith)
    go false e z true f l g = rw (e, f)
    go false e z false f (to_sign h' c ph) g = rw (e, f, g)
    go false e z false f (to_node h' n ns) g = rw (e, f, g)
    go false e z false f nowhere g = rw (e, f, g)

-- a plain atom of which w is read: its name is w and the run of letters behind it
pub from-plain : (t : List ℕ) (h : Here) (u : Use) (w : List ℕ) (at : ℕ)
    → from h [] (plain u w) t at
    ≡ cond (is_reserved (w ++ take (run_of Name (drop at t)) (drop at t))) (refused (at + run_of Name (drop at t)))
    (led (named h u (w ++ take (run_of Name (drop at t)) (drop at t))) (at + run_of Name (drop at t)) (at + run_of Name (drop at t)) (drop (at + run_of Name (drop at t)) t))
from-plain t h u w at =
    letters-run Name h [] (plain u) (adds-plain h u) w at (drop at t)
    ∙ plain-ends h u (w ++ take (run_of Name (drop at t)) (drop at t)) (at + run_of Name (drop at t)) (drop (run_of Name (drop at t)) (drop at t)) (run_none Name (drop at t))
    ∙ rw (drop-drop (run_of Name (drop at t)) at t)

-- ---- a quoted atom

-- a byte of its name is read
adds-quoted : (h : Here) (u : Use) (w : List ℕ) (b : ℕ) → has Quoted b ≡ true → step h [] (quoted u w) b ≡ goes h [] (quoted u (w ++ (b ∷ [])))
unfolding step
adds-quoted h u w b e = go (eqb b quote) (eqb b 92) e
  where
    go : (x y : Bool) → (not x && not y) ≡ true → cond x (behind_quote (named h u w)) (cond y dead (goes h [] (quoted u (w ++ (b ∷ []))))) ≡ goes h [] (quoted u (w ++ (b ∷ [])))
    go true y e = absurd (let z : ◌≡◌ {A = ℕ} 0 1 = cc in omega arith)
    go false true e = absurd (let z : ◌≡◌ {A = ℕ} 0 1 = cc in omega arith)
    go false false e = refl

-- the bytes of its name are read, up to what is no such byte
pub from-quoted : (t : List ℕ) (h : Here) (u : Use) (w : List ℕ) (at : ℕ)
    → from h [] (quoted u w) t at ≡ from h [] (quoted u (w ++ take (run_of Quoted (drop at t)) (drop at t))) t (at + run_of Quoted (drop at t))
from-quoted t h u w at = letters-run Quoted h [] (quoted u) (adds-quoted h u) w at (drop at t) ∙ rw (drop-drop (run_of Quoted (drop at t)) at t)

-- a quote ends it, and leads on behind itself
pub quote-ends : (t : List ℕ) (h : Here) (u : Use) (w : List ℕ) (at : ℕ) → at < length t → get_or t at 0 ≡ quote → from h [] (quoted u w) t at ≡ led (named h u w) at (at + 1) (drop (at + 1) t)
unfolding rest step
quote-ends t h u w at l e = rw (drop-cons t at 0, e, add-one) (go (named h u w))
  where
    go : (m : Lead) → onward at (λ g d f. rest g d f (suc at) (drop (suc at) t)) (λ gs. ends gs (suc at) (drop (suc at) t)) (behind_quote m) ≡ led m at (suc at) (drop (suc at) t)
    go (to_sign g c ph) = refl
    go (to_node g n ns) = refl
    go nowhere = refl

-- ---- the end of a skipped pair

-- behind the whole value of a pair, the pair is to end
rest-pair : (h : Here) (p : ℕ) (s : List ℕ) → rest h [] after p s ≡ rest h [] (sign close_tuple next_pair) p s
unfolding rest step follows spaced closes separates reads
rest-pair h p [] = refl
rest-pair h p (b ∷ bs) = go (white b) (rest-pair h (suc p) bs)
  where
    go : (x : Bool) → rest h [] after (suc p) bs ≡ rest h [] (sign close_tuple next_pair) (suc p) bs
        → onward p (λ g d f. rest g d f (suc p) bs) (λ gs. ends gs (suc p) bs) (cond x (goes h [] after) (cond (eqb b (ascii close_tuple)) (goes h [] next_pair) dead))
        ≡ onward p (λ g d f. rest g d f (suc p) bs) (λ gs. ends gs (suc p) bs) (cond x (goes h [] (sign close_tuple next_pair)) (cond (eqb b (ascii close_tuple)) (goes h [] next_pair) dead))
    go true ih = ih
    go false ih = refl

-- the same from a place on
pub from-pair : (h : Here) (t : List ℕ) (at : ℕ) → from h [] after t at ≡ from h [] (sign close_tuple next_pair) t at
from-pair h t at = rest-pair h at (drop at t)
