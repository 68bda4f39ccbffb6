-- Laws of `put`: lists one behind the other, and what stands in the run where it fits. Assumes nothing.
use Rattle.std.specs.Prelude.{◌≡◌, refl, Bool, true, false, cond, List, [], ◌∷◌, ◌++◌, ℕ, suc, ◌+◌, ◌-◌, ◌≤◌, ◌<◌, leb, ltb, length, take, drop, set, get_or}
use Rattle.std.proofs.Common.{sym, ap, ◌∙◌, append_assoc, add-zero, add-one, drop-cons, drop_of_length-le, arith, lt-ltb, le-ltb, ltb-true, leb-true, leb-false, length-set, length-append, length-take, length-drop, take-append-drop, take_all, take_at, length-take-le}
use Rattle.std.proofs.lemmas.List.Edits.{sets, sets-eq}
use Rattle.std.proofs.Math.Seq.{set_out}
use Rattle.print.specs.Sheets.{Sheet, sheet, put_one, put}

-- one list behind another is both in one
pub put-append : (p : Sheet) (a b : List ℕ) → put (put p a) b ≡ put p (a ++ b)
unfolding put
put-append p [] b = refl
put-append p (x ∷ a) b = put-append (put_one p x) a b

-- a turn of a loop over bytes
pub put-turn : (p q : Sheet) (s : List ℕ) (i : ℕ) → i < length s → q ≡ put p (get_or s i 0 ∷ []) → put p (drop i s) ≡ put q (drop (i + 1) s)
unfolding put
put-turn p q s i h e = rw (add-one, drop-cons s i 0, e)

-- its end: nothing is left to put
pub put-end : (p : Sheet) (s : List ℕ) (i : ℕ) → length s ≤ i → put p (drop i s) ≡ p
unfolding put
put-end p s i h = rw (drop_of_length-le s h)

-- where the bytes fit, they stand at the place, and all else is as it was
put-sets : (l : List ℕ) (i : ℕ) (bs : List ℕ) → i + length bs ≤ length l → put (sheet l i) bs ≡ sheet (sets l i bs) (i + length bs)
unfolding put put_one sheet
put-sets l i [] h = ap (sheet l) (sym (add-zero i))
put-sets l i (b ∷ bs) h =
    let e : length (set l i b) ≡ length l = length-set l i b in
    let g : i + 1 + length bs ≤ length (set l i b) = omega arith in
    ap (λ (k : ℕ). put (sheet (set l i b) k) bs) (ap (λ (t : Bool). cond t (i + 1) i) (lt-ltb i (length l) (omega arith)))
    ∙ put-sets (set l i b) (i + 1) bs g
    ∙ ap (λ (k : ℕ). sheet (sets (set l i b) k bs) (k + length bs)) (add-one i)
    ∙ ap (sheet (sets (set l i b) (suc i) bs)) (omega arith)

pub put-fits : (l : List ℕ) (i : ℕ) (bs : List ℕ) → i + length bs ≤ length l → put (sheet l i) bs ≡ sheet (take i l ++ bs ++ drop (i + length bs) l) (i + length bs)
put-fits l i bs h = put-sets l i bs h ∙ ap (λ (k : List ℕ). sheet k (i + length bs)) (sets-eq bs l i h)

-- what stands in front of the place then, and the place
pub put_front : (p : Sheet) (a : List ℕ) → p.at + length a ≤ length p.bytes
    → (take (put p a).at (put p a).bytes ≡ take p.at p.bytes ++ a) × ((put p a).at ≡ p.at + length a)
unfolding sheet
put_front p a h =
    let e : put p a ≡ sheet (take p.at p.bytes ++ a ++ drop (p.at + length a) p.bytes) (p.at + length a) = put-fits p.bytes p.at a h in
    let n : length (take p.at p.bytes ++ a) ≡ p.at + length a = omega (arith, length-append (take p.at p.bytes) a, length-take p.at p.bytes) in
    (ap (λ (q : Sheet). take q.at q.bytes) e ∙ take_at (take p.at p.bytes ++ a) (drop (p.at + length a) p.bytes) (p.at + length a) n, ap (λ (q : Sheet). q.at) e)

-- a full run stays as it is
put_full : (l : List ℕ) (i : ℕ) (a : List ℕ) → length l ≤ i → put (sheet l i) a ≡ sheet l i
unfolding put put_one sheet
put_full l i [] h = refl
put_full l i (x ∷ a) h = rw (set_out l i x h, le-ltb i (length l) h) (put_full l i a h)

-- so a run takes as many bytes as it has room for
put-cut : (l : List ℕ) (i : ℕ) (a : List ℕ) → i ≤ length l → put (sheet l i) a ≡ put (sheet l i) (take (length l - i) a)
put-cut l i a h = go (leb (length a) (length l - i)) refl
  where
    go : (t : Bool) → leb (length a) (length l - i) ≡ t → put (sheet l i) a ≡ put (sheet l i) (take (length l - i) a)
    go true e = ap (put (sheet l i)) (sym (take_all (length l - i) a (leb-true _ _ e)))
    go false e =
        let b : List ℕ = take (length l - i) a in
        let n : length b ≡ length l - i = length-take-le (length l - i) a (omega (arith, leb-false (length a) (length l - i) e)) in
        let x : List ℕ = take i l ++ b ++ drop (i + length b) l in
        let f : put (sheet l i) b ≡ sheet x (i + length b) = put-fits l i b (omega arith) in
        let w : length x ≤ i + length b =
        omega (arith, length-append (take i l ++ b) (drop (i + length b) l), length-append (take i l) b, length-take i l, length-drop (i + length b) l) in
        ap (put (sheet l i)) (sym (take-append-drop (length l - i) a)) ∙ sym (put-append (sheet l i) b (drop (length l - i) a))
        ∙ ap (λ (q : Sheet). put q (drop (length l - i) a)) f ∙ put_full x (i + length b) (drop (length l - i) a) w ∙ sym f

-- what stands in front of the place then, the place, and what stood in front of it before
pub record Said (l o : List ℕ) (i p : ℕ) (a : List ℕ) : Type 0 where
  pub front : take p o ≡ take i l ++ take (length l - i) a
  pub place : p ≡ length (take i l ++ take (length l - i) a)
  pub kept : take i o ≡ take i l

pub put-said : (l o : List ℕ) (i p : ℕ) (a : List ℕ) → i ≤ length l → sheet o p ≡ put (sheet l i) a → Said l o i p a
unfolding sheet
put-said l o i p a h e =
    let b : List ℕ = take (length l - i) a in
    let n : i + length b ≤ length l = omega (arith, length-take (length l - i) a) in
    let q : sheet o p ≡ put (sheet l i) b = e ∙ put-cut l i a h in
    let f = put_front (sheet l i) b n in
    let k : length (take i l) ≡ i = length-take-le i l h in
    record {
      front = ap (λ (s : Sheet). take s.at s.bytes) q ∙ f.0;
      place = ap (λ (s : Sheet). s.at) q ∙ f.1 ∙ sym (length-append (take i l) b ∙ ap (λ (m : ℕ). m + length b) k);
      kept = ap (λ (s : Sheet). take i s.bytes) (q ∙ put-fits l i b n) ∙ rw append_assoc (take_at (take i l) (b ++ drop (i + length b) l) i k);
    }

-- the place stays within the run
pub put-within : (p : Sheet) (a : List ℕ) → p.at ≤ length p.bytes → (put p a).at ≤ length (put p a).bytes
unfolding put put_one sheet
put-within p [] h = h
put-within p (x ∷ a) h = put-within (put_one p x) a (one (ltb p.at (length p.bytes)) refl)
  where
    one : (t : Bool) → ltb p.at (length p.bytes) ≡ t → cond t (p.at + 1) p.at ≤ length (set p.bytes p.at x)
    one true e = let l : p.at < length p.bytes = ltb-true _ _ e in omega (arith, length-set p.bytes p.at x)
    one false e = omega (arith, length-set p.bytes p.at x)

pub stays_within : (l : List ℕ) (i : ℕ) (m : List ℕ) (j : ℕ) (a : List ℕ) → i ≤ length l → sheet m j ≡ put (sheet l i) a → j ≤ length m
unfolding sheet
stays_within l i m j a h e = rw (ap (λ (p : Sheet). p.at) e, ap (λ (p : Sheet). p.bytes) e) (put-within (sheet l i) a h)
