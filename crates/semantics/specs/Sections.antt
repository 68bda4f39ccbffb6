-- A run that is sections one after another, each of a known size. With the number of the section and the sizes written out, each place
-- computes. The laws hold of any list of sections. Assumes nothing.
use Rattle.std.specs.Prelude.{◌≡◌, refl, List, [], ◌∷◌, ◌++◌, ℕ, zero, suc, ◌+◌, ◌-◌, ◌<◌, length, get_or, take, drop, set}
use Rattle.std.proofs.Common.{sym, ap, ap₂, ◌∙◌, subst, append_assoc, not-suc-le-zero, zero-add, arith, length-append, length-set, length-drop, take-append-drop, drop_of_length-le, get_or-append-add, drop-drop, get_or-drop, get_or-take, length-take-le, ext_get_or}
use Rattle.std.proofs.Math.ListN.{get_or-append}
use Rattle.std.proofs.lemmas.List.{set-append_left}
use Rattle.std.proofs.Math.Seq.{drop-append-add}
use Rattle.semantics.specs.Table.{cat}
use Rattle.semantics.specs.ThreeParts.{Cut, part, put, inner}

-- where section k begins; past the last one, where the run ends
abbrev pub start : ℕ → List ℕ → ℕ
start zero ns = 0
start (suc k) [] = 0
start (suc k) (n ∷ ns) = n + start k ns

-- the sections have these sizes
abbrev pub Sizes : List ℕ → List (List ℕ) → Type 0
Sizes [] xs = xs ≡ []
Sizes (n ∷ ns) [] = ⊥
Sizes (n ∷ ns) (x ∷ xs) = (length x ≡ n) × Sizes ns xs

-- ---- sections by their number

length-cat : (ns : List ℕ) (xs : List (List ℕ)) → Sizes ns xs → length (cat xs) ≡ start (length ns) ns
length-cat [] xs s = rw s
length-cat (n ∷ ns) [] s = absurd s
length-cat (n ∷ ns) (x ∷ xs) s = omega (arith, length-append x (cat xs), s.0, length-cat ns xs s.1)

-- from the beginning of section k on
from-section : (k : ℕ) (ns : List ℕ) (xs : List (List ℕ)) → Sizes ns xs → k < length ns → drop (start k ns) (cat xs) ≡ cat (drop k xs)
from-section k [] xs s h = absurd (not-suc-le-zero h)
from-section k (n ∷ ns) [] s h = absurd s
from-section zero (n ∷ ns) (x ∷ xs) s h = refl
from-section (suc k) (n ∷ ns) (x ∷ xs) s h = rw (← s.0) (drop-append-add x (cat xs) (start k ns) ∙ from-section k ns xs s.1 (omega arith))

cut : (k : ℕ) (ns : List ℕ) (xs : List (List ℕ)) → Sizes ns xs → k < length ns
    → Cut (start k ns) (get_or ns k 0) (cat xs) (cat (take k xs)) (get_or xs k []) (cat (drop (suc k) xs))
cut k [] xs s h = absurd (not-suc-le-zero h)
cut k (n ∷ ns) [] s h = absurd s
cut zero (n ∷ ns) (x ∷ xs) s h = record { is = refl; starts = refl; long = s.0 }
cut (suc k) (n ∷ ns) (x ∷ xs) s h =
    let c = cut k ns xs s.1 (omega arith) in
    record {
      is = ap (λ (y : List ℕ). x ++ y) c.is ∙ sym (append_assoc x (cat (take k xs)) _);
      starts = omega (arith, length-append x (cat (take k xs)), c.starts, s.0);
      long = c.long;
    }

count : (ns : List ℕ) (xs : List (List ℕ)) → Sizes ns xs → length xs ≡ length ns
count [] xs s = rw s
count (n ∷ ns) [] s = absurd s
count (n ∷ ns) (x ∷ xs) s = ap suc (count ns xs s.1)

cat_set : (k : ℕ) (xs : List (List ℕ)) (r : List ℕ) → k < length xs → cat (take k xs) ++ (r ++ cat (drop (suc k) xs)) ≡ cat (set xs k r)
cat_set k [] r h = absurd (not-suc-le-zero h)
cat_set zero (x ∷ xs) r h = refl
cat_set (suc k) (x ∷ xs) r h = append_assoc x (cat (take k xs)) _ ∙ ap (λ (y : List ℕ). x ++ y) (cat_set k xs r (omega arith))

set_past : (p l : List ℕ) (i v : ℕ) → set (p ++ l) (length p + i) v ≡ p ++ set l i v
set_past [] l i v = rw (zero-add i)
set_past (x ∷ p) l i v = let e : suc (length p) + i ≡ suc (length p + i) = omega arith in rw e (ap (λ (y : List ℕ). x ∷ y) (set_past p l i v))

sizes-set : (k : ℕ) (ns : List ℕ) (xs : List (List ℕ)) (r : List ℕ) → Sizes ns xs → length r ≡ get_or ns k 0 → k < length ns → Sizes ns (set xs k r)
sizes-set k [] xs r s e h = absurd (not-suc-le-zero h)
sizes-set k (n ∷ ns) [] r s e h = absurd s
sizes-set zero (n ∷ ns) (x ∷ xs) r s e h = (e, s.1)
sizes-set (suc k) (n ∷ ns) (x ∷ xs) r s e h = (s.0, sizes-set k ns xs r s.1 e (omega arith))

-- ---- a run t of the sections xs. Each way to change t is a step, and steps are chained

pub record Run (ns : List ℕ) (xs : List (List ℕ)) (t : List ℕ) : Type 0 where
  pub sizes : Sizes ns xs
  pub is : t ≡ cat xs

pub run_length : {ns : List ℕ} {xs : List (List ℕ)} {t : List ℕ} → Run ns xs t → length t ≡ start (length ns) ns
run_length {ns} {xs} u = rw u.is (length-cat ns xs u.sizes)

module _ {ns : List ℕ} {xs : List (List ℕ)} {t : List ℕ} (u : Run ns xs t) (k : ℕ) (h : k < length ns) where
  -- section k as a part of the run
  whole : Cut (start k ns) (get_or ns k 0) t (cat (take k xs)) (get_or xs k []) (cat (drop (suc k) xs))
  whole = let c = cut k ns xs u.sizes h in record { is = u.is ∙ c.is; starts = c.starts; long = c.long }

  pub onward : drop (start k ns) t ≡ cat (drop k xs)
  onward = rw u.is (from-section k ns xs u.sizes h)

  pub read : take (get_or ns k 0) (drop (start k ns) t) ≡ get_or xs k []
  read = part whole

  pub word_read : (i : ℕ) → i < get_or ns k 0 → get_or t (start k ns + i) 0 ≡ get_or (get_or xs k []) i 0
  word_read i j =
      rw (whole.is, ← whole.starts, get_or-append-add (cat (take k xs)) (get_or xs k [] ++ cat (drop (suc k) xs)) i 0)
      (get_or-append (get_or xs k []) (cat (drop (suc k) xs)) 0 i (omega (arith, whole.long)))

  -- the section lent, and r put back
  pub lend : (r : List ℕ) → length r ≡ get_or ns k 0 → Run ns (set xs k r) (take (start k ns) t ++ (r ++ drop (get_or ns k 0) (drop (start k ns) t)))
  lend r e = record {
    sizes = sizes-set k ns xs r u.sizes e h;
    is = put whole r ∙ cat_set k xs r (omega (arith, count ns xs u.sizes));
  }

  -- one word stored
  pub store : (i v : ℕ) → i < get_or ns k 0 → Run ns (set xs k (set (get_or xs k []) i v)) (set t (start k ns + i) v)
  store i v j = record {
    sizes = sizes-set k ns xs _ u.sizes (length-set (get_or xs k []) i v ∙ whole.long) h;
    is = rw (whole.is, ← whole.starts, set_past (cat (take k xs)) (get_or xs k [] ++ cat (drop (suc k) xs)) i v, set-append_left (get_or xs k []) (cat (drop (suc k) xs)) i v (omega (arith, whole.long)))
        (cat_set k xs _ (omega (arith, count ns xs u.sizes)));
  }

  -- the section lent to a callee that kept its length and left f of it
  pub lent : (f : List ℕ → List ℕ) (r : List ℕ) → length r ≡ length (take (get_or ns k 0) (drop (start k ns) t)) → r ≡ f (take (get_or ns k 0) (drop (start k ns) t))
      → Run ns (set xs k (f (get_or xs k []))) (take (start k ns) t ++ (r ++ drop (get_or ns k 0) (drop (start k ns) t)))
  lent f r m e =
      let q : r ≡ f (get_or xs k []) = e ∙ ap f read in
      subst (λ (y : List ℕ). Run ns (set xs k y) (take (start k ns) t ++ (r ++ drop (get_or ns k 0) (drop (start k ns) t)))) q
      (lend r (m ∙ ap length read ∙ whole.long))

  module _ {i n : ℕ} {p x z : List ℕ} (d : Cut i n (get_or xs k []) p x z) (b e : ℕ) (eb : b ≡ start k ns + i) (ee : e ≡ b + n) where
    -- a part of the section as a part of the run
    within : Cut b n t (cat (take k xs) ++ p) x (z ++ cat (drop (suc k) xs))
    within = subst (λ (y : ℕ). Cut y n t (cat (take k xs) ++ p) x (z ++ cat (drop (suc k) xs))) (sym eb) (inner whole d)

    span : e - b ≡ n
    span = omega arith

    -- a part of the section read: t[b..e]
    pub read-in : take (e - b) (drop b t) ≡ x
    read-in = rw span (part within)

    -- a part of the section lent to a callee that kept its length and left f of it
    pub lent-in : (f : List ℕ → List ℕ) (r : List ℕ) → length r ≡ length (take (e - b) (drop b t)) → r ≡ f (take (e - b) (drop b t))
        → Run ns (set xs k (p ++ (f x ++ z))) (take b t ++ (r ++ drop (e - b) (drop b t)))
    lent-in f r m q =
        let v : r ≡ f x = q ∙ ap f read-in in
        let l : length (f x) ≡ n = ap length (sym v) ∙ m ∙ ap length read-in ∙ d.long in
        let j : (cat (take k xs) ++ p) ++ (f x ++ (z ++ cat (drop (suc k) xs))) ≡ cat (take k xs) ++ ((p ++ (f x ++ z)) ++ cat (drop (suc k) xs)) = simp append_assoc in
        record {
          sizes = sizes-set k ns xs _ u.sizes
              (omega (arith, length-append p (f x ++ z), length-append (f x) z, ap length d.is, length-append p (x ++ z), length-append x z, d.long, whole.long, l)) h;
          is = rw (span, put within r, v) (j ∙ cat_set k xs (p ++ (f x ++ z)) (omega (arith, count ns xs u.sizes)));
        }

-- ---- a run known word by word

-- from the place at on, the words of t are those of the sections
abbrev pub Agrees : ℕ → List ℕ → List (List ℕ) → List ℕ → Type 0
Agrees at [] xs t = Unit {0}
Agrees at (n ∷ ns) [] t = ⊥
Agrees at (n ∷ ns) (x ∷ xs) t = ((i : ℕ) → i < n → get_or t (at + i) 0 ≡ get_or x i 0) × Agrees (at + n) ns xs t

agrees_from : (at : ℕ) (ns : List ℕ) (xs : List (List ℕ)) (t : List ℕ) → Sizes ns xs → length t ≡ at + start (length ns) ns → Agrees at ns xs t → drop at t ≡ cat xs
agrees_from at [] xs t s e a = rw s (drop_of_length-le t {i = at} (omega arith))
agrees_from at (n ∷ ns) [] t s e a = absurd s
agrees_from at (n ∷ ns) (x ∷ xs) t s e a =
    let k : length (take n (drop at t)) ≡ n = length-take-le n (drop at t) (omega (arith, length-drop at t)) in
    let w : take n (drop at t) ≡ x = ext_get_or 0 (take n (drop at t)) x (k ∙ sym s.0) (λ i j. get_or-take n (drop at t) i 0 (omega arith) ∙ get_or-drop at t i 0 ∙ a.0 i (omega arith)) in
    sym (take-append-drop n (drop at t)) ∙ ap₂ ◌++◌ w (drop-drop n at t ∙ agrees_from (at + n) ns xs t s.1 (omega arith) a.1)

pub run-from : {ns : List ℕ} {xs : List (List ℕ)} {t : List ℕ} → Sizes ns xs → length t ≡ start (length ns) ns → Agrees 0 ns xs t → Run ns xs t
run-from {ns} {xs} {t} s e a = record { sizes = s; is = agrees_from 0 ns xs t s (omega arith) a }
