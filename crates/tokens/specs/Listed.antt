-- The reserved words of one length, among which alone a word of that length can be. Assumes nothing.
use Rattle.std.specs.Prelude.{◌≡◌, refl, Bool, true, false, ◌||◌, cond, List, [], ◌∷◌, ℕ, eqb, length}
use Rattle.std.proofs.Common.{sym, ap}
use Rattle.std.proofs.lemmas.Bool.{eqb-false}
use Rattle.tokens.specs.Reserved.{same, among}
use Rattle.tokens.specs.Words.{same_eq}

-- a word is of this length
abbrev pub long : ℕ → List ℕ → Bool
long n w = eqb (length w) n

-- the words of this length
unfoldable pub as_long : ℕ → List (List ℕ) → List (List ℕ)
as_long n [] = []
as_long n (w ∷ ws) = cond (long n w) (w ∷ as_long n ws) (as_long n ws)

-- among words a word can only be one of its length
pub among-long : (w : List ℕ) (ws : List (List ℕ)) → among ws w ≡ among (as_long (length w) ws) w
unfolding as_long among
among-long w [] = refl
among-long w (x ∷ xs) = go (long (length w) x) (same w x) refl refl (among-long w xs)
  where
    go : (l s : Bool) → long (length w) x ≡ l → same w x ≡ s → among xs w ≡ among (as_long (length w) xs) w
        → (s || among xs w) ≡ among (cond l (x ∷ as_long (length w) xs) (as_long (length w) xs)) w
    go true s e f ih = rw (f, ih)
    go false true e f ih = absurd (eqb-false (length x) (length w) e (ap length (sym (same_eq w x f))))
    go false false e f ih = ih
