-- The rules of lines and columns, byte by byte. Assumes nothing.
use Rattle.std.specs.Prelude.{◌≡◌, refl, Bool, true, false, cond, eqb, List, [], ◌∷◌, ◌++◌, length, take, get_or, filter}
use Rattle.std.proofs.Common.{◌∙◌, arith}
use Rattle.std.proofs.lemmas.List.{take_more}
use Prim.Native.Nat.{ℕ, ◌+◌, ◌<◌}
use Rattle.text.specs.Text.{newline}
use Rattle.position.specs.Position.{next_line, behind}

-- the lines behind bytes are counted by their newlines
pub lines-counted : (n : ℕ) (t : List ℕ) → behind next_line n t ≡ n + length (filter (λ b. eqb b newline) t)
unfolding behind
lines-counted n [] = omega arith
lines-counted n (b ∷ bs) = lines-counted (next_line n b) bs ∙ go (eqb b newline)
  where
    go : (t : Bool) → cond t (n + 1) n + length (filter (λ x. eqb x newline) bs) ≡ n + length (cond t (b ∷ filter (λ x. eqb x newline) bs) (filter (λ x. eqb x newline) bs))
    go true = omega arith
    go false = omega arith

behind-append : (f : ℕ → ℕ → ℕ) (n : ℕ) (s t : List ℕ) → behind f n (s ++ t) ≡ behind f (behind f n s) t
unfolding behind
behind-append f n [] t = refl
behind-append f n (b ∷ bs) t = behind-append f (f n b) bs t

-- behind one byte more, the rule has been followed once more
pub behind_more : (f : ℕ → ℕ → ℕ) (n : ℕ) (t : List ℕ) (i : ℕ) → i < length t → behind f n (take (i + 1) t) ≡ f (behind f n (take i t)) (get_or t i 0)
unfolding behind
behind_more f n t i h = rw (take_more t i 0 h) (behind-append f n (take i t) (get_or t i 0 ∷ []))
