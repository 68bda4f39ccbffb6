-- A run of bytes with the place where the next byte goes; where the run is full, what is left over is dropped. Assumes nothing.
use Rattle.std.specs.Prelude.{cond, List, [], ◌∷◌, ℕ, ◌+◌, ltb, length, set}

-- a run of bytes, and the place where the next byte goes
pub record Sheet : Type 0 where
  pub bytes : List ℕ
  pub at : ℕ

-- a run of bytes, printed on up to a place
unfoldable pub sheet : List ℕ → ℕ → Sheet
sheet l i = record { bytes = l; at = i }

-- one byte more; where the run is full, it and the place stay
unfoldable pub put_one : Sheet → ℕ → Sheet
unfolding sheet
put_one p b = sheet (set p.bytes p.at b) (cond (ltb p.at (length p.bytes)) (p.at + 1) p.at)

-- the bytes of a list, one behind the other
unfoldable pub put : Sheet → List ℕ → Sheet
put p [] = p
put p (b ∷ bs) = put (put_one p b) bs
