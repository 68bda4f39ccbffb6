-- Texts as bytes, and the parts of a line between its spaces. Assumes nothing.
use Rattle.std.specs.Prelude.{cond, List, [], ◌∷◌, length, get_or, ℕ, suc, eqb, ltb, Option, Some, None}
use Prim.Native.Char.{code}
use Prim.Native.String.{String}
use Prim.Native.String as Text

-- the bytes of a text in ASCII
abbrev pub bytes : String → List ℕ
bytes Text.[] = []
bytes (Text.◌∷◌ c cs) = code c ∷ bytes cs

-- the byte between two fields
abbrev pub space : ℕ
space = 32

-- the byte that ends a line
abbrev pub newline : ℕ
newline = 10

-- the place of the first b, or the length where there is none
unfoldable pub find_in : ℕ → List ℕ → ℕ
find_in b [] = 0
find_in b (x ∷ xs) = cond (eqb x b) 0 (suc (find_in b xs))

-- the place of the first b; none where there is none
unfoldable pub found_in : ℕ → List ℕ → Option ℕ
found_in b s = cond (ltb (find_in b s) (length s)) (Some (find_in b s)) None

-- one byte more in front of the first part
abbrev pub in_front : ℕ → List (List ℕ) → List (List ℕ)
in_front b [] = (b ∷ []) ∷ []
in_front b (f ∷ fs) = (b ∷ f) ∷ fs

-- the fields of a line: its parts between single spaces, empty ones among them
unfoldable pub fields : List ℕ → List (List ℕ)
fields [] = [] ∷ []
fields (b ∷ bs) = cond (eqb b space) ([] ∷ fields bs) (in_front b (fields bs))

-- field i, counted from 0; empty where there are fewer
abbrev pub field : ℕ → List (List ℕ) → List ℕ
field i fs = get_or fs i []
