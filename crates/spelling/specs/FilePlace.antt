-- The place of a refusal in the words of document 02: how many leading bytes of a text some launch file shares, and none shares more. Definitions only.
-- Assumes nothing.
use Rattle.std.specs.Prelude.{◌≡◌, true, List, ℕ, ◌≤◌, length, take}
use Rattle.spelling.specs.Spelling.{LaunchFile, well_formed, Blank, spell}

-- some launch file has the first n bytes of t
unfoldable pub SomeFile : List ℕ → ℕ → Type 0
SomeFile t n = (f : LaunchFile) × (gap : ℕ → List ℕ) × (well_formed f ≡ true) × Blank gap × (take n (spell gap f) ≡ take n t)

-- p is the number of leading bytes of t that some launch file shares, and none shares more
pub record FilePlace (t : List ℕ) (p : ℕ) : Type 0 where
  pub within : p ≤ length t
  pub shared : SomeFile t p
  pub most : (n : ℕ) → n ≤ length t → SomeFile t n → n ≤ p
