-- The index of a book, 512 bytes: first 2,048 marks, a bit each, or 256 hints, a byte each; then 128 numbers of 16 bits. Assumes nothing.
use Rattle.std.specs.Prelude.{Bool, List, ◌++◌, ℕ, ◌+◌, ◌*◌, ◌/◌, ◌%◌, get_or, set, drop, replicate}
use Rattle.nodes.specs.Sets.{has, with_node}
use Rattle.atoms.specs.Marks.{two}

-- the bytes of an index
abbrev pub index_size : ℕ
index_size = 512

-- how many hints it has
abbrev pub hint_count : ℕ
hint_count = 256

-- how many marks stand in their place
abbrev pub mark_count : ℕ
mark_count = 2048

-- how many numbers stand behind them
abbrev pub number_count : ℕ
number_count = 128

-- number j
unfoldable pub number_at : List ℕ → ℕ → ℕ
number_at x j = two x (hint_count + j * 2)

-- the index with v as number j
unfoldable pub with_number : List ℕ → ℕ → ℕ → List ℕ
with_number x j v = set (set x (hint_count + j * 2) (v % 256)) (hint_count + j * 2 + 1) (v / 256)

-- whether the mark m is set
unfoldable pub has_mark : List ℕ → ℕ → Bool
has_mark x m = has (get_or x (m / 8) 0) (m % 8)

-- the index with the mark m
unfoldable pub with_mark : List ℕ → ℕ → List ℕ
with_mark x m = set x (m / 8) (with_node (get_or x (m / 8) 0) (m % 8))

-- the index with no hint and no mark
unfoldable pub cleared : List ℕ → List ℕ
cleared x = replicate hint_count 0 ++ drop hint_count x
