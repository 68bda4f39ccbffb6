-- Sets of nodes as numbers: node i is in w where the binary digit i of w is 1. Definitions only. Assumes nothing.
use Rattle.std.specs.Prelude.{Bool, List, ℕ, ◌/◌, ◌%◌, ◌^◌, eqb, leb, get_or}

-- how many nodes there can be: a word of 64 digits holds the nodes 0 to 63
abbrev pub node_limit : ℕ
node_limit = 64

-- whether i is in w
abbrev pub has : ℕ → ℕ → Bool
has w i = eqb (w / 2 ^ i % 2) 1

-- whether a node of w is not among the first n
abbrev pub beyond : ℕ → ℕ → Bool
beyond w n = leb (2 ^ n) w

-- the word at i, and the empty set past the list's end
abbrev pub word_at : List ℕ → ℕ → ℕ
word_at ws i = get_or ws i 0
