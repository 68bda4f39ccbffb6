-- Marks tell most atoms apart at little cost: atoms with different marks differ. That is all that a mark says, and no promise
-- to a caller rests on which mark an atom has. Assumes nothing.
use Rattle.std.specs.Prelude.{cond, List, ℕ, ◌+◌, ◌-◌, ◌*◌, ◌/◌, ◌%◌, eqb, ltb, length, get_or}
use Rattle.std.specs.Int.Bits.{bit_xor}

-- numbers of 32 bits lie below this
abbrev pub half_word : ℕ
half_word = 4294967296

-- two bytes of a text as one number
abbrev pub two : List ℕ → ℕ → ℕ
two t i = get_or t i 0 + get_or t (i + 1) 0 * 256

-- four
unfoldable pub four : List ℕ → ℕ → ℕ
four t i = two t i + two t (i + 2) * 65536

-- eight
unfoldable pub eight : List ℕ → ℕ → ℕ
eight t i = four t i + four t (i + 4) * half_word

-- up to three bytes as one number
unfoldable pub few : List ℕ → ℕ
few t = get_or t 0 0 + get_or t (length t / 2) 0 * 256 + get_or t (length t - 1) 0 * 65536

-- the bytes of an atom as one number, where they are less than eight
unfoldable pub short_word : List ℕ → ℕ
short_word t =
    cond (eqb (length t) 0) 0
    (cond (ltb (length t) 4) (few t)
    (four t 0 + four t (length t - 4) * half_word))

-- a number whose low digits depend on all digits of a word
unfoldable pub mixed : ℕ → ℕ
mixed w = (w % half_word * 1000000007 + w / half_word * 1540483477) / 16777216

-- the mark of an atom: of its first, middle and last eight bytes, or of all where it has less than eight
unfoldable pub mark_of : List ℕ → ℕ
mark_of t =
    mixed
    (cond (ltb (length t) 8) (short_word t)
    (bit_xor (bit_xor (eight t 0) (eight t (length t - 8))) (eight t ((length t - 8) / 2) / 32)))
