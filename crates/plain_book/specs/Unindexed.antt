-- A book that is read line by line, without an index. Assumes nothing.
use Rattle.std.specs.Prelude.{◌≡◌, true, false, ◌&&◌, List, ℕ, ◌+◌, ◌-◌, ◌≤◌, ◌<◌, leb, length, take, drop, replicate}
use Rattle.std.proofs.Common.{⊎_elim, arith}
use Rattle.std.proofs.lemmas.List.{length-replicate}
use Rattle.nodes.specs.Bools.{by_lt}
use Rattle.tokens.specs.Reserved.{among}
use Rattle.text.specs.Text.{newline, find_in}
use Rattle.book_index.specs.Layout.{index_size}
use Rattle.book.specs.Book.{longest_atom, lines}
use Rattle.book.specs.Index.{indexed_lines}
use Rattle.book.specs.Reading.{Reading, start, goes-past, goes_on}

-- i lines are passed, up to a place, and nothing is wrong with them: so it is with the index that could be made of them
pub record Read (t : List ℕ) (i at : ℕ) : Type 0 where
  pub index : List ℕ
  pub reading : Reading t index i at

pub read_none : (t : List ℕ) → Read t 0 0
read_none t = record { index = _; reading = start t (replicate {A = ℕ} index_size 0) (length-replicate {A = ℕ} index_size 0) }

-- one line more
pub read_more : (t : List ℕ) (i at : ℕ) → Read t i at → (e : ℕ) → e ≡ at + find_in newline (drop at t) → e < length t
    → (leb 1 (e - at) && leb (e - at) longest_atom) ≡ true → among (lines (take at t)) (take (e - at) (drop at t)) ≡ false → Read t (i + 1) (e + 1)
read_more t i at R e at-end more right new =
    ⊎_elim
    (λ (h : i < indexed_lines). record { index = _; reading = goes_on 0 t R.index i at R.reading e at-end more right new (omega arith) })
    (λ (h : indexed_lines ≤ i). record { index = _; reading = goes-past 0 t R.index i at R.reading e at-end more right new (omega arith) })
    (by_lt i indexed_lines)
