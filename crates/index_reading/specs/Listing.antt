-- Rows listed, s_group and name of each, word by word. Assumes nothing.
use Rattle.std.specs.Prelude.{◌≡◌, refl, List, [], ◌∷◌, ◌++◌, ℕ, zero, suc, ◌+◌, ◌*◌, ◌%◌, ◌≤◌, ◌<◌, length, get_or, set, take, drop}
use Rattle.std.proofs.Common.{ap, add-one, arith, length-append, length-take-le}
use Rattle.std.proofs.lemmas.List.{length-map}
use Rattle.entries.specs.Entries.{half_word}
use Rattle.entries.specs.Pass.{pass-write}
use Rattle.semantics.specs.Sizes.{row_words}
use Rattle.indexes.specs.Index.{named}
use Rattle.indexes.specs.Flat.{length-named}
use Rattle.index_rows.specs.Arrays.{as_row, as_rows}

-- one row more
named-suc : (k : ℕ) (rs : List (List ℕ)) → k < length rs
    → named (as_rows (take (suc k) rs))
    ≡ (named (as_rows (take k rs)) ++ (get_or (get_or rs k []) 0 0 % half_word ∷ [])) ++ (get_or (get_or rs k []) 1 0 ∷ [])
unfolding named
named-suc k [] h = absurd (omega arith)
named-suc zero (r ∷ rs) h = refl
named-suc (suc k) (r ∷ rs) h = ap (λ (l : List ℕ). get_or r 0 0 % half_word ∷ get_or r 1 0 ∷ l) (named-suc k rs (omega arith))

module _ (rs : List (List ℕ)) (out : List ℕ) where
  -- the first k rows, listed over the run
  abbrev pub listed_rows : ℕ → List ℕ
  listed_rows k = named (as_rows (take k rs)) ++ drop (row_words * k) out

  pub list-row : (k : ℕ) (now : List ℕ) → k < length rs → row_words * k + row_words ≤ length out → now ≡ listed_rows k
      → set (set now (row_words * k) (get_or (get_or rs k []) 0 0 % half_word)) (row_words * k + 1) (get_or (get_or rs k []) 1 0) ≡ listed_rows (k + 1)
  list-row k now hi ho e =
      let p = named (as_rows (take k rs)) in
      let long : length p ≡ row_words * k = omega (arith, length-named (as_rows (take k rs)), length-map (take k rs) as_row, length-take-le k rs (omega arith)) in
      let next : row_words * suc k ≡ row_words * k + 1 + 1 = omega arith in
      let key = get_or (get_or rs k []) 0 0 % half_word in
      let name = get_or (get_or rs k []) 1 0 in
      rw (
        e,
        pass-write p (row_words * k) out long key (omega arith),
        pass-write (p ++ key ∷ []) (row_words * k + 1) out (omega (arith, length-append p (key ∷ []))) name (omega arith),
        add-one k,
        named-suc k rs hi,
        next,
      )
