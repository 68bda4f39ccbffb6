-- Reading by pid in the index of a sound table: where the rows of the pid stand, and which answer is given. Assumes nothing.
use Rattle.std.specs.Prelude.{◌≡◌, false, List, ◌++◌, ℕ, ◌-◌, ◌*◌, ◌≤◌, ◌<◌, leb, length, drop}
use Rattle.std.proofs.Math.Path.{sym, ap}
use Rattle.std.proofs.Common.{◌∙◌, arith}
use Rattle.std.proofs.Math.Dec.{eqb}
use Rattle.std.proofs.Math.ListN.{take, length-drop}
use Rattle.std.proofs.lemmas.List.{length-map, take-map, drop-map}
use Rattle.std.proofs.Math.Seq.{length-take-le}
use borrow.Author.Tests.{eq-eqb, le-leb, lt-leb, lt-ltb, le-ltb}
use Rattle.entries.specs.Entries.{host}
use Rattle.answers.specs.Answers.{answer_of}
use Rattle.answers.specs.declared.Value.TheVariants.{Listed}
use Rattle.answers.specs.declared.Reason.TheVariants.{Done, NodeUnknown, RunShort}
use Rattle.semantics.specs.Sizes.{group_names, names_per_group, table_words, row_words}
use Rattle.semantics.specs.Table.{state_of}
use Rattle.semantics.specs.TestLaws.{same-iff}
use Rattle.semantics.specs.Soundness.{size_of}
use Rattle.semantics.specs.WordsOfState.{size_is}
use Rattle.semantics.specs.FirstReason.{Test, first}
use Rattle.semantics.proofs.Agree.{test-regular, test-laid}
use Rattle.semantics.specs.Call.{refused}
use Rattle.indexes.specs.Index.{Row, key_of, pid_of, walk, sorted, keep, named, index_of_table, names_of}
use Rattle.indexes.specs.Ascending.{Ascending, rank}
use Rattle.indexes.specs.Sorting.{rank-le, pid-ranks, keep-pid}
use Rattle.indexes.specs.Flat.{length-named, read_rows}
use Rattle.indexes.specs.WalkLaws.{walk-small-sorted}
use Rattle.indexes.specs.IndexCalls.{no_index, names_in, read}
use Rattle.index_rows.specs.Filled.{Front}
use Rattle.index_rows.specs.Search.{in_front}
use Rattle.index_rows.specs.Arrays.{as_row, as_rows, front-read, stands}
use Rattle.index_rows.specs.Paired.{Paired, index-fills}

-- what two ranks among the arrays of rows say: the names of the pid p are read from the one up to the other
pub record Ranked (t : List ℕ) (rs : List (List ℕ)) (p from to : ℕ) : Type 0 where
  pub rise : from ≤ to
  pub high : to ≤ length rs
  pub names : named (as_rows (take (to - from) (drop from rs))) ≡ names_in p (state_of names_per_group t)
  pub words : length (names_in p (state_of names_per_group t)) ≡ row_words * length (take (to - from) (drop from rs))

module _ {t x : List ℕ} (h : Paired t x) where
  size : size_of t ≡ (state_of names_per_group t).size
  size = size_is (test-laid names_per_group t h.ok)

  -- ---- the rows

  pub ranked : (count : ℕ) → count ≡ length (walk (state_of names_per_group t).groups) → (rs : List (List ℕ)) → as_rows rs ≡ read_rows count x
      → (p from to low high : ℕ) → (Ascending 0 (as_rows rs) → from ≡ rank low (as_rows rs)) → (Ascending 0 (as_rows rs) → to ≡ rank high (as_rows rs))
      → low ≡ key_of p 0 → high ≡ key_of p group_names → Ranked t rs p from to
  unfolding names_of
  ranked count e rs is p from to low high rf rt el eh =
      let xs = sorted (walk (state_of names_per_group t).groups) in
      let f : Front count xs x = in_front (index-fills h count e) in
      let all : as_rows rs ≡ xs = is ∙ front-read f in
      let many : length rs ≡ count = sym (length-map rs as_row) ∙ ap length all ∙ f.many in
      let ef : from ≡ rank (key_of p 0) xs = rw el at (stands f rs low is rf) in
      let et : to ≡ rank (key_of p group_names) xs = rw eh at (stands f rs high is rt) in
      let rise : from ≤ to = omega (arith, pid-ranks p xs) in
      let last : to ≤ count = omega (arith, rank-le (key_of p group_names) xs, f.many) in
      let own : keep (λ r. eqb (pid_of r) p) xs ≡ take (to - from) (drop from xs) =
      rw (ef, et) (keep-pid p 0 xs f.ascending (walk-small-sorted (test-regular names_per_group t h.ok).0)) in
      let between : as_rows (take (to - from) (drop from rs)) ≡ take (to - from) (drop from xs) =
      sym (take-map as_row (to - from) (drop from rs)) ∙ ap (take (to - from)) (sym (drop-map as_row from rs)) ∙ ap (λ (l : List Row). take (to - from) (drop from l)) all in
      record {
        rise = rise;
        high = omega arith;
        names = ap named (between ∙ sym own);
        words =
            rw own
            (omega (
              arith,
              length-named (take (to - from) (drop from xs)),
              length-take-le (to - from) (drop from xs) (omega (arith, length-drop from xs, f.many)),
              length-take-le (to - from) (drop from rs) (omega (arith, length-drop from rs)),
            ));
      }

  -- ---- the answer

  -- no test of table and index holds
  passed : (ts : List Test) → first (no_index t x ++ ts) ≡ first ts
  passed ts = rw (eq-eqb (length t) (table_words names_per_group) (test-regular names_per_group t h.ok).2, h.ok, (same-iff x (index_of_table names_per_group t)).1 h.is)

  module _ (room p : ℕ) where
    pub read-unknown : size_of t ≤ host p → read room p t x ≡ refused NodeUnknown t
    unfolding read
    read-unknown k = rw (passed _, le-leb (state_of names_per_group t).size (host p) (omega (arith, size)))

    module _ (k : host p < size_of t) where
      known : leb (state_of names_per_group t).size (host p) ≡ false
      known = lt-leb (state_of names_per_group t).size (host p) (omega (arith, size))

      pub read_short : room < length (names_in p (state_of names_per_group t)) → read room p t x ≡ refused RunShort t
      unfolding read
      read_short l = rw (passed _, known, lt-ltb room (length (names_in p (state_of names_per_group t))))

      pub read-listed : length (names_in p (state_of names_per_group t)) ≤ room
          → read room p t x
          ≡ record { answer = answer_of (Listed (length (names_in p (state_of names_per_group t)))) Done; list = names_in p (state_of names_per_group t); table = t }
      unfolding read
      read-listed l = rw (passed _, known, le-ltb room (length (names_in p (state_of names_per_group t))))
