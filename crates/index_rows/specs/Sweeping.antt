-- Rows kept in place: those that stay move to the front one by one, and the words behind them are cleared. Assumes nothing.
use Rattle.std.specs.Prelude.{◌≡◌, refl, Bool, true, false, set, take, drop, replicate}
use Rattle.std.proofs.Common.{sym, ◌∙◌, ⊎_elim, add-zero, add-one, arith, length-drop, drop_of_length-le, take-suc, drop-cons, take_all, drop-set-lt, drop-drop, get_or-drop}
use Rattle.std.proofs.Math.Path.{ap}
use mathlib.Core.List.{List, [], ◌∷◌, ◌++◌, append-nil}
use Prim.Native.Nat.{ℕ, suc, ◌+◌, ◌-◌, ◌*◌, ◌≤◌, ◌<◌}
use mir.Val.{bool_byte}
use Rattle.std.proofs.Math.ListN.{length, get_or, length-append}
use Rattle.std.proofs.lemmas.List.{replicate-append-replicate}
use Rattle.std.proofs.Math.Seq.{take_at, take-set-le, length-take-le}
use Rattle.std.proofs.lemmas.List.Edits.{sets-eq}
use Rattle.nodes.specs.Bools.{by_test}
use Rattle.semantics.specs.Sizes.{row_words}
use Rattle.indexes.specs.Index.{Row, flat, laid, keep}
use Rattle.indexes.specs.Flat.{length-flat, flat_append, no_row, row_at}
use Rattle.index_rows.specs.Filled.{Fills}

-- rows may be kept part by part
keep_append : (p : Row → Bool) (a b : List Row) → keep p (a ++ b) ≡ keep p a ++ keep p b
unfolding keep
keep_append p [] b = refl
keep_append p (x ∷ a) b =
    ⊎_elim
    (λ (t : p x ≡ true). rw (t, keep_append p a b))
    (λ (t : p x ≡ false). rw (t, keep_append p a b))
    (by_test (p x))

-- of the first j rows those that stay stand in front, in so many words, and the words of the others are as they were, with z behind them
pub record Swept (p : Row → Bool) (xs : List Row) (z : List ℕ) (j kept : ℕ) (run : List ℕ) : Type 0 where
  pub many : kept ≡ row_words * length (keep p (take j xs))
  pub front : take kept run ≡ flat (keep p (take j xs))
  pub later : drop (row_words * j) run ≡ flat (drop j xs) ++ z

-- at first
pub swept_none : (p : Row → Bool) {count : ℕ} {xs : List Row} {run : List ℕ} → Fills count xs run → Swept p xs (replicate (length run - row_words * count) 0) 0 0 run
unfolding keep flat
swept_none p {count} {xs} f = record {
  many = refl;
  front = refl;
  later = f.words ∙ rw (length-flat xs, f.many);
}

-- two words stored
stored : (run : List ℕ) (at a b : ℕ) → at + row_words ≤ length run → set (set run at a) (at + 1) b ≡ (take at run ++ a ∷ b ∷ []) ++ drop (at + row_words) run
stored run at a b h = rw add-one (sets-eq (a ∷ b ∷ []) run at h)

module _ {p : Row → Bool} {xs : List Row} {z : List ℕ} {j kept : ℕ} {run : List ℕ} (w : Swept p xs z j kept run) (some : j < length xs) where
  -- the words of the row at j, and of those behind it
  words-here : drop (row_words * j) run ≡ (row_at j xs).key ∷ (row_at j xs).name ∷ (flat (drop (suc j) xs) ++ z)
  unfolding flat
  words-here = w.later ∙ rw (drop-cons xs j no_row some)

  -- what stays of one row more
  one_more : keep p (take (suc j) xs) ≡ keep p (take j xs) ++ keep p (row_at j xs ∷ [])
  one_more = rw (take-suc xs j no_row some) (keep_append p (take j xs) (row_at j xs ∷ []))

  -- its key and its name, read there
  pub key_here : get_or run (row_words * j) 0 ≡ (row_at j xs).key
  key_here = rw (← add-zero (row_words * j), ← get_or-drop (row_words * j) run 0 0, words-here)

  name-here : get_or run (row_words * j + 1) 0 ≡ (row_at j xs).name
  name-here = rw (← get_or-drop (row_words * j) run 1 0, words-here)

  module _ (behind : kept ≤ row_words * j) (room : row_words * j + row_words ≤ length run) where
    -- the words behind it stay as they were
    later-on : (a b : ℕ) → drop (row_words * suc j) (set (set run kept a) (kept + 1) b) ≡ flat (drop (suc j) xs) ++ z
    later-on a b =
        let next : row_words * suc j ≡ row_words * j + row_words = omega arith in
        drop-set-lt (row_words * suc j) (set run kept a) (kept + 1) b (omega arith) ∙ drop-set-lt (row_words * suc j) run kept a (omega arith)
        ∙ rw (next, ← drop-drop row_words (row_words * j) run, words-here)

    -- it goes
    gone : p (row_at j xs) ≡ false → (a b : ℕ) → Swept p xs z (suc j) kept (set (set run kept a) (kept + 1) b)
    unfolding keep
    gone h a b =
        let same : keep p (take (suc j) xs) ≡ keep p (take j xs) = one_more ∙ rw h (append-nil (keep p (take j xs))) in
        record {
          many = w.many ∙ rw same;
          front = take-set-le kept (set run kept a) (kept + 1) b (omega arith) ∙ take-set-le kept run kept a (omega arith) ∙ w.front ∙ ap flat (sym same);
          later = later-on a b;
        }

    -- it stays
    stayed : p (row_at j xs) ≡ true
        → Swept p xs z (suc j) (kept + row_words) (set (set run kept (get_or run (row_words * j) 0)) (kept + 1) (get_or run (row_words * j + 1) 0))
    unfolding keep flat
    stayed h =
        let key : ℕ = get_or run (row_words * j) 0 in
        let name : ℕ = get_or run (row_words * j + 1) 0 in
        let more : keep p (take (suc j) xs) ≡ keep p (take j xs) ++ row_at j xs ∷ [] = one_more ∙ rw h in
        let two : List ℕ = key ∷ name ∷ [] in
        let long : length (take kept run ++ two) ≡ kept + row_words =
        omega (arith, length-append (take kept run) two, length-take-le kept run (omega arith)) in
        record {
          many = rw more (omega (arith, length-append (keep p (take j xs)) (row_at j xs ∷ []), w.many));
          front =
              rw (stored run kept key name (omega arith), take_at (take kept run ++ two) (drop (kept + row_words) run) (kept + row_words) long, w.front, key_here, name-here, more)
              (sym (flat_append (keep p (take j xs)) (row_at j xs ∷ [])));
          later = later-on key name;
        }

    -- one row more
    pub swept-on : (t : Bool) → t ≡ p (row_at j xs) → (n : ℕ) → n ≡ suc j
        → Swept p xs z n (kept + row_words * bool_byte t) (set (set run kept (get_or run (row_words * j) 0)) (kept + 1) (get_or run (row_words * j + 1) 0))
    swept-on true e n q = rw q (stayed (sym e))
    swept-on false e n q = rw (q, add-zero kept) (gone (sym e) (get_or run (row_words * j) 0) (get_or run (row_words * j + 1) 0))

-- at the end: the words between those of the rows that stay and the rest are lent, and put back as zeros
pub swept_all : (p : Row → Bool) (count : ℕ) (xs : List Row) (n kept j : ℕ) (run : List ℕ) → length xs ≡ count → length run ≡ n → row_words * count ≤ n → j ≡ count
    → kept ≤ row_words * count → Swept p xs (replicate (n - row_words * count) 0) j kept run
    → (e : ℕ) → e ≡ row_words * count - kept → (r : List ℕ) → r ≡ replicate (length (take e (drop kept run))) 0
    → take kept run ++ (r ++ drop e (drop kept run)) ≡ laid n (keep p xs)
unfolding flat
swept_all p count xs n kept j run many long room end few w e ee r er =
    let all : take j xs ≡ xs = take_all j xs (omega arith) in
    let front : take kept run ≡ flat (keep p xs) = w.front ∙ ap (λ (l : List Row). flat (keep p l)) all in
    let past : kept + e ≡ row_words * j = omega arith in
    let back : drop e (drop kept run) ≡ replicate (n - row_words * count) 0 =
    drop-drop e kept run ∙ rw (past, w.later, drop_of_length-le xs {i = j} (omega arith)) in
    let size : length (take e (drop kept run)) ≡ e = length-take-le e (drop kept run) (omega (arith, length-drop kept run)) in
    let zeros : n - length (flat (keep p xs)) ≡ e + (n - row_words * count) = omega (arith, length-flat (keep p xs), w.many, ap (λ (l : List Row). length (keep p l)) all) in
    rw (er, size, front, back, zeros, replicate-append-replicate {A = ℕ} e (n - row_words * count) 0)
