-- What a function over numbers has to show, by whether its run for the answer has room. Assumes nothing.
use Rattle.std.specs.Prelude.{◌≡◌, refl, List, [], ◌∷◌, ◌++◌, ℕ, ◌≤◌, ◌<◌, length, drop, set}
use Rattle.std.proofs.Common.{ap, ◌∙◌, arith, lt-ltb, le-ltb}
use Rattle.answers.specs.Answers.{number}
use Rattle.answers.specs.Outputs.{kind}
use Rattle.semantics.specs.Call.{Call, listed_over}
use Rattle.answers.specs.declared.Answer.{Answer}
use Rattle.indexes.specs.IndexCalls.{Indexed, written}
use Rattle.answer_words.specs.AnswerWords.{Told, ToldIndexed, answer_words, no_room, first, second, answer_in, told, told_indexed}

-- ---- what is to be shown: the number that is returned and the answer's run; with them the table, or the list's run

abbrev pub Tells : Told → ℕ → List ℕ → Type 0
Tells t r answer = (r ≡ t.returned) × (answer ≡ t.answer)

abbrev pub TellsTable : Told → ℕ → List ℕ → List ℕ → Type 0
TellsTable t r answer table = (r ≡ t.returned) × ((answer ≡ t.answer) × (table ≡ t.table))

abbrev pub TellsList : Told → ℕ → List ℕ → List ℕ → Type 0
TellsList t r answer list = (r ≡ t.returned) × ((answer ≡ t.answer) × (list ≡ t.list))

-- with them the table and its index
abbrev pub TellsIndexed : ToldIndexed → ℕ → List ℕ → List ℕ → List ℕ → Type 0
TellsIndexed t r answer table index = (r ≡ t.told.returned) × ((answer ≡ t.told.answer) × ((table ≡ t.told.table) × (index ≡ t.index)))

-- ---- without room nothing is called, and every word stays

module _ (c : Call) (answer out table : List ℕ) (short : length answer < answer_words) where
  kept : told c answer out table ≡ record { returned = no_room; answer = answer; list = out; table = table }
  unfolding told
  kept = rw (lt-ltb (length answer) answer_words short)

  pub silent : Tells (told c answer out table) no_room answer
  silent = rw kept (refl, refl)

  pub silent-table : TellsTable (told c answer out table) no_room answer table
  silent-table = rw kept (refl, (refl, refl))

  pub silent-list : TellsList (told c answer out table) no_room answer out
  silent-list = rw kept (refl, (refl, refl))

-- ---- with room it is what the call gives

-- what is written of an answer, and the number of its reason
abbrev pub Put : Answer → List ℕ → ℕ → List ℕ → Type 0
Put a answer r run = (r ≡ number a.reason) × (run ≡ answer_in a ++ drop answer_words answer)

module _ (c : Call) (answer out table : List ℕ) (room : answer_words ≤ length answer) where
  called : told c answer out table
      ≡ record { returned = number c.answer.reason; answer = answer_in c.answer ++ drop answer_words answer; list = listed_over c.list out; table = c.table }
  unfolding told
  called = rw (le-ltb (length answer) answer_words room)

  pub tells : {a : Answer} {r : ℕ} {run : List ℕ} → a ≡ c.answer → Put a answer r run → Tells (told c answer out table) r run
  tells e w = rw called (w.0 ∙ ap (λ (x : Answer). number x.reason) e, w.1 ∙ ap (λ (x : Answer). answer_in x ++ drop answer_words answer) e)

  pub tells-table : {a : Answer} {r : ℕ} {run next : List ℕ} → (a ≡ c.answer) × (next ≡ c.table) → Put a answer r run → TellsTable (told c answer out table) r run next
  tells-table e w = ((tells e.0 w).0, ((tells e.0 w).1, rw called e.1))

  pub tells-list : {a : Answer} {r : ℕ} {run next : List ℕ} → (a ≡ c.answer) × (next ≡ listed_over c.list out) → Put a answer r run → TellsList (told c answer out table) r run next
  tells-list e w = ((tells e.0 w).0, ((tells e.0 w).1, rw called e.1))

-- ---- with an index

pub silent-indexed : (d : Indexed) (answer out table index : List ℕ) → length answer < answer_words → TellsIndexed (told_indexed d answer out table index) no_room answer table index
unfolding told_indexed
silent-indexed d answer out table index short =
    let w = silent-table d.given answer out table short in
    (w.0, (w.1.0, (w.1.1, rw (lt-ltb (length answer) answer_words short))))

module _ (d : Indexed) (answer out table index : List ℕ) (room : answer_words ≤ length answer) where
  pub tells-indexed : {a : Answer} {r : ℕ} {run next kept : List ℕ} → (a ≡ d.given.answer) × ((next ≡ d.given.table) × (kept ≡ d.index)) → Put a answer r run
      → TellsIndexed (told_indexed d answer out table index) r run next kept
  unfolding told_indexed
  tells-indexed e w =
      let q = tells-table d.given answer out table room (e.0, e.1.0) w in
      (q.0, (q.1.0, (q.1.1, rw (le-ltb (length answer) answer_words room) e.1.1)))

-- ---- an index that is written: the table is not lent for writing

abbrev pub TellsWritten : ToldIndexed → ℕ → List ℕ → List ℕ → Type 0
TellsWritten t r answer index = (r ≡ t.told.returned) × ((answer ≡ t.told.answer) × (index ≡ t.index))

module _ (table index answer : List ℕ) where
  pub silent-written : length answer < answer_words → TellsWritten (told_indexed (written table index) answer [] table index) no_room answer index
  silent-written short = let w = silent-indexed (written table index) answer [] table index short in (w.0, (w.1.0, w.1.1.1))

  pub tells-written : answer_words ≤ length answer → {a : Answer} {r : ℕ} {run kept : List ℕ} → (a ≡ (written table index).given.answer) × (kept ≡ (written table index).index) → Put a answer r run
      → TellsWritten (told_indexed (written table index) answer [] table index) r run kept
  tells-written room e w = let q = tells-indexed (written table index) answer [] table index room (e.0, (refl, e.1)) w in (q.0, (q.1.0, q.1.1.1))

-- ---- the words of an answer are stored

-- four stores put four words before the rest
four-set : (k x y w : ℕ) (run : List ℕ) → answer_words ≤ length run → set (set (set (set run 0 k) 1 x) 2 y) 3 w ≡ (k ∷ x ∷ y ∷ w ∷ []) ++ drop answer_words run
four-set k x y w [] h = absurd (omega arith)
four-set k x y w (a ∷ []) h = absurd (omega arith)
four-set k x y w (a ∷ b ∷ []) h = absurd (omega arith)
four-set k x y w (a ∷ b ∷ d ∷ []) h = absurd (omega arith)
four-set k x y w (a ∷ b ∷ d ∷ e ∷ run) h = refl

-- the four stores of an answer's numbers
pub answer-set : (a : Answer) (k x y w : ℕ) (run : List ℕ) → answer_words ≤ length run → k ≡ kind a.value → x ≡ first a.value → y ≡ second a.value → w ≡ number a.reason
    → set (set (set (set run 0 k) 1 x) 2 y) 3 w ≡ answer_in a ++ drop answer_words run
answer-set a k x y w run h p q r e = four-set k x y w run h ∙ rw (p, q, r, e)
