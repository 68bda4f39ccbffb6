-- A launch for callers in C and Rust: the four words of its answer, with the place, and what it gives with a lent run for them. Definitions, and the laws of the
-- function. Assumes nothing.
use Rattle.std.specs.Prelude.{◌≡◌, refl, Bool, true, false, cond, List, [], ◌∷◌, ◌++◌, ℕ, ◌≤◌, ◌<◌, ltb, length, drop, set}
use Rattle.std.proofs.Common.{ap, ◌∙◌, lt-ltb, le-ltb}
use Rattle.answers.specs.Answers.{number, refuses}
use Rattle.answers.specs.Outputs.{kind}
use Rattle.answers.specs.declared.Answer.{Answer}
use Rattle.answer_words.specs.AnswerWords.{Told, answer_words, no_room, second, answer_in}
use Rattle.answer_words.specs.Told.{TellsTable, Put}
use Rattle.semantics.specs.FirstReason.{first}
use Rattle.grammar.specs.File.{outcome}
use Rattle.launch.specs.Launch.{Launch, launch_tests, launch}

-- the words of a launch's answer: kind, place, 0, reason
abbrev pub launch_in : Launch → List ℕ
launch_in l = kind l.answer.value ∷ l.place ∷ 0 ∷ number l.answer.reason ∷ []

-- a launch with a lent run for its answer, on a table: nothing is called where the answer has no room
unfoldable pub launch_told : Launch → List ℕ → List ℕ → Told
launch_told l answer table =
    cond (ltb (length answer) answer_words)
    (record { returned = no_room; answer = answer; list = []; table = table })
    (record { returned = number l.answer.reason; answer = launch_in l ++ drop answer_words answer; list = []; table = l.table })

-- without room nothing is called, and every word stays
pub launch-silent : (l : Launch) (answer table : List ℕ) → length answer < answer_words → TellsTable (launch_told l answer table) no_room answer table
unfolding launch_told
launch-silent l answer table short = rw (lt-ltb (length answer) answer_words short) (refl, (refl, refl))

-- of two launches without a second number
either_way : (x : Bool) (a b : Launch) → second a.answer.value ≡ 0 → second b.answer.value ≡ 0 → second (cond x a b).answer.value ≡ 0
either_way true a b p q = p
either_way false a b p q = q

-- a launch has none
no_second : (N hidden start : ℕ) (book file t : List ℕ) → second (launch N hidden start book file t).answer.value ≡ 0
unfolding launch
no_second N hidden start book file t = either_way (refuses (first (launch_tests (length t) N hidden start book (outcome file)))) _ _ refl refl

-- the place is put over the first number of the answer
placed : (l : Launch) (a : Answer) (p : ℕ) (rest : List ℕ) → a ≡ l.answer → p ≡ l.place → second l.answer.value ≡ 0 → set (answer_in a ++ rest) 1 p ≡ launch_in l ++ rest
placed l a p rest e q z = rw (e, q, z)

-- with room it is what the launch gives
pub launch-tells : (N hidden start : ℕ) (book file t answer : List ℕ) → answer_words ≤ length answer → {a : Answer} {p r : ℕ} {run next : List ℕ}
    → (a ≡ (launch N hidden start book file t).answer) × ((p ≡ (launch N hidden start book file t).place) × (next ≡ (launch N hidden start book file t).table))
    → Put a answer r run → TellsTable (launch_told (launch N hidden start book file t) answer t) r (set run 1 p) next
unfolding launch_told
launch-tells N hidden start book file t answer room {a} {p} {r} {run} {next} e w =
    let words : set run 1 p ≡ launch_in (launch N hidden start book file t) ++ drop answer_words answer =
    ap (λ (x : List ℕ). set x 1 p) w.1 ∙ placed (launch N hidden start book file t) a p (drop answer_words answer) e.0 e.1.0 (no_second N hidden start book file t) in
    rw (le-ltb (length answer) answer_words room) (w.0 ∙ ap (λ (x : Answer). number x.reason) e.0, (words, e.1.1))
