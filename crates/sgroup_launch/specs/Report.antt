-- What the launch program says of a book and a file, as far as it is determined. Definitions only. Assumes nothing.
use Rattle.std.specs.Prelude.{cond, List, ℕ, length, replicate}
use Rattle.answers.specs.Answers.{refuses}
use Rattle.semantics.specs.Sizes.{names_per_group, table_words}
use Rattle.launch.specs.Launch.{Launch, launch}
use Rattle.launch_report.specs.Launched.{launched_lines}
use Rattle.refusal_head.specs.Refusal.{refusal_head}
use Rattle.launch_why.specs.declared.Asked.{Asked}

-- the launch of a file with the numbers asked for, into a run of zeros
unfoldable pub launched : Asked → List ℕ → List ℕ → Launch
launched q book file = launch q.n q.hidden q.start book file (replicate (table_words names_per_group) 0)

-- what is said of a launch: all of it where it goes through, and otherwise the reason, the place, and of a slip its line and column in the file of this name
unfoldable pub told : Launch → Asked → List ℕ → List ℕ → List ℕ → List ℕ
told l q book name file =
    cond (refuses l.answer.reason) (refusal_head l.answer.reason l.place q.n book name file) (launched_lines book q.n q.start l.table)

-- how many of r bytes these are: all, or of a refusal those in front of its sentence
unfoldable pub sure : Launch → Asked → List ℕ → List ℕ → List ℕ → ℕ → ℕ
sure l q book name file r = cond (refuses l.answer.reason) (length (told l q book name file)) r

-- what the program says
abbrev pub report : Asked → List ℕ → List ℕ → List ℕ → List ℕ
report q book name file = told (launched q book file) q book name file

abbrev pub report_sure : Asked → List ℕ → List ℕ → List ℕ → ℕ → ℕ
report_sure q book name file r = sure (launched q book file) q book name file r
