-- What a call gives, and what it leaves in the run that is lent for a list. Definitions only. Assumes nothing.
use Rattle.std.specs.Prelude.{List, [], ◌++◌, ℕ, length, drop}
use Rattle.answers.specs.Answers.{answer_of}
use Rattle.answers.specs.declared.Answer.{Answer}
use Rattle.answers.specs.declared.Value.TheVariants.{Error}
use Rattle.answers.specs.declared.Reason.{Reason}

-- the answer, the words of its list, and the table after it
pub record Call : Type 0 where
  pub answer : Answer
  pub list : List ℕ
  pub table : List ℕ

-- Error, and every word as it was
abbrev pub refused : Reason → List ℕ → Call
refused r t = record { answer = answer_of Error r; list = []; table = t }

-- the run that is lent for a list, after it: only the list's words are written
abbrev pub listed_over : List ℕ → List ℕ → List ℕ
listed_over list out = list ++ drop (length list) out
