-- What a request prints, and the table after it. Definitions only. Assumes nothing.
use Rattle.std.specs.Prelude.{List, ℕ, Option, Some, None}
use Rattle.semantics.specs.Call.{Call, call, opening}
use Rattle.line.specs.declared.Request.{Request}
use Rattle.line.specs.declared.Request.TheVariants.{Open, Command}
use Rattle.print.specs.Printed.{answer_line, bad_line}

-- the run that is lent for a list has so many words
abbrev pub list_room : ℕ
list_room = 64

-- what is printed, and the table after it
pub record Turn : Type 0 where
  pub text : List ℕ
  pub table : List ℕ

-- a call prints the line of its answer
abbrev pub printed_call : Call → Turn
printed_call c = record { text = answer_line c.list c.answer; table = c.table }

-- this is printed, and nothing changes
abbrev pub says : List ℕ → List ℕ → Turn
says text t = record { text = text; table = t }

-- a request is called; a line that is none is bad
unfoldable pub request_turn : List ℕ → Option Request → Turn
request_turn t (Some (Open N hidden)) = printed_call (opening N hidden t)
request_turn t (Some (Command caller c)) = printed_call (call list_room caller c t)
request_turn t None = says bad_line t
