-- The request that a line is. Assumes nothing.
use Rattle.std.specs.Prelude.{Bool, cond, List, ℕ, ◌-◌, eqb, leb, length, Option, Some, None}
use Rattle.commands.specs.declared.Command as Commands
use Rattle.semantics.specs.Test.{same}
use Rattle.text.specs.Text.{bytes, fields, field}
use Rattle.text.specs.Numbers.{numeral, narrow}
use Rattle.forms.specs.Forms.{number_of, command_of, takes_set}
use Rattle.line.specs.declared.Request.{Request}
use Rattle.line.specs.declared.Request.TheVariants.{Open, Command}

-- a line holds at most this many bytes before its newline
abbrev pub line_limit : ℕ
line_limit = 120

-- the number in field i, which is 0 where there are fewer
unfoldable pub number_in : ℕ → List (List ℕ) → Option ℕ
number_in i fs = cond (leb (length fs) i) (Some 0) (numeral (field i fs))

-- opening N nodes, where both are numbers of their widths
abbrev pub open_with : Option ℕ → Option ℕ → Option Request
open_with (Some n) (Some hidden) = Some (Open n hidden)
open_with (Some n) None = None
open_with None hidden = None

-- `open N HIDDEN`
unfoldable pub open_line : List (List ℕ) → Option Request
open_line fs = cond (eqb (length fs) 3) (open_with (narrow (numeral (field 1 fs))) (numeral (field 2 fs))) None

-- the command of a caller, where the form is one
abbrev pub formed_line : ℕ → Option Commands.Command → Option Request
formed_line i (Some c) = Some (Command i c)
formed_line i None = None

-- the command of a number, where its caller and arguments are numbers of their widths
abbrev pub command_with : ℕ → Option ℕ → Option ℕ → Option ℕ → Option ℕ → Option ℕ → Option Request
command_with k (Some i) (Some a) (Some b) (Some c) (Some set) = formed_line i (command_of k a b c set)
command_with k (Some i) (Some a) (Some b) (Some c) None = None
command_with k (Some i) (Some a) (Some b) None set = None
command_with k (Some i) (Some a) None c set = None
command_with k (Some i) None b c set = None
command_with k None a b c set = None

-- the command of a number with its caller, three arguments as they stand, and whether the second is a set of nodes; what is not taken is 0
unfoldable pub command_by : Bool → ℕ → Option ℕ → Option ℕ → Option ℕ → Option ℕ → Option Request
command_by t k i a b c =
    cond t
    (command_with k (narrow i) (narrow a) (Some 0) (narrow c) b)
    (command_with k (narrow i) (narrow a) (narrow b) (narrow c) (Some 0))

-- the command of a number on a line: its caller is field 0, its arguments begin in field 2
unfoldable pub numbered_line : ℕ → List (List ℕ) → Option Request
numbered_line k fs =
    command_by (takes_set k) k (number_in 0 fs) (number_in 2 fs) (number_in 3 fs) (number_in 4 fs)

-- CALLER COMMAND ARGUMENTS: two fields and the arguments
unfoldable pub command_line : List (List ℕ) → Option Request
command_line fs = cond (leb 2 (length fs)) (numbered_line (number_of (field 1 fs) (length fs - 2)) fs) None

-- a line that begins with `open` opens, any other is a command
unfoldable pub request_in : List (List ℕ) → Option Request
request_in fs = cond (same (field 0 fs) (bytes "open")) (open_line fs) (command_line fs)

-- the request that a line is: its bytes without the newline
unfoldable pub request_of : List ℕ → Option Request
request_of s = cond (leb (length s) line_limit) (request_in (fields s)) None
