-- Script lines of the seven commands of `GroupCommands`: what each makes of a table, and what its caller hears. Definitions only. Assumes nothing.
use Rattle.std.specs.Prelude.{◌≡◌, false, List, ℕ}
use Rattle.semantics.specs.Ranges.{bad_group}
use Rattle.semantics.specs.GroupCommands.{GroupCommand, within, target}
use Rattle.semantics.specs.Fits.{Fits}
use Rattle.semantics.specs.Call.{Call, call}
use Rattle.answers.specs.declared.Answer.{Answer}

-- what a caller hears: the answer and the words of its list
pub record Said : Type 0 where
  pub answer : Answer
  pub list : List ℕ

-- a line: the caller, how many words the run for its list has, the command
pub record Line : Type 0 where
  pub caller : ℕ
  pub room : ℕ
  pub command : GroupCommand

-- the number that a line gives as its s_group's name
abbrev pub key : Line → ℕ
key l = target l.command

-- two lines name one s_group: a number out of range is no s_group's name
abbrev pub SameGroup : Line → Line → Type 0
SameGroup a b = (bad_group (key a) ≡ false) × (key a ≡ key b)

-- the arguments of a line fit
abbrev pub LineFits : Line → Type 0
LineFits l = Fits (within l.command)

-- the call of a line
abbrev pub call_of : Line → List ℕ → Call
call_of l t = call l.room l.caller (within l.command) t

-- the table after a line
abbrev pub call_move : Line → List ℕ → List ℕ
call_move l t = (call_of l t).table

-- what a line's caller hears
abbrev pub call_say : Line → List ℕ → Said
call_say l t = record { answer = (call_of l t).answer; list = (call_of l t).list }
