-- What a script line makes of a state, and what its caller hears then. Definitions only. Assumes nothing.
use Rattle.std.specs.Prelude.{◌≢◌, ℕ, ◌+◌, ◌≤◌, length}
use Rattle.semantics.specs.Sizes.{group_limit}
use Rattle.semantics.specs.State.{State}
use Rattle.semantics.specs.GroupCommands.{within}
use Rattle.semantics.specs.Steps.{Result, step}
use Rattle.semantics.specs.Given.{Call}
use Rattle.semantics.specs.Lines.{Said, Line}

-- what a call says
abbrev pub said_by_call : Call → Said
said_by_call c = record { answer = c.answer; list = c.list }

-- what a step says
abbrev pub said_by_step : Result → Said
said_by_step r = record { answer = r.answer; list = r.list }

-- the step of a line
abbrev pub step_of : Line → State → Result
step_of l st = step l.room l.caller (within l.command) st

-- the state after a line
abbrev pub step_move : Line → State → State
step_move l st = (step_of l st).next

-- what a line's caller hears
abbrev pub step_say : Line → State → Said
step_say l st = said_by_step (step_of l st)

-- there is room for n s_groups more, where n is not zero
abbrev pub RoomFor : ℕ → State → Type 0
RoomFor n st = n ≢ 0 → length st.groups + n ≤ group_limit
