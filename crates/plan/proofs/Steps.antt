-- The laws that the functions' proofs rest on, by function. Assumes nothing.
use Rattle.plan.specs.Looked.{woven-put, put-none, members-missed, members-found, members-ended, entered-missed, entered-strange, entered-found}

-- the nodes of a group, one after another
pub ruleset member_steps = (members-missed, members-found, members-ended)

-- a group: its name first, then its nodes
pub ruleset entered_steps = (entered-missed, entered-strange, entered-found)

-- a group that is written, where there is room
pub ruleset put_steps = (woven-put, put-none)
