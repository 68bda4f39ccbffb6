-- What the functions' proofs rest on: the laws of a list's pairs one by one, and of a file's end. Assumes nothing.
use Rattle.launch_file.specs.Lists.{ends_read, no_end, reached-here, reached-other, own-stops, own-entered, own_open, end-stops, end-once, end-left}
use Rattle.launch_file.proofs.Exits.{handed_on}

-- the pairs up to a list's own one
pub ruleset own_steps = (handed_on, reached-here, reached-other, own-stops, own-entered, own_open)

-- those behind it
pub ruleset end_steps = (handed_on, reached-here, reached-other, end-stops, end-once, end-left)

-- whether a file ends behind its groups
pub ruleset ends_steps = (ends_read, no_end)
