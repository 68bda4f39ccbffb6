-- `launch_file::to_own` meets its contract: each pair is one turn, and the list does not end in front of its own pair. Assumes nothing.
use mathlib.Core.Bool.{false, cond}
use Prim.Native.Nat.{◌-◌}
use lib.ListN.{length}
use Rattle.grammar.specs.File.{first_pair, next_pair}
use Rattle.launch_file.specs.Reading.{list_of}
use Rattle.launch_file.specs.Lists.{Reached}
use Rattle.launch_file.proofs.to_own.Given as goal

abbrev pub invariant-loop-n : goal.invariant-loop-n
invariant-loop-n l = Reached (list_of l.own false) first_pair l.text l.at (cond l.begun next_pair first_pair) l.j

abbrev pub decreases-loop-n : goal.decreases-loop-n
decreases-loop-n l = length l.text - l.j
