-- `launch_file::to_end` meets its contract: each pair is one turn, and the own pair does not stand there again. Assumes nothing.
use mathlib.Core.Bool.{true}
use Prim.Native.Nat.{◌-◌}
use lib.ListN.{length}
use Rattle.grammar.specs.File.{next_pair}
use Rattle.launch_file.specs.Reading.{list_of}
use Rattle.launch_file.specs.Lists.{Reached}
use Rattle.launch_file.proofs.to_end.Given as goal

abbrev pub invariant-loop-n : goal.invariant-loop-n
invariant-loop-n l = Reached (list_of l.own true) next_pair l.text l.at next_pair l.j

abbrev pub decreases-loop-n : goal.decreases-loop-n
decreases-loop-n l = length l.text - l.j
