-- `values::skip_list` and `values::skip_tuple` meet their contracts: the measure of both is the depth that is left.
-- Assumes nothing.
use Rattle.std.proofs.Common.{◌-◌, length}
use Rattle.grammar.specs.File.{list, tuple, closing}
use Rattle.values.specs.Skips.{Between}
use Rattle.values.proofs.+skip_list_skip_tuple.Given as goal

abbrev pub decreases-skip_list : goal.decreases-skip_list
decreases-skip_list l = l.depth

abbrev pub decreases-skip_tuple : goal.decreases-skip_tuple
decreases-skip_tuple l = l.depth

abbrev pub invariant-skip_list-loop-at : goal.invariant-skip_list-loop-at
invariant-skip_list-loop-at l = Between (closing list) l.text l.at l.depth l.j l.opened

abbrev pub decreases-skip_list-loop-at : goal.decreases-skip_list-loop-at
decreases-skip_list-loop-at l = length l.text - l.j

abbrev pub invariant-skip_tuple-loop-at : goal.invariant-skip_tuple-loop-at
invariant-skip_tuple-loop-at l = Between (closing tuple) l.text l.at l.depth l.j l.opened

abbrev pub decreases-skip_tuple-loop-at : goal.decreases-skip_tuple-loop-at
decreases-skip_tuple-loop-at l = length l.text - l.j
