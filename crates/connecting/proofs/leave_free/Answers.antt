-- `connecting::leave_free` meets its contract: the roster's words of the free groups are lent and put back.
-- Assumes nothing.
use Rattle.semantics.specs.WordsOfState.{size_is}
use Rattle.connecting.specs.Freeing.{left-free}
use Rattle.connecting.proofs.leave_free.Goals as goal

pub returns : goal.returns
returns c = λ st l z.
    let d = c.leave_free in
    left-free l z c.args.set _ d.new.free (size_is l) c.requires.t_bound d.auto.free d.ensures
