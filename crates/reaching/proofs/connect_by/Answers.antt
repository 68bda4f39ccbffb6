-- `reaching::connect_by` meets its contract: the caller connects with the node on the way, and in the state of then with the host.
-- Assumes nothing.
use Rattle.semantics.specs.Connected.{regular-connect}
use Rattle.reaching.proofs.connect_by.Goals as goal

pub returns : goal.returns
returns c = λ st l w i j.
    let a = c.args in
    c.connect-2.ensures _ (c.connect.ensures st l w) (regular-connect w a.caller a.way i j)
