-- `book_index::clear` meets its contract. Assumes nothing.
use Rattle.std.proofs.Common.{arith, length-take-le}
use Rattle.book_index.specs.Layout.{cleared}
use Rattle.book_index.proofs.clear.Goals as goal

pub returns : goal.returns
unfolding cleared
returns c = rw (c.fill.ensures.after (λ y e. e), length-take-le 256 c.args.index.now (omega arith))
