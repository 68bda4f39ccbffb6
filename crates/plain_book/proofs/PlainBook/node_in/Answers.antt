-- `PlainBook::node_in` meets its contract: a place behind the nodes is that of none. Assumes nothing.
use Rattle.book.specs.Finding.{node-missed}
use Rattle.plain_book.proofs.PlainBook.node_in.Goals as goal

pub returns-then-self-at : goal.returns-then-self-at
returns-then-self-at c = node-missed _ _ _ c.args.self.now.fits _ c.in_ok-at.ensures c.if-self-at.true
