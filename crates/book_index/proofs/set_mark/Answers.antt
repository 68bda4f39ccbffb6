-- `book_index::set_mark` meets its contract. Assumes nothing.
use Rattle.std.proofs.Common.{◌%◌, arith}
use Rattle.book_index.specs.LayoutLaws.{with-bit}
use Rattle.book_index.proofs.set_mark.Goals as goal

pub overflow_cast-index : goal.overflow_cast-index
overflow_cast-index c = record { fits = rw c.with-more.ensures (with-bit c.from-bits.result (c.args.mark % 8) (omega arith) (omega arith)) }
