-- `Book::place` meets its contract: a line stands once, so that a line that is the atom is the place. Assumes nothing.
use Rattle.book.specs.Hinting.{fit-distinct}
use Rattle.book.specs.Finding.{found-own}
use Rattle.book.proofs.Book.place.Goals as goal

pub returns-in-Some : goal.returns-in-Some
returns-in-Some c =
    let f = c.in-Some.ensures in
    found-own _ _ _ (fit-distinct _ _ c.args.self.now.indexed.noted.fits) f.1 f.2
