-- `book::among_first` meets its contract: the atom is none of the lines passed. Assumes nothing.
use mathlib.Core.Path.{◌≡◌}
use mathlib.Core.Bool.{false}
use lib.ListN.{take}
use Rattle.tokens.specs.Reserved.{among}
use Rattle.book.specs.Book.{lines}
use Rattle.book.proofs.among_first.Given as goal

abbrev pub invariant-loop-j : goal.invariant-loop-j
invariant-loop-j l = among (take l.j (lines l.book)) l.atom ≡ false
