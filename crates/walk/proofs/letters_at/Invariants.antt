-- `walk::letters_at` meets its contract: what is left of the word is read at j. Assumes nothing.
use mathlib.Core.Path.{◌≡◌}
use lib.ListN.{drop}
use Rattle.walk.specs.Walk.{letters_at}
use Rattle.walk.proofs.letters_at.Given as goal

abbrev pub invariant-loop-letter : goal.invariant-loop-letter
invariant-loop-letter l = letters_at l.text l.at l.word ≡ letters_at l.text l.j (drop l.letter-index l.word)
