-- `tokens::listed` meets its contract: the word is yet to be found among the words that are left. Assumes nothing.
use Rattle.std.proofs.Common.{◌≡◌, drop}
use Rattle.tokens.specs.Reserved.{among, is_reserved}
use Rattle.tokens.proofs.listed.Given as goal

abbrev pub invariant-loop-w : goal.invariant-loop-w
invariant-loop-w g l = is_reserved l.word ≡ among (drop l.w-index l.words) l.word
