-- `book::seek` meets its contract: the first line that is the atom. Assumes nothing.
use Rattle.std.proofs.Common.{rules, tests, arith, inl}
use mathlib.Core.Path.{refl, ◌∙◌}
use Rattle.std.proofs.lemmas.Iterator.Consumers.{YieldsList-from_first}
use Rattle.std.proofs.lemmas.Iterator.Search.{position_from_yields_List}
use Rattle.tokens.specs.Reserved.{same}
use Rattle.book.specs.Book.{lines}
use Rattle.book.specs.Left.{lines_left}
use Rattle.book.specs.LineLaws.{lines-count}
use Rattle.book.specs.PlaceLaws.{found_position}
use Rattle.book.proofs.seek.Goals as goal

pub position-requires-clause-fits : goal.position-requires-clause-fits
position-requires-clause-fits c = inl (omega (arith, lines-count c.args.book.now))

pub returns : goal.returns
returns c =
    position_from_yields_List (same c.args.atom.now) c.position.new.self _ c.position.result c.position.ensures.ran (YieldsList-from_first (λ x. x.now) lines_left (lines c.args.book.now) refl) (λ x b q h. search (rules, tests))
    ∙ found_position c.args.atom.now (lines c.args.book.now)
