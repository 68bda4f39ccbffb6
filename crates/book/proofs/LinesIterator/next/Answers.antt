-- `Lines::next` meets its contract: the first newline decides. Assumes nothing.
use Rattle.std.proofs.Common.{List, ℕ, ◌+◌, length, arith, sym, ap, ◌∙◌, length-take-le}
use borrow.Author.Rules.{part_to_end}
use Rattle.book.specs.Book.{lines}
use Rattle.book.specs.LineLaws.{lines-next, line-within}
use Rattle.book.proofs.LinesIterator.next.Goals as goal

pub slice_bounds-line-end : goal.slice_bounds-line-end
slice_bounds-line-end c = let l = line-within _ _ c.in_ok-end.ensures in sym (length-take-le _ _ (omega arith))

pub returns-clause-steps : goal.returns-clause-steps
returns-clause-steps c = lines-next _ _ c.in_ok-end.ensures ∙ rw part_to_end

pub returns-clause-goes : goal.returns-clause-goes
returns-clause-goes c =
    let t = c.args.self.now.rest.now in
    let e = c.in_ok-end.end in
    record {
      on = λ _. (tt, tt, omega (arith, ap length (lines-next t e c.in_ok-end.ensures), ap (λ (s : List ℕ). length (lines s)) (part_to_end t (e + 1))));
      keeps = tt;
      rests = λ _. tt;
    }
