-- `launch_report::Atoms::put_groups` meets its contract: the lines of the s_groups that are left are still to be put.
-- Assumes nothing.
use Rattle.std.proofs.Common.{length, take, drop}
use Rattle.semantics.specs.Sizes.{contents_at, members_at}
use Rattle.semantics.specs.Soundness.{count_of}
use Rattle.print.specs.Puts.{Leaves}
use Rattle.launch_report.specs.Launched.{group_lines}
use Rattle.launch_report.specs.Telling.{bare}
use Rattle.launch_report.proofs.Atoms.put_groups.Given as goal

abbrev pub invariant-loop-word : goal.invariant-loop-word
invariant-loop-word l =
    let i = length l.yielded in
    let cs = take (count_of l.table.words.now) (drop contents_at l.table.words.now) in
    let ms = take (count_of l.table.words.now) (drop members_at l.table.words.now) in
    Leaves l.initial.printer l.printer (group_lines l.self.book.now l.self.n (bare cs ms)) (group_lines l.self.book.now l.self.n (bare (drop i cs) (drop i ms)))
