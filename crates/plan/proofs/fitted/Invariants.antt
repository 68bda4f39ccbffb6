-- `plan::fitted` meets its contract: between two groups, what is kept of those before is counted, known and written. Assumes nothing.
use Prim.Native.Nat.{◌≤◌}
use Rattle.std.proofs.Common.{◌≡◌, false, map, drop}
use Rattle.std.specs.Iterator.Adapters.{enumerate_count, enumerate_source}
use Rattle.pairs.specs.Woven.{woven}
use Rattle.walk.specs.Groups.{groups}
use Rattle.duplicates.specs.Next.{group_of}
use Rattle.duplicates.specs.Along.{places, places_left}
use Rattle.plan.specs.Turns.{Taken}
use Rattle.plan.proofs.fitted.Given as goal

abbrev pub invariant-loop-count : goal.invariant-loop-count
invariant-loop-count l =
    let n = enumerate_count l.count-iterator in
    let left = places_left (enumerate_source l.count-iterator) in
    (l.k ≤ n) × (left ≡ drop n (places l.text l.g false))
    × Taken l.book.nodes l.book.text.now (groups l.text l.g) (map (group_of l.text) left) n l.k (woven l.plan)
