-- `names::add_name` meets its contract: the words with one name more, and the count in the contents word.
-- Assumes nothing.
use Rattle.std.proofs.Common.{◌≡◌, List, ℕ, ◌-◌, ◌<◌, length, take, drop, arith, le-leb, lt-ltb, length-take-le}
use Rattle.std.proofs.Math.ListN.{length-drop}
use Rattle.std.specs.Prelude.{Result}
use Rattle.std.specs.Result.{IsOk}
use Rattle.entries.specs.Raw.{add_answer}
use Rattle.entries.specs.declared.Refusal.{Refusal}
use Rattle.names.specs.NamesHere.{added-here}
use Rattle.names.proofs.add_name.Goals as goal

-- where there is room
adds : (count : ℕ) (ws : List ℕ) (r : Result Unit Refusal) → count < length ws → r ≡ add_answer count ws → IsOk r
unfolding add_answer
adds count ws r h e = rw (e, le-leb count (length ws) (omega arith), lt-ltb count (length ws))

pub unwrap-requires : goal.unwrap-requires
unwrap-requires c =
    let t = c.args.t.now in
    let b = c.own_words.result.start in
    let e = c.own_words.result.end in
    let long : length (take (e - b) (drop b t)) ≡ e - b = length-take-le (e - b) (drop b t) (omega (arith, length-drop b t)) in
    adds c.name_count-count.result (take (e - b) (drop b t)) c.add.result (omega arith) c.add.ensures.value

pub returns : goal.returns
returns c =
    λ st l w absent.
    added-here l c.args.at w _ _ c.own_words.ensures.start c.own_words.ensures.end c.add.new.ns c.add.auto.ns c.args.n c.args.p
    (rw c.name_count-count.ensures at c.add.ensures.ns_after) c.requires.t_bound absent
