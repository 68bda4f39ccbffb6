-- `namespace_test::is_sound` meets its contract: its three passes are the parts of the test.
-- Assumes nothing.
use Rattle.std.proofs.Common.{◌≡◌, refl, sym, ap, ◌∙◌, List, Bool, true, false, ◌&&◌, ℕ, ◌-◌, ◌≤◌, ◌<◌, length, take, drop, le-leb}
use Rattle.std.proofs.lemmas.Bool.{lt-leb}
use Rattle.std.proofs.Math.ListN.{length-drop}
use Rattle.std.proofs.Math.Seq.{take-length}
use Rattle.std.proofs.Math.Bool.{and_assoc, and_comm}
use Rattle.entries.specs.Entries.{entries}
use Rattle.entries.specs.NamespaceSound.{is_ascending, is_distinct, is_hosted, sound_entries, all_zero, sound_words}
use Rattle.entries.specs.Storage.{length-entries}
use Rattle.search.specs.Used.{entries-used}
use Rattle.namespace_test.proofs.is_sound.Goals as goal
use Rattle.namespace_test.proofs.is_sound.Goals.{then-ns-count-via-then-ns-count, then-ns-count-via-else-ns-count+then-not-all_zero, then-ns-count-via-else-ns-count+else-not-all_zero+then-not-hosted}

module _ (size count : ℕ) (ws : List ℕ) where
  past : length ws < count → false ≡ sound_words size count ws
  unfolding sound_words
  past h = rw (lt-leb count (length ws))

  module _ (used : count ≤ length ws) where
    -- the rest of the words is lent
    rest : all_zero (take (length ws - count) (drop count ws)) ≡ all_zero (drop count ws)
    rest = rw (← length-drop count ws, take-length (drop count ws))

    parts : (z h s : Bool) → z ≡ all_zero (take (length ws - count) (drop count ws)) → h ≡ is_hosted size (entries count ws)
        → s ≡ is_ascending 0 (entries count ws) && is_distinct (entries count ws) → z && (h && s) ≡ sound_words size count ws
    unfolding sound_words sound_entries
    parts z h s ez eh es =
        rw (ez, eh, es, rest, length-entries count ws, le-leb count (length ws))
        (regroup (is_ascending 0 (entries count ws)) (is_distinct (entries count ws)) (is_hosted size (entries count ws)) (all_zero (drop count ws)))
      where
        regroup : (a d h z : Bool) → z && (h && (a && d)) ≡ a && (d && h) && z
        regroup a d h z = and_comm z (h && (a && d)) ∙ ap (λ (x : Bool). x && z) (and_comm h (a && d) ∙ and_assoc a d h)

pub returns-then-ns-count : goal.returns-then-ns-count
returns-then-ns-count c =
    let a = c.args in
    elim c.then-ns-count.branch [
      | then-ns-count-via-then-ns-count w ↦ past a.size a.count a.ns.now w.if-ns-count.true
      | then-ns-count-via-else-ns-count+then-not-all_zero w ↦
          parts a.size a.count a.ns.now w.if-ns-count.false false _ _ (sym w.if-not-all_zero.true ∙ w.all_zero.ensures) refl refl
      | then-ns-count-via-else-ns-count+else-not-all_zero+then-not-hosted w ↦
          parts a.size a.count a.ns.now w.if-ns-count.false true false _ (sym w.if-not-all_zero.false ∙ w.all_zero.ensures) (rw (entries-used a.count a.ns.now w.if-ns-count.false) at (sym w.if-not-hosted.true ∙ w.hosted.ensures)) refl
    ]

pub returns : goal.returns
returns c =
    let a = c.args in
    parts a.size a.count a.ns.now c.if-ns-count.false true true c.stamped.result (sym c.if-not-all_zero.false ∙ c.all_zero.ensures) (rw (entries-used a.count a.ns.now c.if-ns-count.false) at (sym c.if-not-hosted.false ∙ c.hosted.ensures)) (rw (entries-used a.count a.ns.now c.if-ns-count.false) at c.stamped.ensures)
