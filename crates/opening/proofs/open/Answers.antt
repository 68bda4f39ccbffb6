-- `opening::open` meets its contract: each refused leaves the run, and an accepted opening writes every word.
-- Assumes nothing.
use borrow.Author.Rules.{rules}
use mathlib.Core.Path.{sym, ap, ◌∙◌}
use mathlib.Core.Bool.{cond}
use mathlib.Core.List.{List}
use Prim.Native.Nat.{ℕ, ◌-◌}
use lib.ListN.{set, take, drop, length-set}
use Rattle.nodes.specs.Sets.{has, diff, with_node}
use Rattle.semantics.specs.Sizes.{free_at, bodies_at}
use Rattle.semantics.specs.Steps.{mapi}
use Rattle.semantics.specs.Call.{Call}
use Rattle.opening.specs.Opening.{lent_length, opened-words, wrong-run, no-nodes, too_many, stranger, accepted}
use Rattle.opening.proofs.open.Goals as goal

pub returns-then-t-ne-TABLE_WORDS : goal.returns-then-t-ne-TABLE_WORDS
returns-then-t-ne-TABLE_WORDS c =
    let a = c.args in
    let e = wrong-run a.n a.hidden a.t.now c.if-t-ne-TABLE_WORDS.true in
    record { value = c.refused.ensures ∙ sym (ap (λ (x : Call). x.answer) e); t_after = sym (ap (λ (x : Call). x.table) e) }

pub returns-then-n-lt1 : goal.returns-then-n-lt1
returns-then-n-lt1 c =
    let a = c.args in
    let e = no-nodes a.n a.hidden a.t.now c.if-t-ne-TABLE_WORDS.false c.if-n-lt1.true in
    record { value = c.refused-then-n-lt1.ensures ∙ sym (ap (λ (x : Call). x.answer) e); t_after = sym (ap (λ (x : Call). x.table) e) }

pub returns-then-n-gt-NODE_LIMIT : goal.returns-then-n-gt-NODE_LIMIT
returns-then-n-gt-NODE_LIMIT c =
    let a = c.args in
    let e = too_many a.n a.hidden a.t.now c.if-t-ne-TABLE_WORDS.false c.if-n-lt1.false c.if-n-gt-NODE_LIMIT.true in
    record { value = c.refused-then-n-gt-NODE_LIMIT.ensures ∙ sym (ap (λ (x : Call). x.answer) e); t_after = sym (ap (λ (x : Call). x.table) e) }

pub returns-then-beyond : goal.returns-then-beyond
returns-then-beyond c =
    let a = c.args in
    let e = stranger a.n a.hidden a.t.now c.if-t-ne-TABLE_WORDS.false c.if-n-lt1.false c.if-n-gt-NODE_LIMIT.false (sym c.beyond.ensures ∙ c.if-beyond.true) in
    record { value = c.refused-then-beyond.ensures ∙ sym (ap (λ (x : Call). x.answer) e); t_after = sym (ap (λ (x : Call). x.table) e) }

pub bounds-t-1 : goal.bounds-t-1
bounds-t-1 c = simp length-set (search rules)

pub slice_bounds-alone-end : goal.slice_bounds-alone-end
slice_bounds-alone-end c = simp length-set (search rules)

pub shape_of-t : goal.shape_of-t
shape_of-t c =
    let a = c.args in
    let u = set (set c.clear.new.run 0 a.n) 1 a.hidden in
    lent_length free_at (bodies_at - free_at) u c.alone.new.words c.alone.auto.words ∙ simp length-set c.clear.auto.run

pub returns : goal.returns
returns c =
    let a = c.args in
    let t = c.args.t.now in
    let u = set (set c.clear.new.run 0 a.n) 1 a.hidden in
    let part = take (bodies_at - free_at) (drop free_at u) in
    let loose = c.diff.ensures ∙ ap (λ (s : ℕ). diff s a.hidden) c.roster.ensures in
    let lone = c.alone.ensures ∙ ap (λ (s : ℕ). mapi (λ i w. cond (has s i) (with_node 0 i) w) 0 part) loose in
    let long = c.if-t-ne-TABLE_WORDS.false in
    let e = accepted a.n a.hidden t long c.if-n-lt1.false c.if-n-gt-NODE_LIMIT.false (sym c.beyond.ensures ∙ c.if-beyond.false) in record {
      value = c.done.ensures ∙ sym (ap (λ (x : Call). x.answer) e);
      t_after = opened-words a.n a.hidden c.if-n-gt-NODE_LIMIT.false t u c.alone.new.words long (ap (λ (x : List ℕ). set (set x 0 a.n) 1 a.hidden) c.clear.ensures) c.alone.auto.words lone
          ∙ sym (ap (λ (x : Call). x.table) e);
    }
