-- `connecting::connect` meets its contract: each return is one case of connecting.
-- Assumes nothing.
use mathlib.Core.Path.{sym, subst}
use Rattle.semantics.specs.Sizes.{names_per_group}
use Rattle.semantics.specs.State.{State}
use Rattle.semantics.specs.WordsOfState.{Laid}
use Rattle.connecting.specs.PairConnected.{connect-same, pair-connected, connected-already, groups-connected}
use Rattle.connecting.proofs.connect.Goals as goal

pub returns-then-a-b : goal.returns-then-a-b
returns-then-a-b c = λ st l w.
    let a = c.args in
    subst (λ (x : State). Laid names_per_group x a.t.now) (sym (connect-same a.a a.b st c.if-a-b.true)) l

pub returns-then-x-y : goal.returns-then-x-y
returns-then-x-y c = λ st l w.
    pair-connected l c.args.a c.args.b c.requires.a_lt_node_limit c.requires.b_lt_node_limit c.if-a-b.false c.link.new.t c.if-x-y.true (c.link.ensures st l)

pub returns-then-x-y-2 : goal.returns-then-x-y-2
returns-then-x-y-2 c = λ st l w.
    connected-already l c.args.a c.args.b c.requires.a_lt_node_limit c.requires.b_lt_node_limit c.if-a-b.false c.if-x-y.false w c.if-x-y-2.true

pub returns : goal.returns
returns c = λ st l w.
    groups-connected l c.args.a c.args.b c.requires.a_lt_node_limit c.requires.b_lt_node_limit c.if-a-b.false c.if-x-y.false c.union.result c.merge.new.t
    c.union.ensures (c.merge.ensures st l)
