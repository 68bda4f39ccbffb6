-- `own::own_set` meets its contract: its free group, or the members of its s_groups, or itself.
-- Assumes nothing.
use mathlib.Core.Path.{◌∙◌}
use Rattle.nodes.specs.Sets.{single}
use Rattle.nodes.proofs.SetLaws.{with_node-in, none-union}
use Rattle.own.proofs.OwnGroups.{own_free, own-shared, own_alone}
use Rattle.own.proofs.own_set.Goals as goal

pub returns-then-free-ne0 : goal.returns-then-free-ne0
returns-then-free-ne0 c =
    own_free c.args.t.words.now c.args.t.fit c.args.node c.requires c.if-free-ne0.true

pub returns-then-all-ne0 : goal.returns-then-all-ne0
returns-then-all-ne0 c =
    own-shared c.args.t.words.now c.args.t.fit c.args.node c.requires c.if-free-ne0.false c.shared_members-all.result (rw c.members.ensures at c.shared_members-all.ensures) c.if-all-ne0.true

pub returns : goal.returns
returns c =
    c.with.ensures ∙ with_node-in 0 c.args.node c.requires ∙ none-union (single c.args.node)
    ∙ own_alone c.args.t.words.now c.args.t.fit c.args.node c.requires c.if-free-ne0.false c.shared_members-all.result (rw c.members.ensures at c.shared_members-all.ensures) c.if-all-ne0.false
