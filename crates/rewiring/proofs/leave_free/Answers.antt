-- `rewiring::leave_free` meets its contract: every word loses the set, and then each member's word becomes the empty set.
-- Assumes nothing.
use mathlib.Core.Path.{ap, ◌∙◌}
use mathlib.Core.Bool.{cond}
use Prim.Native.Nat.{ℕ}
use Rattle.nodes.specs.Sets.{has, diff}
use Rattle.semantics.specs.Steps.{mapi, leave_free}
use Rattle.rewiring.specs.PlaceByPlace.{mapi-mapi}
use Rattle.rewiring.proofs.leave_free.Goals as goal

-- a word that has lost the nodes of m
abbrev lost : ℕ → ℕ → ℕ → ℕ
lost m i w = diff w m

-- the word of node i, empty for a node of m
abbrev cleared : ℕ → ℕ → ℕ → ℕ
cleared m i w = cond (has m i) 0 w

pub returns : goal.returns
unfolding leave_free
returns c =
    let a = c.args in
    let taken = c.take_out in
    c.fill.ensures ∙ ap (mapi (cleared a.set) 0) taken.ensures ∙ mapi-mapi (cleared a.set) (lost a.set) 0 a.free.now
