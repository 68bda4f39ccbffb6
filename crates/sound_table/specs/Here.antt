-- A sound table: the state that it stands for, how large its head's numbers are, and the words of its s_groups. Assumes nothing.
use Rattle.std.specs.Prelude.{◌≡◌, true, List, ℕ, ◌+◌, ◌≤◌, ◌<◌, length, get_or, take, drop}
use Rattle.std.proofs.Common.{ap, ◌∙◌, arith, length-drop, length-take-le, get_or-take, get_or-drop}
use Rattle.nodes.specs.Sets.{node_limit}
use Rattle.semantics.specs.Sizes.{group_limit, names_per_group, table_words}
use Rattle.semantics.specs.Soundness.{size_of, count_of}
use Rattle.semantics.specs.State.{State}
use Rattle.semantics.specs.Table.{state_of}
use Rattle.semantics.specs.Test.{sound}
use Rattle.semantics.specs.Regular.{Regular}
use Rattle.semantics.specs.WordsOfState.{Laid, size_is, count-is}
use Rattle.semantics.proofs.Agree.{test-regular, test-laid}

-- the state that a table stands for
abbrev pub here : List ℕ → State
here t = state_of names_per_group t

module _ (t : List ℕ) (ok : sound names_per_group t ≡ true) where
  pub regular : Regular names_per_group (here t)
  regular = (test-regular names_per_group t ok).0

  pub base : Laid names_per_group (here t) t
  base = test-laid names_per_group t ok

  pub groups_few : count_of t ≤ group_limit
  groups_few = omega (arith, count-is base, regular.groups_few)

  pub nodes-few : size_of t ≤ node_limit
  nodes-few = omega (arith, size_is base, regular.size_high)

  -- the words of its s_groups, of a section that begins at b
  module _ (long : length t ≡ table_words names_per_group) (b : ℕ) (fits : b + group_limit ≤ table_words names_per_group) (ws : List ℕ)
      (lent : ws ≡ take (count_of t) (drop b t)) where
    pub one-each : length ws ≡ count_of t
    one-each = ap length lent ∙ length-take-le (count_of t) (drop b t) (omega (arith, groups_few, length-drop b t))

    pub word-of : (k : ℕ) → k < count_of t → get_or ws k 0 ≡ get_or t (b + k) 0
    word-of k h = ap (λ (l : List ℕ). get_or l k 0) lent ∙ get_or-take (count_of t) (drop b t) k 0 h ∙ get_or-drop b t k 0
