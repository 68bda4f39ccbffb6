-- The next group of a list of groups, and the walk along the groups step by step; nodes that are tested one by one. Assumes nothing.
use Rattle.std.specs.Prelude.{◌≡◌, refl, Option, Some, None, Result, Ok, Err, Bool, true, ◌&&◌, ◌||◌, List, [], ◌∷◌, ℕ, ◌<◌}
use Rattle.std.specs.List.{list_any, list_all}
use Rattle.std.proofs.Common.{ap}
use native.Mathlib.Omega.{arith}
use Rattle.tokens.specs.Reserved.{same, among}
use Rattle.tokens.specs.declared.Atom.{Atom}
use Rattle.grammar.specs.File.{Group as Named}
use Rattle.walk.specs.Walk.{part, head_at, entry_at}
use Rattle.walk.specs.Groups.{nodes, pass_nodes, group_by, head_by, entry_by, groups_from}
use Rattle.walk.specs.Unfold.{IsAhead, IsInside, StepOn, AtomOn, EntryOn, head-on, entry_at-on, pass_nodes-on, groups-unfold}
use Rattle.walk.specs.declared.Entry.{Entry}
use Rattle.duplicates.specs.Duplicates.{covered}
use Rattle.duplicates.specs.declared.Group.{Group}

-- ---- the next group

-- whose front was read, by what stands behind its nodes
abbrev pub found_nodes : Atom → Result ℕ ℕ → Option Group
found_nodes a (Ok n) = Some (record { from = a.from; to = a.to; nodes = a.past; past = n })
found_nodes a (Err p) = None

abbrev pub found_head : List ℕ → Result Atom ℕ → Option Group
found_head t (Ok a) = found_nodes a (pass_nodes t a.past)
found_head t (Err p) = None

abbrev pub found_entry : List ℕ → Result Entry ℕ → Option Group
found_entry t (Ok (Entry.Group n)) = found_head t (head_at t n)
found_entry t (Ok (Entry.Closed n)) = None
found_entry t (Err p) = None

unfoldable pub next_group : List ℕ → ℕ → Bool → Option Group
next_group t at begun = found_entry t (entry_at t at begun)

-- ---- the groups from a place on are the next one and those behind it

-- a group of the text: its name and its nodes
abbrev pub group_of : List ℕ → Group → Named
group_of t g = record { name = part t g.from g.to; nodes = nodes t g.nodes }

abbrev pub AtGroup : List ℕ → ℕ → Bool → Option Group → Type 0
AtGroup t at begun (Some g) = (groups_from t at begun ≡ group_of t g ∷ groups_from t g.past true) × IsAhead t at g.past × IsInside t g.from g.to
AtGroup t at begun None = groups_from t at begun ≡ []

next-is : (t : List ℕ) (at : ℕ) (begun : Bool) → AtGroup t at begun (next_group t at begun)
unfolding next_group
next-is t at begun = entry (entry_at t at begun) (groups-unfold t at begun) (entry_at-on t at begun)
  where
    behind : (a : Atom) → at < a.past → IsInside t a.from a.to → (r : Result ℕ ℕ) → groups_from t at begun ≡ group_by t a (λ n. groups_from t n true) r → StepOn t a.past r
        → AtGroup t at begun (found_nodes a r)
    behind a l i (Ok n) g o = (g, (omega arith, o.1), i)
    behind a l i (Err p) g o = g

    front : (k : ℕ) → at < k → (r : Result Atom ℕ) → groups_from t at begun ≡ head_by t (λ n. groups_from t n true) r → AtomOn t k r → AtGroup t at begun (found_head t r)
    front k l (Ok a) g o = behind a (omega arith) o.1 (pass_nodes t a.past) g (pass_nodes-on t a.past)
    front k l (Err p) g o = g

    entry : (x : Result Entry ℕ) → groups_from t at begun ≡ entry_by t (λ n. groups_from t n true) x → EntryOn t at x → AtGroup t at begun (found_entry t x)
    entry (Ok (Entry.Group k)) g o = front k o.0 (head_at t k) g (head-on t k)
    entry (Ok (Entry.Closed n)) g o = g
    entry (Err p) g o = g

pub group-next : (t : List ℕ) (at : ℕ) (begun : Bool) (g : Group) → next_group t at begun ≡ Some g → AtGroup t at begun (Some g)
group-next t at begun g e = rw e at (next-is t at begun)

pub group-none : (t : List ℕ) (at : ℕ) (begun : Bool) → next_group t at begun ≡ None → groups_from t at begun ≡ []
group-none t at begun e = rw e at (next-is t at begun)

-- ---- nodes, by tests of each

pub any-among : (w : List ℕ) (ws : List (List ℕ)) → list_any (same w) ws ≡ among ws w
unfolding among
any-among w [] = refl
any-among w (x ∷ xs) = ap (λ r. same w x || r) (any-among w xs)

pub all-covered : (ws vs : List (List ℕ)) → list_all (among vs) ws ≡ covered ws vs
all-covered [] vs = refl
all-covered (w ∷ ws) vs = ap (λ r. among vs w && r) (all-covered ws vs)
