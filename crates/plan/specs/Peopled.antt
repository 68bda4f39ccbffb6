-- Every group of a launch file has a node, and so has every one that is kept. Assumes nothing.
use Rattle.std.proofs.Math.Path.{◌≡◌, refl}
use Rattle.std.proofs.Common.{sym, ◌∙◌, arith}
use Rattle.std.specs.Prelude.{Result, Ok, Err, Bool, false, ◌&&◌, cond, List, [], ◌∷◌, ◌++◌, ℕ, zero, suc, length}
use Rattle.std.proofs.Math.Bool.{true}
use Rattle.tokens.specs.declared.Atom.{Atom}
use Rattle.grammar.specs.File.{Group}
use Rattle.walk.specs.Walk.{head_at, node_at, entry_at}
use Rattle.walk.specs.Groups.{nodes_by, nodes, pass_by, pass_nodes, group_by, head_by, entry_by, groups_in, groups_from, groups}
use Rattle.walk.specs.Unfold.{nodes-unfold, pass_nodes-unfold}
use Rattle.walk.specs.declared.Node.{Node}
use Rattle.walk.specs.declared.Entry.{Entry}
use Rattle.duplicates.specs.Duplicates.{made, kept_of, kept}
use Rattle.duplicates.specs.Names.{both}

-- there is an atom
abbrev pub some_node : List (List ℕ) → Bool
some_node [] = false
some_node (w ∷ ws) = true

abbrev pub peopled : List Group → Bool
peopled [] = true
peopled (g ∷ gs) = some_node g.nodes && peopled gs

-- where the nodes end, there is one
nodes-some : (t : List ℕ) (m n : ℕ) → pass_nodes t m ≡ Ok n → some_node (nodes t m) ≡ true
nodes-some t m n h = rw (nodes-unfold t m) (go (node_at t m) (sym (pass_nodes-unfold t m) ∙ h))
  where
    go : (x : Result Node ℕ) → pass_by (pass_nodes t) x ≡ Ok n → some_node (nodes_by t (nodes t) x) ≡ true
    go (Ok (Node.More a)) q = refl
    go (Ok (Node.Last a)) q = refl
    go (Err p) q = absurd (let z : ◌≡◌ {A = ℕ} 0 1 = cc in omega arith)

-- a group before others that have nodes
module _ (t : List ℕ) (rest : ℕ → List Group) (others : (n : ℕ) → peopled (rest n) ≡ true) where
  group-peopled : (a : Atom) (r : Result ℕ ℕ) → pass_nodes t a.past ≡ r → peopled (group_by t a rest r) ≡ true
  group-peopled a (Ok n) h = rw (nodes-some t a.past n h) (others n)
  group-peopled a (Err p) h = refl

  head-peopled : (r : Result Atom ℕ) → peopled (head_by t rest r) ≡ true
  head-peopled (Ok a) = group-peopled a (pass_nodes t a.past) refl
  head-peopled (Err p) = refl

  entry-peopled : (x : Result Entry ℕ) → peopled (entry_by t rest x) ≡ true
  entry-peopled (Ok (Entry.Group n)) = head-peopled (head_at t n)
  entry-peopled (Ok (Entry.Closed n)) = refl
  entry-peopled (Err p) = refl

groups_in-peopled : (f : ℕ) (t : List ℕ) (at : ℕ) (begun : Bool) → peopled (groups_in f t at begun) ≡ true
unfolding groups_in
groups_in-peopled zero t at begun = refl
groups_in-peopled (suc f) t at begun = entry-peopled t (λ n. groups_in f t n true) (λ n. groups_in-peopled f t n true) (entry_at t at begun)

pub groups-peopled : (t : List ℕ) (at : ℕ) → peopled (groups t at) ≡ true
unfolding groups_from
groups-peopled t at = groups_in-peopled (suc (length t)) t at false

kept_of-peopled : (all ks gs : List Group) → peopled gs ≡ true → peopled (kept_of all ks gs) ≡ true
kept_of-peopled all ks [] h = refl
kept_of-peopled all ks (g ∷ gs) h =
    let (p, q) = both (some_node g.nodes) (peopled gs) h in
    go (made all ks g.name g.nodes) p (kept_of-peopled all (ks ++ (g ∷ [])) gs q)
  where
    go : (b : Bool) → some_node g.nodes ≡ true → peopled (kept_of all (ks ++ (g ∷ [])) gs) ≡ true
        → peopled (cond b (g ∷ kept_of all (ks ++ (g ∷ [])) gs) (kept_of all (ks ++ (g ∷ [])) gs)) ≡ true
    go true p i = rw p i
    go false p i = i

pub kept-peopled : (gs : List Group) → peopled gs ≡ true → peopled (kept gs) ≡ true
kept-peopled gs h = kept_of-peopled gs [] gs h
