-- The nodes of a group are taken one after another: what the next one makes of the set. Assumes nothing.
use Rattle.std.specs.Prelude.{◌≡◌, List, ℕ, [], ◌∷◌, Ok, Some}
use Rattle.std.proofs.Common.{sym, ap, ◌∙◌}
use Rattle.nodes.specs.Sets.{with_node}
use Rattle.tokens.specs.declared.Atom.{Atom}
use Rattle.walk.specs.Walk.{part, node_at}
use Rattle.walk.specs.Groups.{nodes_by, nodes, pass_by, pass_nodes}
use Rattle.walk.specs.Unfold.{nodes-unfold, pass_nodes-unfold}
use Rattle.walk.specs.declared.Node.{Node}
use Rattle.book.specs.Book.{node_atoms, found_among}
use Rattle.book.specs.Finding.{found_some}
use Rattle.plan.specs.Plan.{set_with}
use Rattle.gathering.specs.Gathering.{Noded}

-- a node on the roster, whose place among the node atoms is i
module _ (N : ℕ) (book t : List ℕ) (at w : ℕ) (a : Atom) (i : ℕ) (place : Some i ≡ found_among (part t a.from a.to) (node_atoms N book))
    (v : ℕ) (with : v ≡ with_node w i) where
  -- behind it another: the others make of the set with it what they make
  pub noded-more : node_at t at ≡ Ok (Node.More a) → (r m : ℕ) → Noded N book t a.past v r m → Noded N book t at w r m
  unfolding set_with
  noded-more n r m h =
      let (here, i_is) = found_some (part t a.from a.to) (node_atoms N book) i place in
      let l : nodes t at ≡ part t a.from a.to ∷ nodes t a.past = nodes-unfold t at ∙ ap (nodes_by t (nodes t)) n in
      record {
        known = rw (l, here) h.known;
        makes = ap (set_with (node_atoms N book) w) l ∙ rw (with, i_is) at h.makes;
        past = pass_nodes-unfold t at ∙ ap (pass_by (pass_nodes t)) n ∙ h.past;
      }

  -- it is the last
  pub noded-last : node_at t at ≡ Ok (Node.Last a) → Noded N book t at w v a.past
  unfolding set_with
  noded-last n =
      let (here, i_is) = found_some (part t a.from a.to) (node_atoms N book) i place in
      let l : nodes t at ≡ part t a.from a.to ∷ [] = nodes-unfold t at ∙ ap (nodes_by t (nodes t)) n in
      record {
        known = rw (l, here);
        makes = ap (set_with (node_atoms N book) w) l ∙ sym (rw i_is at with);
        past = pass_nodes-unfold t at ∙ ap (pass_by (pass_nodes t)) n;
      }
