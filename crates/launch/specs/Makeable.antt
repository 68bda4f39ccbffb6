-- Groups that fit give words that can be made: their numbers name s_groups and differ, and their sets are on the roster and not empty. Assumes nothing.
use Rattle.std.specs.Prelude.{◌≡◌, Bool, not, ◌||◌, cond, ℕ, suc, ◌*◌, ◌^◌, ◌≤◌, ◌<◌, length}
use Rattle.std.proofs.Math.Path.{refl, sym, ap}
use Rattle.std.proofs.Common.{◌∙◌, le_refl, arith}
use Rattle.std.proofs.Math.Bool.{true, false, true≢false}
use mathlib.Core.List.{List, [], ◌∷◌}
use Rattle.std.proofs.Math.ListN.{get_or}
use Rattle.std.proofs.Math.Pow.{pow_pos, pow-lt}
use borrow.Author.Tests.{ltb-true, lt-leb, ne_eqb, not-true}
use Rattle.nodes.specs.Sets.{node_limit, single, with_node}
use Rattle.nodes.proofs.SetLaws.{with_node-in, union-lt, subset-le, subset-union, subset-union-r}
use Rattle.semantics.specs.Sizes.{group_names}
use Rattle.semantics.specs.Ranges.{bad_group}
use Rattle.tokens.specs.Reserved.{same, among}
use Rattle.tokens.specs.Words.{same_eq, same_refl}
use Rattle.grammar.specs.File.{Group}
use Rattle.book.specs.Book.{fit, place_of, node_atoms, group_atoms_of}
use Rattle.book.specs.PlaceLaws.{place-among}
use Rattle.duplicates.specs.Duplicates.{covered, named}
use Rattle.duplicates.specs.Names.{both, neither, apart}
use Rattle.plan.specs.Plan.{number_of, set_with, set_of, listed, all_listed, plan_words}
use Rattle.plan.specs.Looked.{fit-nodes}
use Rattle.plan.proofs.Creatable.{number-high}
use Rattle.plan.specs.Peopled.{some_node, peopled}
use Rattle.creating.specs.Creations.{differs, makeable}

-- ---- sets

module _ (N : ℕ) (small : N ≤ node_limit) (atoms : List (List ℕ)) (size : length atoms ≡ N) where
  -- an atom of the nodes has its place on the roster
  on_roster : (a : List ℕ) → among atoms a ≡ true → place_of a atoms < N
  on_roster a h = omega (arith, ltb-true (place_of a atoms) (length atoms) (place-among a atoms ∙ h))

  -- one node more: the set is no smaller, nor is the node's own, and it stays on the roster
  one_more : (w i : ℕ) → i < N → w < 2 ^ N → (w ≤ with_node w i) × (single i ≤ with_node w i) × (with_node w i < 2 ^ N)
  one_more w i n l =
      rw (with_node-in w i (omega arith))
      (subset-le w _ (subset-union w (single i)), subset-le (single i) _ (subset-union-r w (single i)), union-lt N w (single i) l (pow-lt n))

  -- with every one of the atoms it grows, and stays on the roster
  grows : (ws : List (List ℕ)) (w : ℕ) → covered ws atoms ≡ true → w < 2 ^ N → (w ≤ set_with atoms w ws) × (set_with atoms w ws < 2 ^ N)
  unfolding set_with
  grows [] w c l = (le_refl w, l)
  grows (a ∷ ws) w c l =
      let p = both (among atoms a) (covered ws atoms) c in
      let m = one_more w (place_of a atoms) (on_roster a p.0) l in
      let r = grows ws (with_node w (place_of a atoms)) p.1 m.2 in
      (omega (arith, m.0, r.0), r.1)

  -- where there is an atom, there is a node
  has-node : (ws : List (List ℕ)) → covered ws atoms ≡ true → some_node ws ≡ true → 1 ≤ set_with atoms 0 ws
  unfolding set_with
  has-node [] c h = absurd (true≢false (sym h))
  has-node (a ∷ ws) c h =
      let p = both (among atoms a) (covered ws atoms) c in
      let m = one_more 0 (place_of a atoms) (on_roster a p.0) (pow_pos N) in
      omega (arith, pow_pos (place_of a atoms), m.1, (grows ws (with_node 0 (place_of a atoms)) p.1 m.2).0)

-- ---- numbers

-- two words a group
pub two-each : (N : ℕ) (book : List ℕ) (gs : List Group) → length (plan_words N book gs) ≡ 2 * length gs
unfolding plan_words
two-each N book [] = refl
two-each N book (g ∷ gs) = omega (arith, two-each N book gs)

-- an atom of the lines stands at its place
at_place : (a : List ℕ) (ls : List (List ℕ)) → among ls a ≡ true → get_or ls (place_of a ls) [] ≡ a
unfolding place_of among
at_place a [] h = absurd (true≢false (sym h))
at_place a (l ∷ ls) h = go (same a l) refl h (at_place a ls)
  where
    go : (x : Bool) → same a l ≡ x → (x || among ls a) ≡ true → (among ls a ≡ true → get_or ls (place_of a ls) [] ≡ a) → get_or (l ∷ ls) (cond x 0 (suc (place_of a ls))) [] ≡ a
    go true e q f = sym (same_eq a l e)
    go false e q f = f q

module _ (N : ℕ) (book : List ℕ) where
  -- its own atom, where a group is in the book
  own-atom : (g : Group) → listed N book g ≡ true → get_or (group_atoms_of N book) (place_of g.name (group_atoms_of N book)) [] ≡ g.name
  own-atom g h = at_place g.name (group_atoms_of N book) (both (among (group_atoms_of N book) g.name) (covered g.nodes (node_atoms N book)) h).0

  -- groups of another name have other numbers
  others-differ : (g : Group) (ks : List Group) → listed N book g ≡ true → all_listed N book ks ≡ true → named ks g.name ≡ false → differs (number_of N book g) (plan_words N book ks) ≡ true
  unfolding differs plan_words all_listed
  others-differ g [] h a n = refl
  others-differ g (k ∷ ks) h a n =
      let p = both (listed N book k) (all_listed N book ks) a in
      let q = neither (same k.name g.name) (named ks g.name) n in
      rw (ne_eqb (number_of N book g) (number_of N book k) (λ e. other p.0 q.0 (omega arith))) (others-differ g ks h p.1 q.1)
    where
      other : listed N book k ≡ true → same k.name g.name ≡ false → place_of g.name (group_atoms_of N book) ≡ place_of k.name (group_atoms_of N book) → ⊥
      other p q e =
          let s : k.name ≡ g.name = sym (own-atom k p) ∙ ap (λ i. get_or (group_atoms_of N book) i []) (sym e) ∙ own-atom g h in
          true≢false (sym (same_refl g.name) ∙ ap (λ (w : List ℕ). same w g.name) (sym s) ∙ q)

  module _ (fits : fit N book ≡ true) (small : N ≤ node_limit) where
    -- the number of a group in the book names an s_group
    names-group : (g : Group) → listed N book g ≡ true → bad_group (number_of N book g) ≡ false
    names-group g h = rw (ne_eqb (number_of N book g) 0 (λ e. omega arith), lt-leb group_names (number_of N book g) (number-high N book fits g h))

    -- its set is on the roster
    pub set_below : (g : Group) → listed N book g ≡ true → set_of N book g < 2 ^ N
    set_below g h =
        (grows N small (node_atoms N book) (fit-nodes N book fits) g.nodes 0 (both (among (group_atoms_of N book) g.name) (covered g.nodes (node_atoms N book)) h).1 (pow_pos N)).1

    -- ---- all words

    -- of groups in the book that have nodes and of which no two have one name
    pub words-makeable : (gs : List Group) → all_listed N book gs ≡ true → peopled gs ≡ true → apart gs ≡ true → makeable N (plan_words N book gs) ≡ true
    unfolding makeable plan_words all_listed
    words-makeable [] a s d = refl
    words-makeable (g ∷ gs) a s d =
        let p = both (listed N book g) (all_listed N book gs) a in
        let q = both (some_node g.nodes) (peopled gs) s in
        let r = both (not (named gs g.name)) (apart gs) d in
        let c = (both (among (group_atoms_of N book) g.name) (covered g.nodes (node_atoms N book)) p.0).1 in
        let n = has-node N small (node_atoms N book) (fit-nodes N book fits) g.nodes c q.0 in
        rw (
          names-group g p.0,
          ne_eqb (set_of N book g) 0 (λ e. omega arith),
          lt-leb (2 ^ N) (set_of N book g) (set_below g p.0),
          others-differ g gs p.0 p.1 (not-true (named gs g.name) r.0),
        ) (words-makeable gs p.1 q.1 r.1)
