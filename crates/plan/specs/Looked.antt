-- What the functions look up: the nodes of a group and the whole group by the book, and the words of a group put in their place. Assumes nothing.
use Rattle.std.specs.Prelude.{◌≡◌, Option, Some, None, Bool, List, [], ◌∷◌, ℕ, ◌+◌, ◌*◌, ◌≤◌, ◌<◌, ltb, length, set}
use Rattle.std.proofs.Math.Path.{refl, sym}
use Rattle.std.proofs.Common.{ap, arith, length-drop, length-take-le}
use Rattle.std.proofs.Math.Bool.{true, false, cond}
use borrow.Author.Tests.{lt-ltb, le-ltb}
use Rattle.pairs.specs.Plans.{made_of}
use Rattle.pairs.specs.Woven.{woven, woven-length, woven-set}
use Rattle.pairs.specs.declared.Made.{Made}
use Rattle.nodes.specs.Sets.{with_node}
use Rattle.semantics.specs.Sizes.{group_limit}
use Rattle.grammar.specs.File.{Group}
use Rattle.book.specs.Book.{lines, group_atoms, fit, found_among, number_in, node_atoms, group_atoms_of}
use Rattle.book.specs.Finding.{found_some, found_none, number-none, number_some}
use Rattle.book.specs.Hinting.{fit-enough, fit-few}
use Rattle.duplicates.specs.Duplicates.{covered}
use Rattle.plan.specs.Plan.{number_of, set_with, set_of, listed}

-- the nodes of a set and of these atoms, where every one is among the node atoms
unfoldable pub members : List (List ℕ) → ℕ → List (List ℕ) → Option ℕ
members atoms w ws = cond (covered ws atoms) (Some (set_with atoms w ws)) None

-- the group with this name and these nodes, where it is listed
unfoldable pub entered : ℕ → List ℕ → List ℕ → List (List ℕ) → Option Made
entered N book w ws =
    cond (listed N book (record { name = w; nodes = ws }))
    (Some (made_of (number_of N book (record { name = w; nodes = ws })) (set_of N book (record { name = w; nodes = ws }))))
    None

-- the two words of group k, where there is room
unfoldable pub put : List ℕ → ℕ → ℕ → ℕ → List ℕ
put words k number s = cond (ltb k group_limit) (set (set words (2 * k) number) (2 * k + 1) s) words

-- ---- the groups that are made, as words

module _ (ms : List Made) (p : length ms ≡ group_limit) where
  -- two words for each group
  pub woven-room : length (woven ms) ≡ 2 * group_limit
  woven-room = omega (arith, woven-length ms)

  -- those of group k are written
  pub woven-put : (k : ℕ) (m : Made) → k < group_limit → woven (set ms k m) ≡ put (woven ms) k m.number m.set
  unfolding put
  woven-put k m l = rw (lt-ltb k group_limit l) (woven-set ms k m (omega arith))

-- where there is no room, nothing is
pub put-none : (words : List ℕ) (k number s : ℕ) → group_limit ≤ k → put words k number s ≡ words
unfolding put
put-none words k number s l = rw (le-ltb k group_limit l)

-- ---- the atoms of a book for n nodes

-- it has an atom for each
pub fit-nodes : (n : ℕ) (book : List ℕ) → fit n book ≡ true → length (node_atoms n book) ≡ n
fit-nodes n book h = length-take-le n (lines book) (fit-enough n book h)

-- and so many for groups at most
pub few-atoms : (n : ℕ) (book : List ℕ) → fit n book ≡ true → length (group_atoms_of n book) ≤ group_atoms
few-atoms n book h = omega (arith, fit-few n book h, length-drop n (lines book))

-- ---- the nodes of a group, one after another

module _ (atoms : List (List ℕ)) (w : ℕ) (a : List ℕ) (ws : List (List ℕ)) where
  -- the first is not on the roster
  pub members-missed : found_among a atoms ≡ None → members atoms w (a ∷ ws) ≡ None
  unfolding members
  members-missed h = rw (found_none a atoms (sym h))

  -- it is
  pub members-found : (i : ℕ) → found_among a atoms ≡ Some i → members atoms w (a ∷ ws) ≡ members atoms (with_node w i) ws
  unfolding members set_with
  members-found i h = let (p, q) = found_some a atoms i (sym h) in rw (p, q)

-- none is left
pub members-ended : (atoms : List (List ℕ)) (w : ℕ) → members atoms w [] ≡ Some w
unfolding members set_with
members-ended atoms w = refl

-- ---- a group: its name first, then its nodes

module _ (N : ℕ) (book w : List ℕ) (ws : List (List ℕ)) where
  -- its name is not in the book
  pub entered-missed : number_in N book w ≡ None → entered N book w ws ≡ None
  unfolding entered
  entered-missed h = rw (number-none N book w (sym h))

  -- it is, and a node is not on the roster
  pub entered-strange : (i : ℕ) → number_in N book w ≡ Some i → members (node_atoms N book) 0 ws ≡ None → entered N book w ws ≡ None
  unfolding entered members
  entered-strange i h e = rw (number_some N book w i (sym h)).0 (go _ _ (covered ws (node_atoms N book)) e)
    where
      go : (s : ℕ) (m : Made) (c : Bool) → cond c (Some s) None ≡ None → cond c (Some m) None ≡ None
      go s m true q = absurd cc
      go s m false q = refl

  -- all of it is there
  pub entered-found : (i s : ℕ) → number_in N book w ≡ Some i → members (node_atoms N book) 0 ws ≡ Some s → entered N book w ws ≡ Some (made_of i s)
  unfolding entered members
  entered-found i s h e =
      let (p, q) = number_some N book w i (sym h) in
      rw (p, q) (go _ _ (covered ws (node_atoms N book)) e)
    where
      go : (n r : ℕ) (c : Bool) → cond c (Some r) None ≡ Some s → cond c (Some (made_of n r)) None ≡ Some (made_of n s)
      go n r true q = let e : r ≡ s = cc in ap (λ v. Some (made_of n v)) e
      go n r false q = absurd cc

-- what it says of the group
abbrev pub told : ℕ → List ℕ → Group → Option Made → Type 0
told N book g (Some m) = (listed N book g ≡ true) × (m.number ≡ number_of N book g) × (m.set ≡ set_of N book g)
told N book g None = listed N book g ≡ false

pub entered-told : (N : ℕ) (book : List ℕ) (g : Group) (x : Option Made) → x ≡ entered N book g.name g.nodes → told N book g x
unfolding entered
entered-told N book g x e = rw e (go (listed N book g) refl)
  where
    go : (b : Bool) → listed N book g ≡ b → told N book g (cond b (Some (made_of (number_of N book g) (set_of N book g))) None)
    go true h = (h, refl, refl)
    go false h = h
