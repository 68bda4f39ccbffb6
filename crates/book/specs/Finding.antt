-- Where an atom is found among lines, and the number of a group atom, by the place among all lines. Assumes nothing.
use Rattle.std.specs.Prelude.{◌≡◌, refl, Bool, true, false, cond, List, [], ℕ, suc, ◌+◌, ◌-◌, ◌≤◌, ◌<◌, length, get_or, Some, None}
use Rattle.std.specs.Option.{is_some}
use Rattle.std.proofs.Common.{sym, ap, ◌∙◌, arith, lt-ltb, le-ltb, ltb-true, length-take-le, length-drop}
use Rattle.tokens.specs.Reserved.{among}
use Rattle.book.specs.Book.{group_atoms, lines, distinct, fit, node_atoms, group_atoms_of, place_of, found_among, number_in}
use Rattle.book.specs.PlaceLaws.{place-among, place-own, place_in-first, place_past_first, place_none, place-not-past}
use Rattle.book.specs.Hinting.{fit-distinct, fit-enough, fit-few}

-- ---- among lines

module _ (a : List ℕ) (ls : List (List ℕ)) where
  found-within : place_of a ls < length ls → Some (place_of a ls) ≡ found_among a ls
  unfolding found_among
  found-within h = rw (sym (place-among a ls) ∙ lt-ltb (place_of a ls) (length ls) h)

  found-behind : length ls ≤ place_of a ls → None ≡ found_among a ls
  unfolding found_among
  found-behind h = rw (sym (place-among a ls) ∙ le-ltb (place_of a ls) (length ls) h)

  -- an atom that is found is one of the lines, and stands there
  pub found_some : (i : ℕ) → Some i ≡ found_among a ls → (among ls a ≡ true) × (i ≡ place_of a ls)
  unfolding found_among
  found_some i h = go (among ls a) h
    where
      go : (b : Bool) → Some i ≡ cond b (Some (place_of a ls)) None → (b ≡ true) × (i ≡ place_of a ls)
      go true e = (refl, cc)
      go false e = absurd (cc)

  -- one that is not is none of them
  pub found_none : None ≡ found_among a ls → among ls a ≡ false
  unfolding found_among
  found_none h = go (among ls a) h
    where
      go : (b : Bool) → None ≡ cond b (Some (place_of a ls)) None → b ≡ false
      go true e = absurd (cc)
      go false e = refl

  -- whether it is found is whether it is one of them
  pub some-found : is_some (found_among a ls) ≡ among ls a
  unfolding found_among
  some-found = go (among ls a)
    where
      go : (b : Bool) → is_some (cond b (Some (place_of a ls)) None) ≡ b
      go true = refl
      go false = refl

-- a line that stands once is found at its place
pub found-own : (a : List ℕ) (ls : List (List ℕ)) (i : ℕ) → distinct ls ≡ true → i < length ls → get_or ls i [] ≡ a → Some i ≡ found_among a ls
found-own a ls i d h e =
    let p : place_of a ls ≡ i = sym (ap (λ (l : List ℕ). place_of l ls) e) ∙ place-own ls i d h in
    ap Some (sym p) ∙ found-within a ls (omega arith)

-- ---- what a number says

module _ (n : ℕ) (t a : List ℕ) where
  pub number-none : None ≡ number_in n t a → among (group_atoms_of n t) a ≡ false
  unfolding number_in
  number-none h = go (among (group_atoms_of n t) a) h
    where
      go : (b : Bool) → None ≡ cond b (Some (suc (place_of a (group_atoms_of n t)))) None → b ≡ false
      go true e = absurd (cc)
      go false e = refl

  pub number_some : (i : ℕ) → Some i ≡ number_in n t a → (among (group_atoms_of n t) a ≡ true) × (i ≡ suc (place_of a (group_atoms_of n t)))
  unfolding number_in
  number_some i h = go (among (group_atoms_of n t) a) h
    where
      go : (b : Bool) → Some i ≡ cond b (Some (suc (place_of a (group_atoms_of n t)))) None → (b ≡ true) × (i ≡ suc (place_of a (group_atoms_of n t)))
      go true e = (refl, cc)
      go false e = absurd (cc)

-- ---- by the place among all lines

module _ (n : ℕ) (t a : List ℕ) (f : fit n t ≡ true) where
  abbrev groups : List (List ℕ)
  groups = group_atoms_of n t

  missed : length groups ≤ place_of a groups → None ≡ number_in n t a
  unfolding number_in
  missed h = rw (sym (place-among a groups) ∙ le-ltb (place_of a groups) (length groups) h)

  module _ (p : ℕ) (at : p ≡ place_of a (lines t)) (past : n ≤ p) where
    behind : place_of a groups ≡ p - n
    behind = (place_past_first n a (lines t) (omega arith) (fit-enough n t f)).1 ∙ ap (λ (k : ℕ). k - n) (sym at)

    none-first : None ≡ found_among a (node_atoms n t)
    none-first =
        found-behind a (node_atoms n t)
        (omega (arith, (place_past_first n a (lines t) (omega arith) (fit-enough n t f)).0, length-take-le n (lines t) (fit-enough n t f)))

  -- the atom is none of the lines
  module _ (none : None ≡ found_among a (lines t)) where
    last : length (lines t) ≡ place_of a (lines t)
    last = sym (place_none a (lines t) (found_none a (lines t) none))

    pub node-none : None ≡ found_among a (node_atoms n t)
    node-none = none-first (length (lines t)) last (fit-enough n t f)

    pub number_of-none : None ≡ number_in n t a
    number_of-none = missed (omega (arith, behind (length (lines t)) last (fit-enough n t f), length-drop n (lines t)))

  -- it is line p
  module _ (p : ℕ) (some : Some p ≡ found_among a (lines t)) where
    at : p ≡ place_of a (lines t)
    at = (found_some a (lines t) p some).1

    inside : p < length (lines t)
    inside = omega (arith, at, ltb-true (place_of a (lines t)) (length (lines t)) (place-among a (lines t) ∙ (found_some a (lines t) p some).0))

    -- the atom of a node
    pub node-found : p < n → Some p ≡ found_among a (node_atoms n t)
    node-found h =
        let e : place_of a (node_atoms n t) ≡ p = place_in-first n a (lines t) (omega (arith, at)) (fit-enough n t f) ∙ sym at in
        ap Some (sym e) ∙ found-within a (node_atoms n t) (omega (arith, length-take-le n (lines t) (fit-enough n t f)))

    -- and so of no group
    pub number_of-node : p < n → None ≡ number_in n t a
    number_of-node h = missed (omega (arith, place-not-past n a (lines t) (fit-distinct n t f) (omega (arith, at)) (fit-enough n t f)))

    -- of no node
    pub node-missed : n ≤ p → None ≡ found_among a (node_atoms n t)
    node-missed h = none-first p at h

    -- and so of a group
    pub number_of-group : n ≤ p → Some (p - n + 1) ≡ number_in n t a
    unfolding number_in
    number_of-group h =
        rw (sym (place-among a groups) ∙ lt-ltb (place_of a groups) (length groups) (omega (arith, behind p at h, inside, length-drop n (lines t))), behind p at h) (ap Some (omega arith))

    -- whose number has 16 bits
    pub number-fits : n ≤ p → p - n + 1 ≤ group_atoms
    number-fits h = omega (arith, inside, fit-few n t f)

-- an atom among the atoms of the nodes, by its place
pub ruleset node_placed = (node-found, node-missed, node-none)

-- and its number among those of the groups
pub ruleset group_placed = (number_of-group, number_of-node, number_of-none, number-fits)
