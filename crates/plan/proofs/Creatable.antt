-- Where the groups of a launch file fit, each can be created behind those before it: its number is new and has its range, its nodes are on the roster and there
-- is one, and there is room. Assumes nothing.
use Rattle.std.specs.Prelude.{◌≡◌, Ok, Err, Bool, not, ◌||◌, cond, ℕ, suc, ◌+◌, ◌*◌, ◌^◌, ◌≤◌, ◌<◌, eqb, ltb, take, get_or}
use Rattle.std.proofs.Math.Path.{refl, sym, ap}
use Rattle.std.proofs.Common.{◌∙◌, arith, pow_pos, get_or-take, get_or-append-add}
use Rattle.std.proofs.Math.Bool.{true, false, or-true, true≢false}
use mathlib.Core.List.{List, [], ◌∷◌, ◌++◌}
use borrow.Author.Tests.{ltb-true, ltb-false, lt-leb, eq-eqb, ne_eqb}
use Rattle.std.proofs.Math.Pow.{pow-lt}
use Rattle.std.proofs.Math.ListN.{length, length-append}
use Rattle.nodes.specs.Sets.{node_limit, has, beyond, empty, single, with_node}
use Rattle.nodes.proofs.SetLaws.{has-none, with_node-in, has-with_node, union-lt}
use Rattle.semantics.specs.Sizes.{group_limit, group_names}
use Rattle.tokens.specs.Reserved.{same, among}
use Rattle.tokens.specs.Words.{same_eq, same_refl}
use Rattle.grammar.specs.File.{Group}
use Rattle.walk.specs.Groups.{groups}
use Rattle.book.specs.Book.{lines, fit, place_of, node_atoms, group_atoms_of}
use Rattle.book.specs.PlaceLaws.{place-among}
use Rattle.duplicates.specs.Duplicates.{covered, named, kept, clash}
use Rattle.duplicates.specs.Names.{both, neither, apart, apart_at, kept-apart}
use Rattle.plan.specs.Plan.{number_of, set_with, set_of, listed, all_listed, plan_words, fitting, verdict}
use Rattle.plan.specs.Looked.{fit-nodes, few-atoms}
use Rattle.plan.specs.Turns.{all_listed-append, plan_words-append}
use Rattle.plan.specs.Peopled.{some_node, peopled, groups-peopled, kept-peopled}
use Rattle.plan.specs.declared.Misfit.TheVariants.{Clash, Unknown, TooMany}

-- a group has the number m
abbrev pub numbered : ℕ → List ℕ → List Group → ℕ → Bool
numbered N book [] m = false
numbered N book (k ∷ ks) m = eqb (number_of N book k) m || numbered N book ks m

-- a group can be created behind these
pub record Creatable (N : ℕ) (book : List ℕ) (ks : List Group) (g : Group) : Type 0 where
  pub low : 1 ≤ number_of N book g
  pub high : number_of N book g < group_names
  pub new : numbered N book ks (number_of N book g) ≡ false
  pub some : empty (set_of N book g) ≡ false
  pub within : beyond (set_of N book g) N ≡ false
  pub room : length ks < group_limit

-- ---- numbers

-- an atom has a place of its own
place_same : (a b : List ℕ) (ls : List (List ℕ)) → place_of a ls < length ls → place_of a ls ≡ place_of b ls → a ≡ b
unfolding place_of
place_same a b [] l e = absurd (omega arith)
place_same a b (x ∷ xs) l e = go (same a x) refl (same b x) refl l e (place_same a b xs)
  where
    go : (s : Bool) → same a x ≡ s → (t : Bool) → same b x ≡ t → cond s 0 (suc (place_of a xs)) < suc (length xs)
        → cond s 0 (suc (place_of a xs)) ≡ cond t 0 (suc (place_of b xs)) → (place_of a xs < length xs → place_of a xs ≡ place_of b xs → a ≡ b) → a ≡ b
    go true p true q l e f = same_eq a x p ∙ sym (same_eq b x q)
    go true p false q l e f = absurd (omega arith)
    go false p true q l e f = absurd (omega arith)
    go false p false q l e f = f (omega arith) (omega arith)

module _ (N : ℕ) (book : List ℕ) where
  listed-place : (g : Group) → listed N book g ≡ true → place_of g.name (group_atoms_of N book) < length (group_atoms_of N book)
  listed-place g h =
      ltb-true _ _ (place-among g.name (group_atoms_of N book) ∙ (both (among (group_atoms_of N book) g.name) (covered g.nodes (node_atoms N book)) h).0)

  -- the number of a group in the book has its range
  pub number-high : fit N book ≡ true → (g : Group) → listed N book g ≡ true → number_of N book g < group_names
  number-high fits g h = omega (arith, listed-place g h, few-atoms N book fits)

  -- groups of other names have other numbers
  numbered-new : (ks : List Group) (g : Group) → all_listed N book ks ≡ true → named ks g.name ≡ false → numbered N book ks (number_of N book g) ≡ false
  unfolding all_listed
  numbered-new [] g h n = refl
  numbered-new (k ∷ ks) g h n =
      let (p, q) = both (listed N book k) (all_listed N book ks) h in
      let (x, y) = neither (same k.name g.name) (named ks g.name) n in
      rw (ne_eqb (number_of N book k) (number_of N book g) (λ e. other p x (omega arith))) (numbered-new ks g q y)
    where
      other : listed N book k ≡ true → same k.name g.name ≡ false
          → place_of k.name (group_atoms_of N book) ≡ place_of g.name (group_atoms_of N book) → ⊥
      other p x e =
          true≢false (sym (rw (place_same k.name g.name (group_atoms_of N book) (listed-place k p) e) (same_refl g.name)) ∙ x)

-- ---- sets

module _ (N : ℕ) (small : N ≤ node_limit) (atoms : List (List ℕ)) (size : length atoms ≡ N) where
  on_roster : (a : List ℕ) → among atoms a ≡ true → place_of a atoms < N
  on_roster a h = omega (arith, ltb-true (place_of a atoms) (length atoms) (place-among a atoms ∙ h))

  -- what a set has stays in it
  stays : (ws : List (List ℕ)) (w i : ℕ) → covered ws atoms ≡ true → has w i ≡ true → has (set_with atoms w ws) i ≡ true
  unfolding set_with
  stays [] w i c h = h
  stays (a ∷ ws) w i c h =
      let (p, q) = both (among atoms a) (covered ws atoms) c in
      let l = on_roster a p in
      stays ws (with_node w (place_of a atoms)) i q (has-with_node w (place_of a atoms) i (omega arith) ∙ rw h)

  set-some : (ws : List (List ℕ)) → covered ws atoms ≡ true → some_node ws ≡ true → empty (set_with atoms 0 ws) ≡ false
  unfolding set_with
  set-some [] c h = sym h
  set-some (a ∷ ws) c h =
      let (p, q) = both (among atoms a) (covered ws atoms) c in
      let l = on_roster a p in
      let i = place_of a atoms in
      let is = stays ws (with_node 0 i) i q (has-with_node 0 i i (omega arith) ∙ rw (eq-eqb i i refl) (or-true (has 0 i))) in
      ne_eqb (set_with atoms (with_node 0 i) ws) 0 (λ e. true≢false (sym is ∙ ap (λ w. has w i) e ∙ has-none i))

  set_below : (ws : List (List ℕ)) (w : ℕ) → covered ws atoms ≡ true → w < 2 ^ N → set_with atoms w ws < 2 ^ N
  unfolding set_with
  set_below [] w c h = h
  set_below (a ∷ ws) w c h =
      let (p, q) = both (among atoms a) (covered ws atoms) c in
      set_below ws (with_node w (place_of a atoms)) q (more (place_of a atoms) (on_roster a p))
    where
      more : (i : ℕ) → i < N → with_node w i < 2 ^ N
      more i l = rw (with_node-in w i (omega arith)) (union-lt N w (single i) h (pow-lt l))

-- ---- words

-- number and set of a group stand behind those of the groups before
words-length : (N : ℕ) (book : List ℕ) (ks : List Group) → length (plan_words N book ks) ≡ 2 * length ks
unfolding plan_words
words-length N book [] = refl
words-length N book (k ∷ ks) = omega (arith, words-length N book ks)

module _ (N : ℕ) (book : List ℕ) (ks : List Group) (g : Group) (gs : List Group) where
  words-split : plan_words N book (ks ++ (g ∷ gs)) ≡ plan_words N book ks ++ (number_of N book g ∷ set_of N book g ∷ plan_words N book gs)
  unfolding plan_words
  words-split = plan_words-append N book ks (g ∷ gs)

  pub words_at : (words : List ℕ) (k i : ℕ) → take (2 * k) words ≡ plan_words N book (ks ++ (g ∷ gs)) → length ks ≡ i → i < k
      → (get_or words (2 * i) 0 ≡ number_of N book g) × (get_or words (2 * i + 1) 0 ≡ set_of N book g)
  words_at words k i e n l = let z : 2 * i + 0 ≡ 2 * i = omega arith in (ap (λ j. get_or words j 0) (sym z) ∙ word 0 (omega arith), word 1 (omega arith))
    where
      word : (j : ℕ) → j < 2 → get_or words (2 * i + j) 0 ≡ get_or (number_of N book g ∷ set_of N book g ∷ plan_words N book gs) j 0
      word j h =
          let p : 2 * i + j ≡ length (plan_words N book ks) + j = omega (arith, words-length N book ks) in
          sym (get_or-take (2 * k) words (2 * i + j) 0 (omega arith))
          ∙ ap (λ l. get_or l (2 * i + j) 0) (e ∙ words-split)
          ∙ rw p (get_or-append-add (plan_words N book ks) (number_of N book g ∷ set_of N book g ∷ plan_words N book gs) j 0)

-- ---- every group that is kept

-- groups that fit are in the book, as many as are said, and not too many
pub record Fitting (N : ℕ) (book : List ℕ) (gs : List Group) (k : ℕ) : Type 0 where
  pub known : all_listed N book gs ≡ true
  pub many : length gs ≡ k
  pub few : k ≤ group_limit

fitting-parts : (N : ℕ) (book : List ℕ) (gs : List Group) (k : ℕ) → fitting N book gs ≡ Ok k → Fitting N book gs k
unfolding fitting
fitting-parts N book gs k h = go (all_listed N book gs) refl (ltb group_limit (length gs)) refl h
  where
    go : (a : Bool) → all_listed N book gs ≡ a → (b : Bool) → ltb group_limit (length gs) ≡ b
        → cond (not a) (Err Unknown) (cond b (Err TooMany) (Ok (length gs))) ≡ Ok k → Fitting N book gs k
    go true p true e q = absurd (let z : ◌≡◌ {A = ℕ} 0 1 = cc in omega arith)
    go true p false e q = let m : length gs ≡ k = cc in record { known = p; many = m; few = omega (arith, ltb-false group_limit (length gs) e) }
    go false p b e q = absurd (let z : ◌≡◌ {A = ℕ} 0 1 = cc in omega arith)

pub verdict-fits : (N : ℕ) (book : List ℕ) (start : ℕ) (gs : List Group) (k : ℕ) → verdict N book start gs ≡ Ok k → Fitting N book (kept gs) k
unfolding verdict
verdict-fits N book start gs k h = fitting-parts N book (kept gs) k (go (clash gs (get_or (lines book) start [])) h)
  where
    go : (c : Bool) → cond c (Err Clash) (fitting N book (kept gs)) ≡ Ok k → fitting N book (kept gs) ≡ Ok k
    go true q = absurd (let z : ◌≡◌ {A = ℕ} 0 1 = cc in omega arith)
    go false q = q

peopled-at : (ks : List Group) (g : Group) (gs : List Group) → peopled (ks ++ (g ∷ gs)) ≡ true → some_node g.nodes ≡ true
peopled-at [] g gs h = (both (some_node g.nodes) (peopled gs) h).0
peopled-at (k ∷ ks) g gs h = peopled-at ks g gs (both (some_node k.nodes) (peopled (ks ++ (g ∷ gs))) h).1

module _ (N : ℕ) (book : List ℕ) (fits : fit N book ≡ true) (small : N ≤ node_limit) where
  pub creatable : (t : List ℕ) (at start k : ℕ) → verdict N book start (groups t at) ≡ Ok k
      → (ks : List Group) (g : Group) (gs : List Group) → kept (groups t at) ≡ ks ++ (g ∷ gs) → Creatable N book ks g
  unfolding all_listed
  creatable t at start k f ks g gs e =
      let F = verdict-fits N book start (groups t at) k f in
      let (before, rest) = both (all_listed N book ks) (all_listed N book (g ∷ gs)) (sym (all_listed-append N book ks (g ∷ gs)) ∙ ap (all_listed N book) (sym e) ∙ F.known) in
      let here = (both (listed N book g) (all_listed N book gs) rest).0 in
      let named = (apart_at ks g gs (ap apart (sym e) ∙ kept-apart (groups t at))).0 in
      let on = (both (among (group_atoms_of N book) g.name) (covered g.nodes (node_atoms N book)) here).1 in
      let size = fit-nodes N book fits in
      let some = peopled-at ks g gs (ap peopled (sym e) ∙ kept-peopled (groups t at) (groups-peopled t at)) in
      let below = set_below N small (node_atoms N book) size g.nodes 0 on (pow_pos N) in
      record {
        low = omega arith;
        high = number-high N book fits g here;
        new = numbered-new N book ks g before named;
        some = set-some N small (node_atoms N book) size g.nodes on some;
        within = lt-leb (2 ^ N) (set_of N book g) below;
        room = omega (arith, ap length e, length-append ks (g ∷ gs));
      }
