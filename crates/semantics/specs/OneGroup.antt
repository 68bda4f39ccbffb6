-- One s_group in the words of a table: its contents word, its members and its own words, and the table with another s_group in its place.
-- Assumes nothing.
use Rattle.std.specs.Prelude.{◌≡◌, refl, ℕ, suc, ◌+◌, ◌-◌, ◌*◌, ◌≤◌, ◌<◌, get_or, take, drop, set}
use Rattle.std.proofs.Math.Path.{sym, ap}
use Rattle.std.proofs.Common.{◌∙◌, arith, lit<, length-append}
use mathlib.Core.List.{List, ◌∷◌, ◌++◌, map, append_assoc, map-append}
use Rattle.std.proofs.Math.ListN.{length, replicate}
use Rattle.std.proofs.lemmas.List.{length-map, set_at}
use Rattle.entries.specs.Entries.{Entry, words}
use Rattle.entries.specs.Storage.{length-words}
use Rattle.semantics.specs.Sizes.{group_limit, group_names, contents_at, members_at}
use Rattle.semantics.specs.State.{Group, State, with_groups}
use Rattle.semantics.specs.Table.{pad, contents, bodies, sections}
use Rattle.semantics.specs.ThreeParts.{Cut}
use Rattle.semantics.specs.Sections.{store, lent-in, read-in}
use Rattle.semantics.specs.Bodies.{own_at, length-bodies, bodies-append}
use Rattle.semantics.specs.Places.{group_at, group-between}
use Rattle.semantics.specs.WordsOfState.{Laid, relaid}
use Rattle.semantics.specs.WordByWord.{reads}

-- a word of each s_group, padded, where one s_group has become another: its word is stored
mapped-set : (f : Group → ℕ) (n : ℕ) (a b : List Group) (g h : Group) (at : ℕ) → length a ≡ at → set (pad n (map f (a ++ g ∷ b))) at (f h) ≡ pad n (map f (a ++ h ∷ b))
mapped-set f n a b g h at e = ap (λ (l : List ℕ). set l at (f h)) (around g) ∙ set_at (map f a) (f g) _ (f h) at (length-map a f ∙ e) ∙ sym (around h)
  where
    around : (x : Group) → pad n (map f (a ++ x ∷ b)) ≡ map f a ++ f x ∷ (map f b ++ replicate (n - (length (map f a) + suc (length (map f b)))) 0)
    around x = rw (map-append f a (x ∷ b), length-append (map f a) (f x ∷ map f b)) (append_assoc (map f a) (f x ∷ map f b) _)

-- or it is as it was
mapped-same : (f : Group → ℕ) (n : ℕ) (a b : List Group) (g h : Group) → f g ≡ f h → pad n (map f (a ++ g ∷ b)) ≡ pad n (map f (a ++ h ∷ b))
mapped-same f n a b g h e = ap (pad n) (map-append f a (g ∷ b) ∙ ap (λ (x : ℕ). map f a ++ x ∷ map f b) e ∙ sym (map-append f a (h ∷ b)))

module _ {cap : ℕ} {st : State} {t : List ℕ} (l : Laid cap st t) (a b : List Group) (g : Group) (is : st.groups ≡ a ++ g ∷ b) (at : ℕ) (stands : length a ≡ at) where
  counted : at + suc (length b) ≡ length st.groups
  counted = omega (arith, ap length is, length-append a (g ∷ b))

  in-limit : at < group_limit
  in-limit = omega (arith, counted, l.sized.groups_few)

  here : group_at st.groups at ≡ g
  here = group-between st.groups a g b at is stands

  -- ---- read

  pub group-contents : get_or t (contents_at + at) 0 ≡ contents g
  group-contents = (reads l).heads at in-limit ∙ ap contents here

  pub group-members : get_or t (members_at + at) 0 ≡ g.members
  group-members = (reads l).members at in-limit ∙ ap (λ (x : Group). x.members) here

  -- the words after its own
  after : List ℕ
  after = bodies cap b ++ replicate (group_limit * cap - length (bodies cap st.groups)) 0

  -- its own words as a part of the bodies
  own : Cut (cap * at) cap (pad (group_limit * cap) (bodies cap st.groups)) (bodies cap a) (words cap g.names) after
  unfolding after
  own = record {
    is = ap (λ (y : List ℕ). y ++ replicate (group_limit * cap - length (bodies cap st.groups)) 0) (ap (bodies cap) is ∙ bodies-append cap a (g ∷ b)) ∙ simp append_assoc;
    starts = rw (← stands) (length-bodies cap a);
    long = length-words cap g.names;
  }

  pub group_words : (lo hi : ℕ) → lo ≡ own_at cap at → hi ≡ lo + cap → take (hi - lo) (drop lo t) ≡ words cap g.names
  unfolding sections
  group_words lo hi from to = read-in l.run 5 (lit< tt) own lo hi from to

  -- ---- another s_group in its place

  module _ (h : Group) where
    count-with : length st.groups ≡ length (a ++ h ∷ b)
    count-with = omega (arith, length-append a (h ∷ b), counted)

    few-with : length (a ++ h ∷ b) ≤ group_limit
    few-with = omega (arith, count-with, l.sized.groups_few)

    stored : (f : Group → ℕ) → set (pad group_limit (map f st.groups)) at (f h) ≡ pad group_limit (map f (a ++ h ∷ b))
    stored f = ap (λ (gs : List Group). set (pad group_limit (map f gs)) at (f h)) is ∙ mapped-set f group_limit a b g h at stands

    same : (f : Group → ℕ) → f g ≡ f h → pad group_limit (map f st.groups) ≡ pad group_limit (map f (a ++ h ∷ b))
    same f e = ap (λ (gs : List Group). pad group_limit (map f gs)) is ∙ mapped-same f group_limit a b g h e

    bodies-with : bodies cap a ++ (words cap h.names ++ after) ≡ pad (group_limit * cap) (bodies cap (a ++ h ∷ b))
    unfolding after
    bodies-with =
        let k : length (bodies cap (a ++ h ∷ b)) ≡ length (bodies cap st.groups) =
        length-bodies cap (a ++ h ∷ b) ∙ ap (λ (x : ℕ). cap * x) (sym count-with) ∙ sym (length-bodies cap st.groups) in
        rw (k, bodies-append cap a (h ∷ b)) (simp append_assoc)

  -- with other members m: their word is stored
  pub members-put : (m : ℕ) → Laid cap (with_groups (a ++ record { name = g.name; members = m; names = g.names } ∷ b) st) (set t (members_at + at) m)
  unfolding sections
  members-put m =
      let h : Group = record { name = g.name; members = m; names = g.names } in
      relaid l (a ++ h ∷ b) (few-with h) (count-with h) (same h contents refl) (stored h (λ x. x.members)) (own.is ∙ bodies-with h) (store l.run 2 (lit< tt) at m in-limit)

  -- with other names ns: its own words t[lo..hi] are lent to a callee that leaves the words of ns, and its contents word is stored
  module _ (ns : List Entry) (f : List ℕ → List ℕ) (leaves : f (words cap g.names) ≡ words cap ns) (lo hi : ℕ) (from : lo ≡ own_at cap at) (to : hi ≡ lo + cap) where
    pub names-put : (r : List ℕ) → length r ≡ length (take (hi - lo) (drop lo t)) → r ≡ f (take (hi - lo) (drop lo t)) → (v : ℕ) → v ≡ g.name + group_names * length ns
        → Laid cap (with_groups (a ++ record { name = g.name; members = g.members; names = ns } ∷ b) st)
        (set (take lo t ++ (r ++ drop (hi - lo) (drop lo t))) (contents_at + at) v)
    unfolding sections
    names-put r k e v c =
        let h : Group = record { name = g.name; members = g.members; names = ns } in
        relaid l (a ++ h ∷ b) (few-with h) (count-with h)
        (ap (set (pad group_limit (map contents st.groups)) at) c ∙ stored h contents)
        (same h (λ x. x.members) refl)
        (ap (λ (ws : List ℕ). bodies cap a ++ (ws ++ after)) leaves ∙ bodies-with h)
        (store (lent-in l.run 5 (lit< tt) own lo hi from to f r k e) 1 (lit< tt) at v in-limit)
