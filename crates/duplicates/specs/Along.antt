-- The groups of a list, taken one by one: each by its places in the text. Assumes nothing.
use Rattle.std.specs.Prelude.{◌≡◌, refl, Option, Some, None, Bool, true, false, not, ◌&&◌, ◌||◌, List, [], ◌∷◌, map, ℕ, zero, suc, ◌+◌, ◌<◌, ◌≤◌, length, get_or, take, drop}
use Rattle.std.specs.List.{list_any, list_all}
use Rattle.std.proofs.Common.{sym, ap, ◌∙◌, arith, length-take, get_or-take}
use Rattle.tokens.specs.Reserved.{same}
use Rattle.grammar.specs.File.{Group as Named}
use Rattle.walk.specs.Groups.{groups_from, groups}
use Rattle.walk.specs.Unfold.{IsInside}
use Rattle.duplicates.specs.Duplicates.{equal_nodes, agreed, named, torn, clashing}
use Rattle.duplicates.specs.Next.{next_group, group_of, group-next, group-none}
use Rattle.duplicates.specs.declared.Group.{Group}
use Rattle.duplicates.specs.declared.Groups.{Groups}

-- the next group, and the others by k from the place behind it
abbrev pub placed : (ℕ → List Group) → Option Group → List Group
placed k (Some g) = g ∷ k g.past
placed k None = []

-- in so many steps at most
unfoldable pub places_in : ℕ → List ℕ → ℕ → Bool → List Group
places_in zero t at begun = []
places_in (suc f) t at begun = placed (λ n. places_in f t n true) (next_group t at begun)

-- each step goes on, so that a step for each byte is enough
unfoldable pub places : List ℕ → ℕ → Bool → List Group
places t at begun = places_in (suc (length t)) t at begun

-- the groups that are left
abbrev pub places_left : Groups → List Group
places_left s = places s.text.now s.at s.begun

-- ---- the places from one place on, one step unfolded

module _ (t : List ℕ) where
  alike : (k l : ℕ → List Group) (at : ℕ) (b : Bool) → ((n : ℕ) → at < n → n ≤ length t → k n ≡ l n) → placed k (next_group t at b) ≡ placed l (next_group t at b)
  alike k l at b h = go (next_group t at b) refl
    where
      go : (o : Option Group) → next_group t at b ≡ o → placed k o ≡ placed l o
      go (Some g) e = let a = (group-next t at b g e).1 in ap (λ (r : List Group). g ∷ r) (h g.past a.0 a.1)
      go None e = refl

  enough : (f g at : ℕ) (b : Bool) → length t ≤ f + at → length t ≤ g + at → places_in (suc f) t at b ≡ places_in (suc g) t at b
  unfolding places_in
  enough zero zero at b p q = refl
  enough zero (suc g) at b p q = alike (λ n. places_in zero t n true) (λ n. places_in (suc g) t n true) at b (λ n l m. absurd (omega arith))
  enough (suc f) zero at b p q = alike (λ n. places_in (suc f) t n true) (λ n. places_in zero t n true) at b (λ n l m. absurd (omega arith))
  enough (suc f) (suc g) at b p q = alike (λ n. places_in (suc f) t n true) (λ n. places_in (suc g) t n true) at b (λ n l m. enough f g n true (omega arith) (omega arith))

  one_more : (f n : ℕ) → length t < f + n → n ≤ length t → places_in f t n true ≡ places_in (suc (length t)) t n true
  one_more zero n l m = absurd (omega arith)
  one_more (suc f) n l m = enough f (length t) n true (omega arith) (omega arith)

  pub unfolded : (at : ℕ) (b : Bool) → places t at b ≡ placed (λ n. places t n true) (next_group t at b)
  unfolding places places_in
  unfolded at b = alike (λ n. places_in (length t) t n true) (λ n. places_in (suc (length t)) t n true) at b (λ n l m. one_more (length t) n (omega arith) m)

pub place-next : (t : List ℕ) (at : ℕ) (b : Bool) (g : Group) → Some g ≡ next_group t at b → places t at b ≡ g ∷ places t g.past true
place-next t at b g e = unfolded t at b ∙ ap (placed (λ n. places t n true)) (sym e)

pub place-none : (t : List ℕ) (at : ℕ) (b : Bool) → None ≡ next_group t at b → places t at b ≡ []
place-none t at b e = unfolded t at b ∙ ap (placed (λ n. places t n true)) (sym e)

-- the next place
pub ruleset next_place = (place-next, place-none)

-- ---- what stands there

module _ (t : List ℕ) where
  -- the name of each group lies in the text
  inside_in : (f at : ℕ) (b : Bool) (x : Group) (k : ℕ) → k < length (places_in f t at b) → x ≡ get_or (places_in f t at b) k x → IsInside t x.from x.to
  unfolding places_in
  inside_in zero at b x k h e = absurd (omega arith)
  inside_in (suc f) at b x k h e = go (next_group t at b) refl k h e (λ n m. inside_in f n true x m)
    where
      go : (o : Option Group) → next_group t at b ≡ o → (k : ℕ) → k < length (placed (λ n. places_in f t n true) o)
          → x ≡ get_or (placed (λ n. places_in f t n true) o) k x
          → ((n m : ℕ) → m < length (places_in f t n true) → x ≡ get_or (places_in f t n true) m x → IsInside t x.from x.to) → IsInside t x.from x.to
      go (Some g) q zero h e i = rw e (group-next t at b g q).2
      go (Some g) q (suc k) h e i = i g.past k (omega arith) e
      go None q k h e i = absurd (omega arith)

  pub places-inside : (at : ℕ) (b : Bool) (x : Group) (k : ℕ) → k < length (places t at b) → x ≡ get_or (places t at b) k x → IsInside t x.from x.to
  unfolding places
  places-inside at b x k h e = inside_in (suc (length t)) at b x k h e

  -- of the first of them too
  pub first-inside : (n at : ℕ) (b : Bool) (x : Group) (k : ℕ) → k < length (take n (places t at b)) → x ≡ get_or (take n (places t at b)) k x → IsInside t x.from x.to
  first-inside n at b x k h e =
      let l : k < n = omega (arith, length-take n (places t at b)) in
      places-inside at b x k (omega (arith, length-take n (places t at b))) (e ∙ get_or-take n (places t at b) k x l)

  -- they are few enough
  few_in : (f at : ℕ) (b : Bool) → length (places_in f t at b) ≤ f
  unfolding places_in
  few_in zero at b = omega arith
  few_in (suc f) at b = go (next_group t at b) (λ n. few_in f n true)
    where
      go : (o : Option Group) → ((n : ℕ) → length (places_in f t n true) ≤ f) → length (placed (λ n. places_in f t n true) o) ≤ suc f
      go (Some g) h = omega (arith, h g.past)
      go None h = omega arith

  pub places-few : (at : ℕ) (b : Bool) → length (places t at b) ≤ suc (length t)
  unfolding places
  places-few at b = few_in (suc (length t)) at b

  -- behind n of them: one more, and the others
  pub place-left : (n at : ℕ) (b : Bool) (x : Group) (xs : List Group) → drop n (places t at b) ≡ x ∷ xs
      → (n < length (places t at b)) × IsInside t x.from x.to × (drop (n + 1) (places t at b) ≡ xs)
  place-left n at b x xs e =
      let (l, p, q) = behind n (places t at b) x xs e in
      let a : n + 1 ≡ suc n = omega arith in
      (l, places-inside at b x n l p, rw a q)
    where
      behind : (n : ℕ) (ys : List Group) (x : Group) (xs : List Group) → drop n ys ≡ x ∷ xs → (n < length ys) × (x ≡ get_or ys n x) × (drop (suc n) ys ≡ xs)
      behind zero [] x xs e = absurd cc
      behind zero (y ∷ ys) x xs e = (omega arith, cc, cc)
      behind (suc n) [] x xs e = absurd cc
      behind (suc n) (y ∷ ys) x xs e = let (l, p, q) = behind n ys x xs e in (omega arith, p, q)

  turned : (k : ℕ → List Group) (at : ℕ) (b : Bool) → ((n : ℕ) → at < n → n ≤ length t → groups_from t n true ≡ map (group_of t) (k n))
      → groups_from t at b ≡ map (group_of t) (placed k (next_group t at b))
  turned k at b h = go (next_group t at b) refl
    where
      go : (o : Option Group) → next_group t at b ≡ o → groups_from t at b ≡ map (group_of t) (placed k o)
      go (Some g) e = let a = group-next t at b g e in a.0 ∙ ap (λ (r : List Named). group_of t g ∷ r) (h g.past a.1.0 a.1.1)
      go None e = group-none t at b e

  mapped : (f at : ℕ) (b : Bool) → length t ≤ f + at → groups_from t at b ≡ map (group_of t) (places_in (suc f) t at b)
  unfolding places_in
  mapped zero at b l = turned (λ n. places_in zero t n true) at b (λ n p q. absurd (omega arith))
  mapped (suc f) at b l = turned (λ n. places_in (suc f) t n true) at b (λ n p q. mapped f n true (omega arith))

  -- the groups of the list
  pub groups-placed : (at : ℕ) → groups t at ≡ map (group_of t) (places t at false)
  unfolding places
  groups-placed at = mapped (length t) at false (omega arith)

-- ---- groups, by tests of each

pub any-map : {A B : Type 0} (p : B → Bool) (h : A → B) (xs : List A) → list_any p (map h xs) ≡ list_any (λ x. p (h x)) xs
any-map p h [] = refl
any-map p h (x ∷ xs) = ap (λ r. p (h x) || r) (any-map p h xs)

pub all-agreed : (w : List ℕ) (ws : List (List ℕ)) (gs : List Named) → list_all (λ (k : Named). not (same k.name w) || equal_nodes k.nodes ws) gs ≡ agreed gs w ws
all-agreed w ws [] = refl
all-agreed w ws (k ∷ ks) = ap (λ r. (not (same k.name w) || equal_nodes k.nodes ws) && r) (all-agreed w ws ks)

pub any-named : (w : List ℕ) (gs : List Named) → list_any (λ (k : Named). same k.name w) gs ≡ named gs w
any-named w [] = refl
any-named w (k ∷ ks) = ap (λ r. same k.name w || r) (any-named w ks)

pub any-clashing : (all : List Named) (v : List ℕ) (gs : List Named) → list_any (λ (k : Named). torn all k.name k.nodes v) gs ≡ clashing all gs v
any-clashing all v [] = refl
any-clashing all v (k ∷ ks) = ap (λ r. torn all k.name k.nodes v || r) (any-clashing all v ks)
