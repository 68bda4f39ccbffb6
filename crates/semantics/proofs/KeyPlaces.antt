-- The place of a key: on a sound table the s_group of a name, and the pid of a process name, are those of the state that the table stands for;
-- and what tells s_groups apart. Assumes nothing.
use Rattle.std.specs.Prelude.{◌≡◌, ◌≢◌, Bool, true, false, cond, ℕ, zero, suc, ◌<◌, eqb, length, get_or}
use Rattle.std.proofs.Math.Path.{refl, ap}
use Rattle.std.proofs.Common.{sym, ◌∙◌, arith, eqb-true, eq-eqb, ne_eqb}
use Rattle.std.proofs.Math.Option.{Option, none, some, map, some-injective}
use mathlib.Core.List.{List, [], ◌∷◌}
use Rattle.entries.specs.Entries.{Entry, lookup}
use Rattle.entries.specs.EntryLaws.{lookups-determine}
use Rattle.semantics.specs.State.{Group, State, find}
use Rattle.semantics.specs.Soundness.{count_of, name_of, names_of, process_of, pid_of, at_place, group_named, pid_named, Sound}
use Rattle.semantics.specs.Regular.{Regular}
use Rattle.semantics.specs.Groups.{found_name}
use Rattle.semantics.specs.Changed.{regular-found}
use Rattle.semantics.specs.Places.{no_group, group_at}
use Rattle.semantics.specs.EntryPlaces.{no_entry}
use Rattle.semantics.proofs.WordsMeaning.{Means}

-- ---- the place of a key

-- no place has the key
no_place : (key : ℕ → ℕ) (n x : ℕ) → ((k : ℕ) → k < n → key k ≢ x) → at_place key n x ≡ none
unfolding at_place
no_place key zero x h = refl
no_place key (suc n) x h = rw (ne_eqb (key n) x (h n (omega arith))) (no_place key n x (λ k l. h k (omega arith)))

-- one place on, or else d
abbrev one_on : Option ℕ → Option ℕ → Option ℕ
one_on d none = d
one_on d (some k) = some (suc k)

-- the place of the key after the first one, or else the first
place-shift : (key : ℕ → ℕ) (n x : ℕ)
    → at_place key (suc n) x ≡ one_on (cond (eqb (key 0) x) (some 0) none) (at_place (λ k. key (suc k)) n x)
unfolding at_place
place-shift key zero x = refl
place-shift key (suc n) x = go (eqb (key (suc n)) x) (place-shift key n x)
  where
    go : (b : Bool) → at_place key (suc n) x ≡ one_on (cond (eqb (key 0) x) (some 0) none) (at_place (λ k. key (suc k)) n x)
        → cond b (some (suc n)) (at_place key (suc n) x)
        ≡ one_on (cond (eqb (key 0) x) (some 0) none) (cond b (some n) (at_place (λ k. key (suc k)) n x))
    go true ih = refl
    go false ih = ih

-- ---- the first of a list that has the key

module _ {A B : Type 0} (d : A) (key_of : A → ℕ) (f : A → B) where
  -- f of the first one whose key is x
  first_with : ℕ → List A → Option B
  first_with x [] = none
  first_with x (a ∷ ys) = cond (eqb (key_of a) x) (some (f a)) (first_with x ys)

  -- where the keys of the places are distinct, and are those of the list, it stands at the place of the key
  placed : (ys : List A) (key : ℕ → ℕ) (v : ℕ → B) (x : ℕ)
      → ((i j : ℕ) → i < j → j < length ys → key i ≢ key j)
      → ((k : ℕ) → k < length ys → key k ≡ key_of (get_or ys k d)) → ((k : ℕ) → k < length ys → v k ≡ f (get_or ys k d))
      → map v (at_place key (length ys) x) ≡ first_with x ys
  unfolding at_place first_with
  placed [] key v x distinct keys values = refl
  placed (a ∷ ys) key v x distinct keys values =
      ap (map v) (place-shift key (length ys) x) ∙ go (eqb (key_of a) x) refl
      (placed ys (λ k. key (suc k)) (λ k. v (suc k)) x (λ i j l m. distinct (suc i) (suc j) (omega arith) (omega arith))
      (λ k l. keys (suc k) (omega arith)) (λ k l. values (suc k) (omega arith)))
    where
      past : (o : Option ℕ) → map v (one_on none o) ≡ map (λ k. v (suc k)) o
      past none = refl
      past (some k) = refl

      go : (b : Bool) → eqb (key_of a) x ≡ b
          → map (λ k. v (suc k)) (at_place (λ k. key (suc k)) (length ys) x) ≡ first_with x ys
          → map v (one_on (cond (eqb (key 0) x) (some 0) none) (at_place (λ k. key (suc k)) (length ys) x))
          ≡ cond b (some (f a)) (first_with x ys)
      go true e ih =
          let is : key 0 ≡ x = keys 0 (omega arith) ∙ eqb-true (key_of a) x e in
          rw (no_place (λ k. key (suc k)) (length ys) x (λ k l q. distinct 0 (suc k) (omega arith) (omega arith) (is ∙ sym q)), eq-eqb (key 0) x is)
          (ap some (values 0 (omega arith)))
      go false e ih =
          rw (ap (λ (y : ℕ). eqb y x) (keys 0 (omega arith)) ∙ e)
          (past (at_place (λ k. key (suc k)) (length ys) x) ∙ ih)

first-name : (n : ℕ) (es : List Entry) → lookup n es ≡ first_with no_entry (λ e. e.name) (λ e. e.pid) n es
unfolding lookup first_with
first-name n [] = refl
first-name n (e ∷ es) = ap (λ (o : Option ℕ). cond (eqb e.name n) (some e.pid) o) (first-name n es)

first_group : {B : Type 0} (f : Group → B) (s : ℕ) (gs : List Group) → map f (find s gs) ≡ first_with no_group (λ g. g.name) f s gs
unfolding find first_with
first_group f s [] = refl
first_group f s (g ∷ gs) = go (eqb g.name s) (first_group f s gs)
  where
    go : (b : Bool) → map f (find s gs) ≡ first_with no_group (λ h. h.name) f s gs
        → map f (cond b (some g) (find s gs)) ≡ cond b (some (f g)) (first_with no_group (λ h. h.name) f s gs)
    go true ih = refl
    go false ih = ih

-- ---- tables

module _ {cap : ℕ} {st : State} {t : List ℕ} (sound : Sound cap t) (m : Means cap st t) where
  -- the pids of a group are those of the state
  pub pid-is : (g : ℕ) → g < count_of t → (n : ℕ) → pid_named cap t g n ≡ lookup n (group_at st.groups g).names
  pid-is g h n =
      let es : List Entry = (group_at st.groups g).names in
      let few : names_of t g ≡ length es = m.names g h in
      ap (λ (l : ℕ). map (pid_of cap t g) (at_place (process_of cap t g) l n)) few
      ∙ placed no_entry (λ e. e.name) (λ e. e.pid) es (process_of cap t g) (pid_of cap t g) n
      (λ i j d l q. let u = sound.names_ascend g i j h d (omega (arith, few)) in omega arith)
      (λ k l. m.process g k h (omega (arith, few))) (λ k l. m.pid g k h (omega (arith, few)))
      ∙ sym (first-name n es)

  -- what the groups have is what the s_groups of the state have, and so it is of the one of the name s
  pub group-is : {B : Type 0} (v : ℕ → B) (f : Group → B) → ((g : ℕ) → g < count_of t → v g ≡ f (group_at st.groups g))
      → (s : ℕ) → map v (group_named t s) ≡ map f (find s st.groups)
  group-is v f values s =
      ap (λ (l : ℕ). map v (at_place (name_of t) l s)) m.count
      ∙ placed no_group (λ g. g.name) f st.groups (name_of t) v s
      (λ i j d l q. let u = sound.groups_ascend i j d (omega (arith, m.count)) in omega arith)
      (λ g l. m.name g (omega (arith, m.count))) (λ g l. values g (omega (arith, m.count)))
      ∙ sym (first_group f s st.groups)

-- ---- states

-- where f tells members and lookups, regular states that have the same f of the s_group of a name have the same s_group
module _ {cap : ℕ} {a b : State} (v : Regular cap a) (w : Regular cap b) {B : Type 0} (f : Group → B)
    (tells : (g h : Group) → f g ≡ f h → (g.members ≡ h.members) × ((n : ℕ) → lookup n g.names ≡ lookup n h.names)) where
  same-group : (s : ℕ) (g h : Group) → find s a.groups ≡ some g → find s b.groups ≡ some h → f g ≡ f h → g ≡ h
  same-group s g h p q e =
      λ k. record {
        name = (found_name s a.groups g p ∙ sym (found_name s b.groups h q)) k;
        members = (tells g h e).0 k;
        names = lookups-determine 0 g.names h.names (regular-found v s g p).names_sound.names (regular-found w s h q).names_sound.names (tells g h e).1 k;
      }

  pub same-found : (s : ℕ) → map f (find s a.groups) ≡ map f (find s b.groups) → find s a.groups ≡ find s b.groups
  same-found s e = go (find s a.groups) refl (find s b.groups) refl e
    where
      go : (o : Option Group) → find s a.groups ≡ o → (r : Option Group) → find s b.groups ≡ r → map f o ≡ map f r → o ≡ r
      go none x none y q = refl
      go none x (some h) y q = let z : ◌≡◌ {A = ℕ} 0 1 = cc in absurd (omega arith)
      go (some g) x none y q = let z : ◌≡◌ {A = ℕ} 0 1 = cc in absurd (omega arith)
      go (some g) x (some h) y q = ap some (same-group s g h x y (some-injective (f g) (f h) q))
