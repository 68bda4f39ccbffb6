-- What is seen of a list of s_groups: after one is put, added or dropped, who is in one, and how many there are. Assumes nothing.
use Rattle.std.specs.Prelude.{◌≡◌, refl, ◌≢◌, Bool, false, not, ◌&&◌, cond, ℕ, suc, ◌<◌, ltb, length}
use Rattle.std.proofs.Common.{sym, ap, ◌∙◌, arith, eqb-true, eq-eqb, ne_eqb}
use Rattle.std.proofs.Math.Path.{fun_ext}
use Rattle.std.proofs.Math.Logic.{⊎_elim}
use Rattle.std.proofs.Math.Bool.{true, or-true}
use Rattle.std.proofs.lemmas.Bool.{false≢true, eqb-false}
use Rattle.std.proofs.Math.Option.{Option, none, some}
use mathlib.Core.List.{List, [], ◌∷◌, map}
use Rattle.std.proofs.Math.Dec.{eqb}
use Rattle.nodes.specs.Sets.{has, union_all, word_at}
use Rattle.nodes.specs.Bools.{by_test, by_eq}
use Rattle.nodes.proofs.SetLaws.{has-none, has-union}
use Rattle.entries.specs.Entries.{Entry, lookup}
use Rattle.semantics.specs.Sizes.{group_names}
use Rattle.semantics.specs.State.{Group, find, become, put, add_group, drop_group, all_members}
use Rattle.semantics.specs.Ranges.{held}
use Rattle.semantics.specs.Regular.{Every, Rising, RegularGroup}
use Rattle.semantics.specs.Truth.{or_cases}
use Rattle.semantics.specs.Groups.{found_name}
use Rattle.published.specs.Published.{Set, Map, of_some, any, with_at, less_at, SGroup, Node, FreeGroups, those, IsSGroupNode}
use Rattle.published.proofs.SeenState.{seen, names_seen, how_many, chained}
use Rattle.published.proofs.SomeBelow.{any-hit, any-is}
use Rattle.published.proofs.Concatenated.{run_at, run_all, Between, from_zero, chained-keyed, run_all-one, length-chained, in_turn, count-chained}

-- ---- the parts of a published state

-- f of what there is
abbrev pub on_some : {A B : Type 0} → (A → B) → Option A → Option B
on_some f = of_some none (λ a. some (f a))

-- i is in the s_group, if there is one
abbrev pub member : ℕ → Option SGroup → Bool
member i = of_some false (λ g. g.nodes i)

abbrev pub groups_seen : List Group → Map SGroup
groups_seen gs s = on_some seen (find s gs)

abbrev pub free_seen : List ℕ → FreeGroups
free_seen free i = has (word_at free i)

abbrev pub hidden_seen : ℕ → Map SGroup → Set
hidden_seen hidden grs i = has hidden i && not (IsSGroupNode i grs)

abbrev pub node_seen : ℕ → List ℕ → Map SGroup → ℕ → Node
node_seen hidden links grs i = record { hidden = has hidden i; connections = has (word_at links i); gr_names = names_seen i grs }

abbrev pub nodes_seen : ℕ → ℕ → List ℕ → Map SGroup → Map Node
nodes_seen size hidden links grs i = cond (ltb i size) (some (node_seen hidden links grs i)) none

-- the nodes that are seen are those of the roster
pub roster-seen : (size hidden : ℕ) (links : List ℕ) (grs : Map SGroup) (i : ℕ) → held (nodes_seen size hidden links grs i) ≡ ltb i size
roster-seen size hidden links grs i = go (ltb i size)
  where
    go : (x : Bool) → held (cond x (some (node_seen hidden links grs i)) none) ≡ x
    go true = refl
    go false = refl

-- a test holds of nodes alone
pub held-those : (f : Node → Bool) (nds : Map Node) (i : ℕ) → those f nds i ≡ true → held (nds i) ≡ true
held-those f nds i = go (nds i)
  where
    go : (o : Option Node) → of_some false f o ≡ true → held o ≡ true
    go none h = h
    go (some nd) h = refl

-- a test of a node that is seen
pub those-seen : (f : Node → Bool) (size hidden : ℕ) (links : List ℕ) (grs : Map SGroup) (i : ℕ)
    → those f (nodes_seen size hidden links grs) i ≡ ltb i size && f (node_seen hidden links grs i)
those-seen f size hidden links grs i = go (ltb i size)
  where
    go : (x : Bool) → of_some false f (cond x (some (node_seen hidden links grs i)) none) ≡ x && f (node_seen hidden links grs i)
    go true = refl
    go false = refl

-- ---- one s_group is another

-- nothing is something
pub nothing_there : {A B : Type 0} {a : A} → ◌≡◌ {A = Option A} none (some a) → B
nothing_there e = let z : ◌≡◌ {A = ℕ} 0 1 = cc in absurd (omega arith)

find-put : (s m : ℕ) (ns : List Entry) (gs : List Group) (t : ℕ) → find t (put s m ns gs) ≡ on_some (become s m ns) (find t gs)
unfolding find put
find-put s m ns [] t = refl
find-put s m ns (g ∷ gs) t =
    ⊎_elim (λ (e : eqb g.name t ≡ true). rw e) (λ (e : eqb g.name t ≡ false). rw e (find-put s m ns gs t)) (by_test (eqb g.name t))

-- the s_group s has other members and names
pub put-seen : (s : ℕ) (gs : List Group) (g : Group) → find s gs ≡ some g → (m : ℕ) (ns : List Entry) (t : ℕ)
    → groups_seen (put s m ns gs) t ≡ with_at s (record { nodes = has m; namespace = λ n. lookup n ns }) (groups_seen gs) t
put-seen s gs g f m ns t = ap (on_some seen) (find-put s m ns gs t) ∙ go (eqb s t) refl (find t gs) refl
  where
    go : (x : Bool) → eqb s t ≡ x → (o : Option Group) → find t gs ≡ o
        → on_some seen (on_some (become s m ns) o) ≡ cond x (some (record { nodes = has m; namespace = λ n. lookup n ns })) (on_some seen o)
    go true e none h = nothing_there (sym h ∙ ap (λ (k : ℕ). find k gs) (sym (eqb-true s t e)) ∙ f)
    go true e (some k) h = rw (eq-eqb k.name s (found_name t gs k h ∙ sym (eqb-true s t e)))
    go false e none h = refl
    go false e (some k) h = rw (ne_eqb k.name s (λ q. eqb-false s t e (sym q ∙ found_name t gs k h)))

-- two tests of one thing, in either order
cond-comm : {A : Type 0} (x y : Bool) (a b c : A) → (x ≡ true → y ≡ true → ⊥) → cond x a (cond y b c) ≡ cond y b (cond x a c)
cond-comm true true a b c h = absurd (h refl refl)
cond-comm true false a b c h = refl
cond-comm false true a b c h = refl
cond-comm false false a b c h = refl

find-add : (g : Group) (gs : List Group) → find g.name gs ≡ none → (t : ℕ) → find t (add_group g gs) ≡ cond (eqb g.name t) (some g) (find t gs)
unfolding find add_group
find-add g [] h t = refl
find-add g (k ∷ gs) h t =
    ⊎_elim
    (λ (p : k.name ≡ g.name). nothing_there (sym (rw (eq-eqb k.name g.name p) at h)))
    (λ (p : k.name ≡ g.name → ⊥). go p (ltb g.name k.name) (find-add g gs (rw (ne_eqb k.name g.name p) at h) t))
    (by_eq k.name g.name)
  where
    go : k.name ≢ g.name → (y : Bool) → find t (add_group g gs) ≡ cond (eqb g.name t) (some g) (find t gs)
        → find t (cond y (g ∷ k ∷ gs) (k ∷ add_group g gs)) ≡ cond (eqb g.name t) (some g) (cond (eqb k.name t) (some k) (find t gs))
    go p true ih = refl
    go p false ih = rw ih (cond-comm (eqb k.name t) (eqb g.name t) _ _ _ (λ a b. p (eqb-true k.name t a ∙ sym (eqb-true g.name t b))))

pub add-seen : (g : Group) (gs : List Group) → find g.name gs ≡ none → (t : ℕ) → groups_seen (add_group g gs) t
    ≡ with_at g.name (seen g) (groups_seen gs) t
add-seen g gs f t = ap (on_some seen) (find-add g gs f t) ∙ go (eqb g.name t)
  where
    go : (x : Bool) → on_some seen (cond x (some g) (find t gs)) ≡ cond x (some (seen g)) (groups_seen gs t)
    go true = refl
    go false = refl

find-drop : (s : ℕ) (gs : List Group) (t : ℕ) → find t (drop_group s gs) ≡ cond (eqb s t) none (find t gs)
unfolding find drop_group
find-drop s [] t = same (eqb s t)
  where
    same : (x : Bool) → ◌≡◌ {A = Option Group} none (cond x none none)
    same true = refl
    same false = refl
find-drop s (g ∷ gs) t = go (eqb g.name s) refl (eqb s t) refl (find-drop s gs t)
  where
    go : (x : Bool) → eqb g.name s ≡ x → (y : Bool) → eqb s t ≡ y → find t (drop_group s gs) ≡ cond y none (find t gs)
        → find t (cond x (drop_group s gs) (g ∷ drop_group s gs)) ≡ cond y none (cond (eqb g.name t) (some g) (find t gs))
    go true e true k ih = ih
    go true e false k ih = ih ∙ rw (ne_eqb g.name t (λ q. eqb-false s t k (sym (eqb-true g.name s e) ∙ q)))
    go false e true k ih = rw (ne_eqb g.name t (λ q. eqb-false g.name s e (q ∙ sym (eqb-true s t k)))) ih
    go false e false k ih = rw ih

pub drop-seen : (s : ℕ) (gs : List Group) → groups_seen (drop_group s gs) ≡ less_at s (groups_seen gs)
drop-seen s gs = fun_ext (λ t. ap (on_some seen) (find-drop s gs t) ∙ go t (eqb s t))
  where
    go : (t : ℕ) (x : Bool) → on_some seen (cond x none (find t gs)) ≡ cond x none (groups_seen gs t)
    go t true = refl
    go t false = refl

-- ---- s_groups in order of name

-- names from b on, below the bound
between-names : (cap N b : ℕ) (gs : List Group) → Rising b gs → Every (RegularGroup cap N) gs → {B : Type 0} (h : Group → List B)
    → Between (λ g. g.name) h (suc b) group_names gs
unfolding Between
between-names cap N b [] r e h = tt
between-names cap N b (g ∷ gs) r e h = (r.0, e.0.small, between-names cap N g.name gs r.1 e.1 h)

run-found : {B : Type 0} (h : Group → List B) (s : ℕ) (gs : List Group) → of_some [] h (find s gs) ≡ run_at (λ g. g.name) h s gs
unfolding find run_at
run-found h s [] = refl
run-found h s (g ∷ gs) = go (eqb g.name s) (run-found h s gs)
  where
    go : (x : Bool) → of_some [] h (find s gs) ≡ run_at (λ k. k.name) h s gs
        → of_some [] h (cond x (some g) (find s gs)) ≡ cond x (h g) (run_at (λ k. k.name) h s gs)
    go true ih = refl
    go false ih = ih

module _ (cap N : ℕ) (gs : List Group) (rising : Rising 0 gs) (each : Every (RegularGroup cap N) gs) where
  -- a run for each s_group, by name
  pub chained-found : {B : Type 0} (h : Group → List B) → chained group_names 0 (λ s. of_some [] h (find s gs)) ≡ run_all (λ g. g.name) h gs
  chained-found h =
      chained-keyed (λ g. g.name) h group_names 0 group_names gs _ refl (from_zero (λ g. g.name) h 1 group_names gs (between-names cap N 0 gs rising each h))
      (λ s l. run-found h s gs)

  -- the s_groups are those that are found
  pub gathered : chained group_names 0 (λ s. of_some [] (λ g. g ∷ []) (find s gs)) ≡ gs
  gathered = chained-found (λ g. g ∷ []) ∙ run_all-one (λ g. g.name) gs

  pub count-groups : how_many group_names (λ s. held (groups_seen gs s)) ≡ length gs
  count-groups =
      count-chained group_names (λ s. held (groups_seen gs s))
      ∙ length-chained group_names 0 (in_turn (λ s. held (groups_seen gs s))) (λ s. of_some [] (λ g. g ∷ []) (find s gs)) (λ s. one (find s gs) s)
      ∙ ap length gathered
    where
      one : (o : Option Group) (s : ℕ) → length (cond (held (on_some seen o)) (s ∷ []) []) ≡ length (of_some [] (λ g. g ∷ []) o)
      one none s = refl
      one (some g) s = refl

-- ---- who is in some s_group

-- i is in the set of the s_group that is found
abbrev pub in_found : (Group → ℕ) → ℕ → Option Group → Bool
in_found u i = of_some false (λ g. has (u g) i)

module _ (u : Group → ℕ) (i : ℕ) where
  found_in : (s : ℕ) (gs : List Group) → in_found u i (find s gs) ≡ true → has (union_all (map u gs)) i ≡ true
  unfolding find union_all
  found_in s [] h = absurd (false≢true h)
  found_in s (g ∷ gs) h =
      has-union (u g) (union_all (map u gs)) i
      ∙ ⊎_elim
      (λ (e : eqb g.name s ≡ true). let q : has (u g) i ≡ true = rw e at h in rw q)
      (λ (e : eqb g.name s ≡ false). rw (found_in s gs (rw e at h)) (or-true (has (u g) i)))
      (by_test (eqb g.name s))

  found_where : {A : Type 0} (cap N b : ℕ) (gs : List Group) → Rising b gs → Every (RegularGroup cap N) gs → has (union_all (map u gs)) i ≡ true
      → ((s : ℕ) → b < s → s < group_names → in_found u i (find s gs) ≡ true → A) → A
  unfolding find union_all
  found_where cap N b [] r e h k = absurd (false≢true (sym (has-none i) ∙ h))
  found_where cap N b (g ∷ gs) r e h k =
      or_cases (has (u g) i) _ (sym (has-union (u g) (union_all (map u gs)) i) ∙ h)
      (λ p. k g.name r.0 e.0.small (rw (eq-eqb g.name g.name refl) p))
      (λ p. found_where cap N g.name gs r.1 e.1 p (λ s a c f.
      k s (omega (arith, r.0)) c (rw (ne_eqb g.name s (λ z. omega arith)) f)))

  -- the nodes of a set for each s_group, together
  pub unions-seen : (cap N : ℕ) (gs : List Group) → Rising 0 gs → Every (RegularGroup cap N) gs
      → any group_names (λ s. in_found u i (find s gs)) ≡ has (union_all (map u gs)) i
  unions-seen cap N gs r e =
      any-is group_names _ _ (λ s l h. found_in s gs h)
      (λ h. found_where cap N 0 gs r e h (λ s a c f. any-hit group_names (λ t. in_found u i (find t gs)) s c f))

pub members-seen : (cap N : ℕ) (gs : List Group) → Rising 0 gs → Every (RegularGroup cap N) gs → (i : ℕ) → IsSGroupNode i (groups_seen gs)
    ≡ has (all_members gs) i
members-seen cap N gs r e i = ap (any group_names) (fun_ext (λ s. same (find s gs))) ∙ unions-seen (λ g. g.members) i cap N gs r e
  where
    same : (o : Option Group) → member i (on_some seen o) ≡ in_found (λ g. g.members) i o
    same none = refl
    same (some g) = refl
