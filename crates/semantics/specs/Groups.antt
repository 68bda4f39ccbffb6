-- s_groups in order of name: what finding, putting, adding and dropping one does to the list, to what holds of each, and to their members.
-- Assumes nothing.
use Rattle.std.specs.Prelude.{◌≡◌, refl, Bool, true, false, ◌||◌, cond, ℕ, suc, ◌≤◌, ◌<◌, ltb, length}
use Rattle.std.proofs.Common.{sym, ap, ap₂, ◌∙◌, subst, arith}
use Rattle.std.proofs.Math.Logic.{⊎_elim}
use Rattle.std.proofs.Math.Bool.{or-true, or_comm, or_assoc}
use Rattle.std.proofs.Math.Option.{none, some}
use mathlib.Core.List.{List, [], ◌∷◌, ◌++◌}
use Rattle.std.proofs.Math.Dec.{eqb}
use Rattle.std.proofs.lemmas.List.{length-map}
use borrow.Author.Tests.{eqb-true, eq-eqb, ne_eqb, lt-ltb, le-ltb}
use Rattle.nodes.specs.Sets.{has, union_all}
use Rattle.nodes.specs.Bools.{by_test, by_lt, by_eq}
use Rattle.nodes.proofs.SetLaws.{has-union}
use Rattle.entries.specs.Entries.{Entry}
use Rattle.semantics.specs.State.{Group, find, become, put, add_group, drop_group, all_members}
use Rattle.semantics.specs.Regular.{Every, Rising}

-- ---- what holds of each

pub every_map : (P Q : Group → Type 0) → ((g : Group) → P g → Q g) → (gs : List Group) → Every P gs → Every Q gs
every_map P Q h [] e = tt
every_map P Q h (g ∷ gs) e = (h g e.0, every_map P Q h gs e.1)

-- it holds of the s_group that is found
pub of-found : (s : ℕ) (gs : List Group) (g : Group) → find s gs ≡ some g → (P : Group → Type 0) → Every P gs → P g
unfolding find
of-found s [] g f P e = let z : ◌≡◌ {A = ℕ} 0 1 = cc in absurd (omega arith)
of-found s (h ∷ gs) g f P e =
    ⊎_elim
    (λ (t : eqb h.name s ≡ true). let q : some h ≡ some g = rw t at f in let p : h ≡ g = cc in rw p at e.0)
    (λ (t : eqb h.name s ≡ false). of-found s gs g (rw t at f) P e.1)
    (by_test (eqb h.name s))

-- what is found has the name
pub found_name : (s : ℕ) (gs : List Group) (g : Group) → find s gs ≡ some g → g.name ≡ s
unfolding find
found_name s [] g f = cc
found_name s (h ∷ gs) g f =
    ⊎_elim
    (λ (t : eqb h.name s ≡ true). let q : some h ≡ some g = rw t at f in let p : h ≡ g = cc in rw (← p) (eqb-true h.name s t))
    (λ (t : eqb h.name s ≡ false). found_name s gs g (rw t at f))
    (by_test (eqb h.name s))

module _ (P Q : Group → Type 0) (s m : ℕ) (ns : List Entry) where
  pub every-put : ((h : Group) → P h → Q h) → Q (record { name = s; members = m; names = ns }) → (gs : List Group) → Every P gs → Every Q (put s m ns gs)
  unfolding put
  every-put k q [] e = tt
  every-put k q (h ∷ gs) e = (
    ⊎_elim (λ (t : eqb h.name s ≡ true). rw (t, eqb-true h.name s t) q) (λ (t : eqb h.name s ≡ false). rw t (k h e.0)) (by_test (eqb h.name s)),
    every-put k q gs e.1,
  )

pub every-add : (P : Group → Type 0) (g : Group) (gs : List Group) → P g → Every P gs → Every P (add_group g gs)
unfolding add_group
every-add P g [] p e = (p, tt)
every-add P g (h ∷ gs) p e =
    ⊎_elim
    (λ (t : ltb g.name h.name ≡ true). rw t (p, e))
    (λ (t : ltb g.name h.name ≡ false). rw t (e.0, every-add P g gs p e.1))
    (by_test (ltb g.name h.name))

pub every_drop : (P : Group → Type 0) (s : ℕ) (gs : List Group) → Every P gs → Every P (drop_group s gs)
unfolding drop_group
every_drop P s [] e = tt
every_drop P s (g ∷ gs) e =
    ⊎_elim
    (λ (t : eqb g.name s ≡ true). rw t (every_drop P s gs e.1))
    (λ (t : eqb g.name s ≡ false). rw t (e.0, every_drop P s gs e.1))
    (by_test (eqb g.name s))

-- ---- how many there are

pub length-put : (s m : ℕ) (ns : List Entry) (gs : List Group) → length (put s m ns gs) ≡ length gs
unfolding put
length-put s m ns gs = length-map gs (become s m ns)

pub length-add_group : (g : Group) (gs : List Group) → length (add_group g gs) ≡ suc (length gs)
unfolding add_group
length-add_group g [] = refl
length-add_group g (h ∷ gs) =
    ⊎_elim
    (λ (t : ltb g.name h.name ≡ true). rw t)
    (λ (t : ltb g.name h.name ≡ false). rw t (ap suc (length-add_group g gs)))
    (by_test (ltb g.name h.name))

pub length-drop_group : (s : ℕ) (gs : List Group) → length (drop_group s gs) ≤ length gs
unfolding drop_group
length-drop_group s [] = omega arith
length-drop_group s (g ∷ gs) =
    ⊎_elim
    (λ (t : eqb g.name s ≡ true). rw t (omega (arith, length-drop_group s gs)))
    (λ (t : eqb g.name s ≡ false). rw t (omega (arith, length-drop_group s gs)))
    (by_test (eqb g.name s))

-- ---- names ascend

pub rising-put : (s m : ℕ) (ns : List Entry) (b : ℕ) (gs : List Group) → Rising b gs → Rising b (put s m ns gs)
unfolding put
rising-put s m ns b [] r = tt
rising-put s m ns b (g ∷ gs) r = (r.0, rising-put s m ns g.name gs r.1)

pub rising-add : (g : Group) (b : ℕ) (gs : List Group) → b < g.name → find g.name gs ≡ none → Rising b gs → Rising b (add_group g gs)
unfolding add_group find
rising-add g b [] h f r = (h, tt)
rising-add g b (k ∷ gs) h f r =
    ⊎_elim
    (λ (t : g.name < k.name). rw (lt-ltb g.name k.name) (h, (t, r.1)))
    (λ (t : k.name ≤ g.name).
    ⊎_elim
    (λ (q : k.name ≡ g.name). let z : some k ≡ none = rw (eq-eqb k.name g.name q) at f in let y : ◌≡◌ {A = ℕ} 0 1 = cc in absurd (omega arith))
    (λ (q : k.name ≡ g.name → ⊥).
    rw (le-ltb g.name k.name) (r.0, rising-add g k.name gs (omega arith) (rw (ne_eqb k.name g.name) at f) r.1))
    (by_eq k.name g.name))
    (by_lt g.name k.name)

rising-lower : (b c : ℕ) (gs : List Group) → b ≤ c → Rising c gs → Rising b gs
rising-lower b c [] h r = tt
rising-lower b c (g ∷ gs) h r = (omega (arith, r.0), r.1)

pub rising-drop : (s b : ℕ) (gs : List Group) → Rising b gs → Rising b (drop_group s gs)
unfolding drop_group
rising-drop s b [] r = tt
rising-drop s b (g ∷ gs) r =
    ⊎_elim
    (λ (t : eqb g.name s ≡ true). rw t (rising-lower b g.name (drop_group s gs) (omega (arith, r.0)) (rising-drop s g.name gs r.1)))
    (λ (t : eqb g.name s ≡ false). rw t (r.0, rising-drop s g.name gs r.1))
    (by_test (eqb g.name s))

-- ---- where the s_group of a name stands

-- none of a name that is below all
put-below : (s m : ℕ) (ns : List Entry) (b : ℕ) (gs : List Group) → s ≤ b → Rising b gs → put s m ns gs ≡ gs
unfolding put
put-below s m ns b [] h r = refl
put-below s m ns b (g ∷ gs) h r =
    ap₂ ◌∷◌ (rw (ne_eqb g.name s (λ e. omega (arith, r.0)))) (put-below s m ns g.name gs (omega (arith, r.0)) r.1)

drop-below : (s b : ℕ) (gs : List Group) → s ≤ b → Rising b gs → drop_group s gs ≡ gs
unfolding drop_group
drop-below s b [] h r = refl
drop-below s b (g ∷ gs) h r =
    ap (λ (x : Bool). cond x (drop_group s gs) (g ∷ drop_group s gs)) (ne_eqb g.name s (λ e. omega (arith, r.0)))
    ∙ ap (λ (l : List Group). g ∷ l) (drop-below s g.name gs (omega (arith, r.0)) r.1)

-- the s_groups before and after g, which has the name s, and the list when g is put or dropped
pub record Found (s : ℕ) (gs : List Group) (g : Group) : Type 0 where
  pub before : List Group
  pub after : List Group
  pub is : gs ≡ before ++ g ∷ after
  pub putting : (m : ℕ) (ns : List Entry) → put s m ns gs ≡ before ++ record { name = g.name; members = m; names = ns } ∷ after
  pub dropping : drop_group s gs ≡ before ++ after

found_here : (s : ℕ) (g : Group) (gs : List Group) → g.name ≡ s → Rising g.name gs → Found s (g ∷ gs) g
unfolding put drop_group
found_here s g gs e r =
    record {
      before = [];
      after = gs;
      is = refl;
      putting = λ m ns. rw (eq-eqb g.name s e) (ap (λ (l : List Group). record { name = g.name; members = m; names = ns } ∷ l) (put-below s m ns g.name gs (omega arith) r));
      dropping = rw (eq-eqb g.name s e) (drop-below s g.name gs (omega arith) r);
    }

found-past : (s : ℕ) (h : Group) (gs : List Group) (g : Group) → eqb h.name s ≡ false → Found s gs g → Found s (h ∷ gs) g
unfolding put drop_group
found-past s h gs g e w =
    record {
      before = h ∷ w.before;
      after = w.after;
      is = ap (λ (l : List Group). h ∷ l) w.is;
      putting = λ m ns. rw e (ap (λ (l : List Group). h ∷ l) (w.putting m ns));
      dropping = rw e (ap (λ (l : List Group). h ∷ l) w.dropping);
    }

pub found : (s b : ℕ) (gs : List Group) (g : Group) → Rising b gs → find s gs ≡ some g → Found s gs g
unfolding find
found s b [] g r f = let z : ◌≡◌ {A = ℕ} 0 1 = cc in absurd (omega arith)
found s b (h ∷ gs) g r f =
    ⊎_elim
    (λ (t : eqb h.name s ≡ true).
    let q : some h ≡ some g = rw t at f in
    let p : h ≡ g = cc in
    subst (λ (k : Group). Found s (h ∷ gs) k) p (found_here s h gs (eqb-true h.name s t) r.1))
    (λ (t : eqb h.name s ≡ false). found-past s h gs g t (found s h.name gs g r.1 (rw t at f)))
    (by_test (eqb h.name s))

-- ---- who is in some s_group

all_cons : (g : Group) (gs : List Group) (i : ℕ) → has (all_members (g ∷ gs)) i ≡ has g.members i || has (all_members gs) i
unfolding union_all
all_cons g gs i = has-union g.members (all_members gs) i

-- an s_group between others
all-between : (a : List Group) (g : Group) (b : List Group) (i : ℕ)
    → has (all_members (a ++ g ∷ b)) i ≡ has (all_members (a ++ b)) i || has g.members i
all-between [] g b i = all_cons g b i ∙ or_comm (has g.members i) (has (all_members b) i)
all-between (h ∷ a) g b i =
    all_cons h (a ++ g ∷ b) i ∙ ap (λ (x : Bool). has h.members i || x) (all-between a g b i)
    ∙ sym (or_assoc (has h.members i) _ _) ∙ ap (λ (x : Bool). x || has g.members i) (sym (all_cons h (a ++ b) i))

pub all-add : (g : Group) (gs : List Group) (i : ℕ) → has (all_members (add_group g gs)) i ≡ has (all_members gs) i || has g.members i
unfolding add_group
all-add g [] i = all-between [] g [] i
all-add g (h ∷ gs) i =
    ⊎_elim
    (λ (t : ltb g.name h.name ≡ true). rw t (all-between [] g (h ∷ gs) i))
    (λ (t : ltb g.name h.name ≡ false).
    rw t (all_cons h (add_group g gs) i ∙ ap (λ (x : Bool). has h.members i || x) (all-add g gs i)
    ∙ sym (or_assoc (has h.members i) _ _) ∙ ap (λ (x : Bool). x || has g.members i) (sym (all_cons h gs i))))
    (by_test (ltb g.name h.name))

module _ (s : ℕ) (gs : List Group) (g : Group) (place : Found s gs g) where
  -- the members of the others, and its own
  pub all_found : (i : ℕ) → has (all_members gs) i ≡ has (all_members (drop_group s gs)) i || has g.members i
  all_found i =
      ap (λ (l : List Group). has (all_members l) i) place.is ∙ all-between place.before g place.after i
      ∙ ap (λ (l : List Group). has (all_members l) i || has g.members i) (sym place.dropping)

  pub all-put : (m : ℕ) (ns : List Entry) (i : ℕ) → has (all_members (put s m ns gs)) i ≡ has (all_members (drop_group s gs)) i || has m i
  all-put m ns i =
      ap (λ (l : List Group). has (all_members l) i) (place.putting m ns) ∙ all-between place.before _ place.after i
      ∙ ap (λ (l : List Group). has (all_members l) i || has m i) (sym place.dropping)

  pub in_all : (i : ℕ) → has g.members i ≡ true → has (all_members gs) i ≡ true
  in_all i h = all_found i ∙ rw h (or-true (has (all_members (drop_group s gs)) i))
