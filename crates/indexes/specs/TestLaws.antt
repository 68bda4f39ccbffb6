-- Rows compared with a walk: which it holds, by s_group and by name; ascending rows that are all held and as many; and rows read off words one by one.
-- Assumes nothing.
use Rattle.std.proofs.Math.Path.{◌≡◌, refl}
use Rattle.std.proofs.Common.{sym, ◌∙◌, arith, eq-eqb, ne_eqb, eqb-true}
use Rattle.std.proofs.Math.Logic.{⊎_elim}
use Rattle.std.specs.Prelude.{true, false, ◌&&◌, ◌||◌, eqb, length}
use Rattle.std.proofs.lemmas.Bool.{false≢true}
use Rattle.std.proofs.Math.Bool.{or-false, or_assoc, and-eq-true_iff}
use Rattle.std.proofs.Math.Option.{none, some}
use mathlib.Core.List.{List, [], ◌∷◌, ◌++◌}
use Prim.Native.Nat.{ℕ, zero, suc, ◌≤◌, ◌<◌}
use Rattle.nodes.specs.Bools.{by_eq}
use Rattle.entries.specs.Entries.{Entry, half_word}
use Rattle.entries.specs.NamespaceSound as Namespace
use Rattle.semantics.specs.Sizes.{group_names}
use Rattle.semantics.specs.State.{Group, find}
use Rattle.semantics.specs.Regular.{Every, Rising, RegularGroup}
use Rattle.semantics.specs.Truth.{or_cases}
use Rattle.semantics.specs.Places.{group_at, rising-iff}
use Rattle.indexes.specs.Index.{Row, key_of, group_of, rows, walk, sorted}
use Rattle.indexes.specs.Ascending.{Ascending, Distinct, holds, all_held}
use Rattle.indexes.specs.Sorting.{length-sorted, holds_key-low, sorted-ascending, holds-put_in, sorted-holds, sorted-is}

-- ---- which rows a walk holds

pub holds-append : (r : Row) (xs ys : List Row) → holds r (xs ++ ys) ≡ holds r xs || holds r ys
unfolding holds
holds-append r [] ys = refl
holds-append r (x ∷ xs) ys = rw (holds-append r xs ys) (sym (or_assoc (eqb x.key r.key && eqb x.name r.name) (holds r xs) (holds r ys)))

-- none that is of another s_group
pub holds-other : (r : Row) (s : ℕ) (es : List Entry) → s < group_names → (s ≡ group_of r → ⊥) → holds r (rows s es) ≡ false
unfolding holds rows
holds-other r s [] h d = refl
holds-other r s (e ∷ es) h d = rw (ne_eqb (key_of e.pid s) r.key (λ q. d (omega (arith, q)))) (holds-other r s es h d)

-- no s_group has a name that is not above the bound
pub none_below : (s b : ℕ) (gs : List Group) → Rising b gs → s ≤ b → find s gs ≡ none
unfolding find
none_below s b [] r h = refl
none_below s b (g ∷ gs) r h = rw (ne_eqb g.name s (λ q. omega (arith, r.0))) (none_below s g.name gs r.1 (omega (arith, r.0)))

-- only those whose names are in range
named_rows : (r : Row) (s b : ℕ) (es : List Entry) → Namespace.Ascending b es → holds r (rows s es) ≡ true → (0 < r.name) × (r.name < half_word)
unfolding holds rows Namespace.Ascending
named_rows r s b [] a h = absurd (false≢true h)
named_rows r s b (e ∷ es) a h =
    or_cases (eqb (key_of e.pid s) r.key && eqb e.name r.name) (holds r (rows s es)) h
    (λ t.
    let q : e.name ≡ r.name = eqb-true e.name r.name ((and-eq-true_iff (eqb (key_of e.pid s) r.key) (eqb e.name r.name)).0 t).1 in omega (arith, a.0, a.1))
    (λ t. named_rows r s e.name es a.3 t)

module _ (cap N : ℕ) where
  -- none whose s_group is not there
  pub holds-none : (r : Row) (gs : List Group) → Every (RegularGroup cap N) gs → find (group_of r) gs ≡ none → holds r (walk gs) ≡ false
  unfolding holds walk find
  holds-none r [] e f = refl
  holds-none r (g ∷ gs) e f =
      ⊎_elim
      (λ (t : g.name ≡ group_of r).
      let q : some g ≡ none = rw (eq-eqb g.name (group_of r) t) at f in let z : ◌≡◌ {A = ℕ} 0 1 = cc in absurd (omega arith))
      (λ (t : g.name ≡ group_of r → ⊥).
      holds-append r (rows g.name g.names) (walk gs)
      ∙ rw (holds-other r g.name g.names e.0.small t) (holds-none r gs e.1 (rw (ne_eqb g.name (group_of r) t) at f)))
      (by_eq g.name (group_of r))

  -- else those that the s_group has
  pub holds-group : (r : Row) (b : ℕ) (gs : List Group) → Rising b gs → Every (RegularGroup cap N) gs → (k : ℕ) → k < length gs → (group_at gs k).name ≡ group_of r
      → holds r (walk gs) ≡ holds r (rows (group_of r) (group_at gs k).names)
  unfolding walk
  holds-group r b [] i e k h q = absurd (omega arith)
  holds-group r b (g ∷ gs) i e zero h q =
      holds-append r (rows g.name g.names) (walk gs)
      ∙ rw (holds-none r gs e.1 (none_below (group_of r) g.name gs i.1 (omega arith)), q) (or-false (holds r (rows (group_of r) g.names)))
  holds-group r b (g ∷ gs) i e (suc k) h q =
      let apart : g.name ≡ group_of r → ⊥ = λ d. omega (arith, ((rising-iff g.name gs).0 i.1).above k (omega arith)) in
      holds-append r (rows g.name g.names) (walk gs)
      ∙ rw (holds-other r g.name g.names e.0.small apart) (holds-group r g.name gs i.1 e.1 k (omega arith) q)

  -- its name is in range
  pub holds_named : (r : Row) (gs : List Group) → Every (RegularGroup cap N) gs → holds r (walk gs) ≡ true → (0 < r.name) × (r.name < half_word)
  unfolding holds walk
  holds_named r [] e h = absurd (false≢true h)
  holds_named r (g ∷ gs) e h =
      or_cases (holds r (rows g.name g.names)) (holds r (walk gs)) (sym (holds-append r (rows g.name g.names) (walk gs)) ∙ h)
      (λ t. named_rows r g.name 0 g.names e.0.names_sound.names t)
      (λ t. holds_named r gs e.1 t)

-- ---- ascending rows that are all held

pub holds-sorted : (r : Row) (ws : List Row) → holds r (sorted ws) ≡ holds r ws
unfolding holds sorted
holds-sorted r [] = refl
holds-sorted r (w ∷ ws) = holds-put_in r w (sorted ws) ∙ rw (holds-sorted r ws)

all_held-sorted : (xs ws : List Row) → all_held xs (sorted ws) ≡ all_held xs ws
unfolding all_held
all_held-sorted [] ws = refl
all_held-sorted (x ∷ xs) ws = rw (holds-sorted x ws, all_held-sorted xs ws)

all_held-own : (xs : List Row) → all_held xs xs ≡ true
all_held-own xs = sym (all_held-sorted xs xs) ∙ sorted-holds xs

ascending-distinct : (b : ℕ) (xs : List Row) → Ascending b xs → Distinct xs
ascending-distinct b [] s = tt
ascending-distinct b (x ∷ xs) s = (omega (arith, s.0), (holds_key-low x.key x.key xs s.1 (omega arith), ascending-distinct x.key xs s.1))

-- as many as distinct ones, and among them: these are the others sorted
pub sorted-held : (xs ws : List Row) → Ascending 0 xs → Distinct ws → length xs ≡ length ws → all_held xs ws ≡ true → sorted ws ≡ xs
sorted-held xs ws s d n h =
    let e : Distinct xs = ascending-distinct 0 xs s in
    sym (sorted-is (sorted ws) xs (sorted-ascending ws d) e (length-sorted ws ∙ sym n) (all_held-sorted xs ws ∙ h)) ∙ sorted-is xs xs s e refl (all_held-own xs)

-- rows are held when sorted
pub held-sorted : (ws : List Row) → all_held (sorted ws) ws ≡ true
held-sorted ws = sym (all_held-sorted (sorted ws) ws) ∙ all_held-own (sorted ws)
