-- An equation of unions, intersections and differences, decided by its truth table. Assumes nothing.
use Rattle.std.specs.Prelude.{◌≡◌, refl, Bool, true, false, not, ◌&&◌, ◌||◌, List, [], ◌∷◌, map, ℕ, zero, suc, T, length, get_or}
use Rattle.std.proofs.Common.{sym, ap, ap₂, ◌∙◌, subst}
use Rattle.std.proofs.Math.ListN.{get_or-map}
use Rattle.std.proofs.lemmas.List.{length-map}
use Rattle.nodes.specs.Sets.{has, union, inter, diff}
use Rattle.nodes.proofs.SetLaws.{has-none, has-union, has-inter, has_diff, has-ext}

-- a set made of the sets of a list, which stand by their places
pub data Term : Type 0 where
  var : ℕ → Term
  none : Term
  or : Term → Term → Term
  and : Term → Term → Term
  less : Term → Term → Term

-- the set that a term stands for
abbrev pub sets : List ℕ → Term → ℕ
sets ws (var k) = get_or ws k 0
sets ws none = 0
sets ws (or s t) = union (sets ws s) (sets ws t)
sets ws (and s t) = inter (sets ws s) (sets ws t)
sets ws (less s t) = diff (sets ws s) (sets ws t)

-- whether a node is in it, from whether it is in each set of the list
abbrev pub holds : List Bool → Term → Bool
holds bs (var k) = get_or bs k false
holds bs none = false
holds bs (or s t) = holds bs s || holds bs t
holds bs (and s t) = holds bs s && holds bs t
holds bs (less s t) = holds bs s && not (holds bs t)

row : List ℕ → ℕ → List Bool
row ws i = map (λ (w : ℕ). has w i) ws

has-sets : (ws : List ℕ) (t : Term) (i : ℕ) → has (sets ws t) i ≡ holds (row ws i) t
unfolding row
has-sets ws (var k) i =
    sym (get_or-map (λ (w : ℕ). has w i) ws k 0) ∙ ap (get_or (map (λ (w : ℕ). has w i) ws) k) (has-none i)
has-sets ws none i = has-none i
has-sets ws (or s t) i = has-union (sets ws s) (sets ws t) i ∙ ap₂ ◌||◌ (has-sets ws s i) (has-sets ws t i)
has-sets ws (and s t) i = has-inter (sets ws s) (sets ws t) i ∙ ap₂ ◌&&◌ (has-sets ws s i) (has-sets ws t i)
has-sets ws (less s t) i =
    has_diff (sets ws s) (sets ws t) i ∙ ap₂ (λ (x y : Bool). x && not y) (has-sets ws s i) (has-sets ws t i)

-- ---- the table

abbrev pub same : Bool → Bool → Bool
same true b = b
same false b = not b

same_eq : (x y : Bool) → T (same x y) → x ≡ y
same_eq true true h = refl
same_eq true false h = absurd h
same_eq false true h = absurd h
same_eq false false h = refl

eq-same : (x y : Bool) → x ≡ y → T (same x y)
eq-same x y e = subst (λ (z : Bool). T (same x z)) e (both x)
  where
    both : (x : Bool) → T (same x x)
    both true = tt
    both false = tt

-- whether p holds in every row of n columns
abbrev pub all : ℕ → (List Bool → Bool) → Bool
all zero p = p []
all (suc n) p = all n (λ bs. p (true ∷ bs)) && all n (λ bs. p (false ∷ bs))

and_l : (x y : Bool) → T (x && y) → T x
and_l true y h = tt
and_l false y h = h

and_r : (x y : Bool) → T (x && y) → T y
and_r true y h = h
and_r false y h = absurd h

all-at : (p : List Bool → Bool) (bs : List Bool) → T (all (length bs) p) → T (p bs)
all-at p [] h = h
all-at p (true ∷ bs) h =
    all-at (λ cs. p (true ∷ cs)) bs (and_l (all (length bs) (λ cs. p (true ∷ cs))) (all (length bs) (λ cs. p (false ∷ cs))) h)
all-at p (false ∷ bs) h =
    all-at (λ cs. p (false ∷ cs)) bs (and_r (all (length bs) (λ cs. p (true ∷ cs))) (all (length bs) (λ cs. p (false ∷ cs))) h)

all_row : (ws : List ℕ) (i : ℕ) (p : List Bool → Bool) → T (all (length ws) p) → T (p (row ws i))
unfolding row
all_row ws i p h = all-at p (row ws i) (subst (λ (n : ℕ). T (all n p)) (sym (length-map ws (λ (w : ℕ). has w i))) h)

abbrev pub implies : Bool → Bool → Bool
implies true b = b
implies false b = true

imp : (x y : Bool) → T (implies x y) → T x → T y
imp true y h k = h
imp false y h k = absurd k

and_i : (x y : Bool) → T x → T y → T (x && y)
and_i true y h k = k
and_i false y h k = absurd h

-- ---- equations

-- an equation of two terms
pub record Eqn : Type 0 where
  pub left : Term
  pub right : Term

infix 70 ◌≐◌
abbrev pub ◌≐◌ : Term → Term → Eqn
s ≐ t = record { left = s; right = t }

-- what is given: every equation of a list
abbrev pub Given : List ℕ → List Eqn → Type 0
Given ws [] = Unit
Given ws (e ∷ es) = (sets ws e.left ≡ sets ws e.right) × Given ws es

-- whether an equation holds in a row, and whether every one of a list does
abbrev pub agree : List Bool → Eqn → Bool
agree bs e = same (holds bs e.left) (holds bs e.right)

abbrev pub agrees : List Bool → List Eqn → Bool
agrees bs [] = true
agrees bs (e ∷ es) = agree bs e && agrees bs es

agree-row : (ws : List ℕ) (i : ℕ) (e : Eqn) → sets ws e.left ≡ sets ws e.right → T (agree (row ws i) e)
agree-row ws i e g =
    eq-same (holds (row ws i) e.left) (holds (row ws i) e.right)
    (sym (has-sets ws e.left i) ∙ ap (λ (w : ℕ). has w i) g ∙ has-sets ws e.right i)

agrees-row : (ws : List ℕ) (i : ℕ) (es : List Eqn) → Given ws es → T (agrees (row ws i) es)
agrees-row ws i [] g = tt
agrees-row ws i (e ∷ es) g =
    and_i (agree (row ws i) e) (agrees (row ws i) es) (agree-row ws i e g.0) (agrees-row ws i es g.1)

-- From what is given follows an equation that holds in each row of the table in which all that is given holds. The table has a row for each
-- choice of which of the sets a node is in. Where the terms are written out it computes, and `tt` proves that it is right.
pub by-table : (es : List Eqn) (e : Eqn) (ws : List ℕ) → T (all (length ws) (λ bs. implies (agrees bs es) (agree bs e)))
    → Given ws es → sets ws e.left ≡ sets ws e.right
by-table es e ws h g =
    has-ext (sets ws e.left) (sets ws e.right)
    (λ i. has-sets ws e.left i
    ∙ same_eq (holds (row ws i) e.left) (holds (row ws i) e.right)
    (imp (agrees (row ws i) es) (agree (row ws i) e) (all_row ws i (λ bs. implies (agrees bs es) (agree bs e)) h) (agrees-row ws i es g))
    ∙ sym (has-sets ws e.right i))

-- ---- names for the first places

abbrev pub x : Term
x = var 0

abbrev pub y : Term
y = var 1

abbrev pub z : Term
z = var 2

abbrev pub u : Term
u = var 3

abbrev pub v : Term
v = var 4
