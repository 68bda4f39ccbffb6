-- The walk over s_groups: how many rows it gives, that their keys are distinct and in range, and what each change of the s_groups makes of it.
-- Assumes nothing.
use Rattle.std.specs.Prelude.{◌≡◌, refl, Bool, true, false, ◌||◌, List, [], ◌∷◌, ◌++◌, ℕ, ◌*◌, ◌/◌, ◌%◌, ◌≤◌, ◌<◌, eqb, ltb, length}
use Rattle.std.proofs.Math.Path.{sym}
use Rattle.std.proofs.Common.{ap, ◌∙◌, ⊎_elim, true≢false, append_assoc, le_trans, suc-mul, mul-le-mul_right, arith, length-append, eq-eqb, ne_eqb, lt-ltb, le-ltb}
use Rattle.std.proofs.Math.Bool.{or_assoc}
use Rattle.std.proofs.Math.Option.{some}
use Rattle.std.proofs.Math.Seq.{append_snoc}
use Rattle.std.proofs.lemmas.Bool.{eqb-false}
use Rattle.nodes.specs.Sets.{node_limit, has}
use Rattle.nodes.specs.Bools.{by_test, by_eq, by_lt}
use Rattle.nodes.proofs.SetLaws.{has-roster}
use Rattle.entries.specs.Entries.{Entry, half_word, host, insert, remove, lookup, holds_pid, drop_hosted}
use Rattle.entries.specs.NamespaceSound as Namespace
use Rattle.entries.specs.EntryLaws.{held_or_not, holds_pid-lookup}
use Rattle.semantics.specs.Sizes.{group_limit, group_names}
use Rattle.semantics.specs.State.{Group, State, find, put, add_group, drop_group}
use Rattle.semantics.specs.Regular.{Every, Rising, RegularGroup, Regular}
use Rattle.semantics.specs.Truth.{neither}
use Rattle.semantics.specs.Groups.{found_name}
use Rattle.semantics.specs.Changed.{place, regular-found, small-name}
use Rattle.indexes.specs.Index.{Row, key_of, group_of, rows, walk, put_in, sorted, keep}
use Rattle.indexes.specs.Ascending.{holds_key, Distinct, Small}
use Rattle.indexes.specs.Updates.{differs, stays, everywhere}
use Rattle.indexes.specs.Sorting.{sorted-middle, keep-differs-none}

-- the row of an entry in the s_group s
abbrev pub row_of : ℕ → Entry → Row
row_of s e = record { key = key_of e.pid s; name = e.name }

-- ---- how many rows

pub walk-append : (a b : List Group) → walk (a ++ b) ≡ walk a ++ walk b
unfolding walk
walk-append [] b = refl
walk-append (g ∷ a) b = rw (walk-append a b) (sym (append_assoc (rows g.name g.names) (walk a) (walk b)))

pub length-rows : (s : ℕ) (es : List Entry) → length (rows s es) ≡ length es
unfolding rows
length-rows s [] = refl
length-rows s (e ∷ es) = rw (length-rows s es)

length-walk : (cap N : ℕ) (gs : List Group) → Every (RegularGroup cap N) gs → length (walk gs) ≤ length gs * cap
unfolding walk
length-walk cap N [] e = omega arith
length-walk cap N (g ∷ gs) e =
    rw (length-append (rows g.name g.names) (walk gs), length-rows g.name g.names, suc-mul (length gs) cap)
    (omega (arith, e.0.names_sound.room, length-walk cap N gs e.1))

pub length-walk-fits : (cap N : ℕ) (gs : List Group) → Every (RegularGroup cap N) gs → length gs ≤ group_limit → length (walk gs) ≤ group_limit * cap
length-walk-fits cap N gs e few = le_trans (length-walk cap N gs e) (mul-le-mul_right cap few)

-- ---- the s_group of a key

-- no row is of the s_group s
abbrev Apart : ℕ → List Row → Type 0
Apart s [] = Unit {0}
Apart s (x ∷ xs) = (group_of x ≡ s → ⊥) × Apart s xs

-- an s_group of another name, in range
abbrev Other : ℕ → Group → Type 0
Other s g = (g.name ≡ s → ⊥) × (g.name < group_names)

apart-rows : (s t : ℕ) (es : List Entry) (xs : List Row) → (t ≡ s → ⊥) → t < group_names → Apart s xs → Apart s (rows t es ++ xs)
unfolding rows
apart-rows s t [] xs d h a = a
apart-rows s t (e ∷ es) xs d h a = (λ q. d (omega (arith, q)), apart-rows s t es xs d h a)

apart-walk : (s : ℕ) (gs : List Group) → Every (Other s) gs → Apart s (walk gs)
unfolding walk
apart-walk s [] e = tt
apart-walk s (g ∷ gs) e = apart-rows s g.name g.names (walk gs) e.0.0 e.0.1 (apart-walk s gs e.1)

-- no key of s is held by rows that are not of s
apart-key : (s p : ℕ) (xs : List Row) → s < group_names → Apart s xs → holds_key (key_of p s) xs ≡ false
unfolding holds_key
apart-key s p [] h a = refl
apart-key s p (x ∷ xs) h a = rw (ne_eqb x.key (key_of p s) (λ q. a.0 (omega (arith, q)))) (apart-key s p xs h a.1)

-- a key of s is held in the rows of s where its pid is
own_key : (s p : ℕ) (es : List Entry) → holds_key (key_of p s) (rows s es) ≡ holds_pid p es
unfolding rows holds_key holds_pid
own_key s p [] = refl
own_key s p (e ∷ es) =
    ⊎_elim
    (λ (t : e.pid ≡ p). rw (eq-eqb e.pid p, eq-eqb (key_of e.pid s) (key_of p s) (omega arith)))
    (λ (t : e.pid ≡ p → ⊥). rw (ne_eqb e.pid p, ne_eqb (key_of e.pid s) (key_of p s) (λ q. t (omega (arith, q)))) (own_key s p es))
    (by_eq e.pid p)

holds_key-append : (k : ℕ) (xs ys : List Row) → holds_key k (xs ++ ys) ≡ holds_key k xs || holds_key k ys
unfolding holds_key
holds_key-append k [] ys = refl
holds_key-append k (x ∷ xs) ys = rw (holds_key-append k xs ys) (sym (or_assoc (eqb x.key k) (holds_key k xs) (holds_key k ys)))

-- ---- keys are distinct and in range

distinct-rows : (s : ℕ) (es : List Entry) (xs : List Row) → 0 < s → s < group_names → Namespace.Distinct es → Apart s xs → Distinct xs → Distinct (rows s es ++ xs)
unfolding rows Namespace.Distinct
distinct-rows s [] xs l h d a r = r
distinct-rows s (e ∷ es) xs l h d a r =
    (omega arith, (holds_key-append _ (rows s es) xs ∙ rw (own_key s e.pid es, d.0) (apart-key s e.pid xs h a), distinct-rows s es xs l h d.1 a r))

-- the s_groups after that of a name have other names
others-above : (cap N s b : ℕ) (gs : List Group) → s ≤ b → Rising b gs → Every (RegularGroup cap N) gs → Every (Other s) gs
others-above cap N s b [] h r e = tt
others-above cap N s b (g ∷ gs) h r e = ((λ q. omega (arith, r.0), e.0.small), others-above cap N s g.name gs (omega (arith, r.0)) r.1 e.1)

distinct-walk : (cap N b : ℕ) (gs : List Group) → Rising b gs → Every (RegularGroup cap N) gs → Distinct (walk gs)
unfolding walk
distinct-walk cap N b [] r e = tt
distinct-walk cap N b (g ∷ gs) r e =
    distinct-rows g.name g.names (walk gs) (omega (arith, r.0)) e.0.small e.0.names_sound.pids
    (apart-walk g.name gs (others-above cap N g.name g.name gs (omega arith) r.1 e.1)) (distinct-walk cap N g.name gs r.1 e.1)

pub walk-distinct : (cap : ℕ) (st : State) → Regular cap st → Distinct (walk st.groups)
walk-distinct cap st w = distinct-walk cap st.size 0 st.groups w.rising w.each

-- rows behind others
pub distinct-behind : (xs ys : List Row) → Distinct (xs ++ ys) → Distinct ys
distinct-behind [] ys d = d
distinct-behind (x ∷ xs) ys d = distinct-behind xs ys d.1.1

small-rows : (s : ℕ) (es : List Entry) (xs : List Row) → s < group_names → Small xs → Small (rows s es ++ xs)
unfolding rows
small-rows s [] xs h a = a
small-rows s (e ∷ es) xs h a = (omega arith, small-rows s es xs h a)

small-walk : (cap N : ℕ) (gs : List Group) → Every (RegularGroup cap N) gs → Small (walk gs)
unfolding walk
small-walk cap N [] e = tt
small-walk cap N (g ∷ gs) e = small-rows g.name g.names (walk gs) e.0.small (small-walk cap N gs e.1)

pub walk-small : {cap : ℕ} {st : State} → Regular cap st → Small (walk st.groups)
walk-small {cap} {st} w = small-walk cap st.size st.groups w.each

small-put_in : (r : Row) (xs : List Row) → group_of r < group_names → Small xs → Small (put_in r xs)
unfolding put_in
small-put_in r [] h a = (h, tt)
small-put_in r (x ∷ xs) h a =
    ⊎_elim
    (λ (t : ltb x.key r.key ≡ true). rw t (a.0, small-put_in r xs h a.1))
    (λ (t : ltb x.key r.key ≡ false). rw t (h, a))
    (by_test (ltb x.key r.key))

small-sorted : (xs : List Row) → Small xs → Small (sorted xs)
unfolding sorted
small-sorted [] a = tt
small-sorted (x ∷ xs) a = small-put_in x (sorted xs) a.0 (small-sorted xs a.1)

pub walk-small-sorted : {cap : ℕ} {st : State} → Regular cap st → Small (sorted (walk st.groups))
walk-small-sorted {st = st} w = small-sorted (walk st.groups) (walk-small w)

-- ---- what keeps rows

pub keep_append : (p : Row → Bool) (xs ys : List Row) → keep p (xs ++ ys) ≡ keep p xs ++ keep p ys
unfolding keep
keep_append p [] ys = refl
keep_append p (x ∷ xs) ys =
    ⊎_elim (λ (t : p x ≡ true). rw (t, keep_append p xs ys)) (λ (t : p x ≡ false). rw (t, keep_append p xs ys)) (by_test (p x))

-- p holds of the rows that are not of s
abbrev Spares : ℕ → (Row → Bool) → Type 0
Spares s p = (x : Row) → (group_of x ≡ s → ⊥) → p x ≡ true

keep_apart : (s : ℕ) (p : Row → Bool) → Spares s p → (xs : List Row) → Apart s xs → keep p xs ≡ xs
unfolding keep
keep_apart s p h [] a = refl
keep_apart s p h (x ∷ xs) a = rw (h x a.0, keep_apart s p h xs a.1)

spares-differs : (s q : ℕ) → s < group_names → Spares s (differs (key_of q s))
spares-differs s q h x d = rw (ne_eqb x.key (key_of q s) (λ e. d (omega (arith, e))))

spares-stays : (s set : ℕ) → Spares s (stays s set)
spares-stays s set x d = rw (ne_eqb (group_of x) s d)

keep-remove : (s n q : ℕ) (es : List Entry) → Namespace.Distinct es → lookup n es ≡ some q → keep (differs (key_of q s)) (rows s es) ≡ rows s (remove n es)
unfolding rows keep lookup remove Namespace.Distinct
keep-remove s n q [] d f = held_or_not f
keep-remove s n q (e ∷ es) d f =
    ⊎_elim
    (λ (t : e.name ≡ n).
    let same : some e.pid ≡ some q = rw (eq-eqb e.name n t) at f in
    let pid : e.pid ≡ q = cc in
    rw (eq-eqb e.name n, eq-eqb (key_of e.pid s) (key_of q s) (omega arith)) (keep-differs-none (key_of q s) (rows s es) (own_key s q es ∙ rw (← pid) d.0)))
    (λ (t : e.name ≡ n → ⊥).
    let later : lookup n es ≡ some q = rw (ne_eqb e.name n) at f in
    let other : e.pid ≡ q → ⊥ = λ u. true≢false (sym (holds_pid-lookup n q es later) ∙ rw (← u) d.0) in
    rw (ne_eqb e.name n, ne_eqb (key_of e.pid s) (key_of q s) (λ u. other (omega (arith, u))), keep-remove s n q es d.1 later))
    (by_eq e.name n)

keep-hosted : (s set : ℕ) (es : List Entry) → s < group_names → keep (stays s set) (rows s es) ≡ rows s (drop_hosted set es)
unfolding rows keep drop_hosted
keep-hosted s set [] h = refl
keep-hosted s set (e ∷ es) h =
    let pid : key_of e.pid s / half_word ≡ e.pid = omega arith in
    ⊎_elim
    (λ (t : has set (host e.pid) ≡ true). rw (eq-eqb (key_of e.pid s % half_word) s (omega arith), pid, t, keep-hosted s set es h))
    (λ (t : has set (host e.pid) ≡ false). rw (eq-eqb (key_of e.pid s % half_word) s (omega arith), pid, t, keep-hosted s set es h))
    (by_test (has set (host e.pid)))

-- no name is left of an s_group where all nodes leave
drop-everywhere : (N : ℕ) (es : List Entry) → N ≤ node_limit → Namespace.Hosted N es → drop_hosted everywhere es ≡ []
unfolding drop_hosted Namespace.Hosted
drop-everywhere N [] l h = refl
drop-everywhere N (e ∷ es) l h = rw (has-roster node_limit (host e.pid), lt-ltb (host e.pid) node_limit (omega arith)) (drop-everywhere N es l h.1)

-- ---- the s_groups beside one

others-left : (cap N s : ℕ) (gs : List Group) → Every (RegularGroup cap N) gs → Every (Other s) (drop_group s gs)
unfolding drop_group
others-left cap N s [] e = tt
others-left cap N s (g ∷ gs) e =
    ⊎_elim
    (λ (t : g.name ≡ s). rw (eq-eqb g.name s) (others-left cap N s gs e.1))
    (λ (t : g.name ≡ s → ⊥). rw (ne_eqb g.name s) ((t, e.0.small), others-left cap N s gs e.1))
    (by_eq g.name s)

every_append : (P : Group → Type 0) (a b : List Group) → Every P (a ++ b) → Every P a × Every P b
every_append P [] b e = (tt, e)
every_append P (g ∷ a) b e = let r = every_append P a b e.1 in ((e.0, r.0), r.1)

-- ---- an entry more

-- the row of e is put in, wherever among the rows of s the entry stands
sorted_insert : (s : ℕ) (e : Entry) (es : List Entry) (xs ys : List Row) → holds_key (key_of e.pid s) xs ≡ false → holds_pid e.pid es ≡ false
    → sorted (xs ++ (rows s (insert e es) ++ ys)) ≡ put_in (row_of s e) (sorted (xs ++ (rows s es ++ ys)))
unfolding rows insert holds_pid holds_key
sorted_insert s e [] xs ys h d = sorted-middle xs (row_of s e) ys h
sorted_insert s e (f ∷ fs) xs ys h d =
    ⊎_elim
    (λ (t : e.name < f.name). rw (lt-ltb e.name f.name) (sorted-middle xs (row_of s e) (row_of s f ∷ (rows s fs ++ ys)) h))
    (λ (t : f.name ≤ e.name).
    let r = neither (eqb f.pid e.pid) (holds_pid e.pid fs) d in
    let other : eqb (key_of f.pid s) (key_of e.pid s) ≡ false =
    ne_eqb (key_of f.pid s) (key_of e.pid s) (λ q. eqb-false f.pid e.pid r.0 (omega (arith, q))) in
    rw (le-ltb e.name f.name, ← append_snoc xs (row_of s f) (rows s (insert e fs) ++ ys), ← append_snoc xs (row_of s f) (rows s fs ++ ys))
    (sorted_insert s e fs (xs ++ row_of s f ∷ []) ys (holds_key-append _ xs (row_of s f ∷ []) ∙ rw (h, other)) r.1))
    (by_lt e.name f.name)

-- ---- the rows before and after those of the s_group s, whose names are ns

record Standing (s : ℕ) (gs : List Group) (ns : List Entry) : Type 0 where
  low : List Row
  high : List Row
  apart_low : Apart s low
  apart_high : Apart s high
  is : walk gs ≡ low ++ (rows s ns ++ high)
  putting : (m : ℕ) (es : List Entry) → walk (put s m es gs) ≡ low ++ (rows s es ++ high)
  dropping : walk (drop_group s gs) ≡ low ++ high

walk-between : (s : ℕ) (a : List Group) (h : Group) (b : List Group) → h.name ≡ s → walk (a ++ h ∷ b) ≡ walk a ++ (rows s h.names ++ walk b)
unfolding walk
walk-between s a h b e = walk-append a (h ∷ b) ∙ rw e

-- ---- the walk after each change of the s_group s, which is g

module _ {cap : ℕ} {st : State} (w : Regular cap st) (s : ℕ) (g : Group) (f : find s st.groups ≡ some g) where
  standing : Standing s st.groups g.names
  standing =
      let p = place w s g f in
      let others = every_append (Other s) p.before p.after (rw p.dropping at (others-left cap st.size s st.groups w.each)) in
      let name : g.name ≡ s = found_name s st.groups g f in
      record {
        low = walk p.before;
        high = walk p.after;
        apart_low = apart-walk s p.before others.0;
        apart_high = apart-walk s p.after others.1;
        is = ap walk p.is ∙ walk-between s p.before g p.after name;
        putting = λ m es. ap walk (p.putting m es) ∙ walk-between s p.before (record { name = g.name; members = m; names = es }) p.after name;
        dropping = ap walk p.dropping ∙ walk-append p.before p.after;
      }

  -- the same names
  pub walk-members : (m : ℕ) → walk (put s m g.names st.groups) ≡ walk st.groups
  walk-members m = standing.putting m g.names ∙ sym standing.is

  -- names of which the rows are kept
  kept : (p : Row → Bool) → Spares s p → (m : ℕ) (es : List Entry) → keep p (rows s g.names) ≡ rows s es → walk (put s m es st.groups) ≡ keep p (walk st.groups)
  kept p h m es e =
      let r = standing in
      r.putting m es
      ∙ sym (ap (keep p) r.is ∙ keep_append p r.low (rows s g.names ++ r.high)
      ∙ rw (keep_append p (rows s g.names) r.high, keep_apart s p h r.low r.apart_low, keep_apart s p h r.high r.apart_high, e))

  -- a name less
  pub walk-remove : (m n q : ℕ) → lookup n g.names ≡ some q → walk (put s m (remove n g.names) st.groups) ≡ keep (differs (key_of q s)) (walk st.groups)
  walk-remove m n q h =
      kept (differs (key_of q s)) (spares-differs s q (small-name w s g f)) m (remove n g.names)
      (keep-remove s n q g.names (regular-found w s g f).names_sound.pids h)

  -- the names less whose pid lives on a node of the set
  pub walk-hosted : (m set : ℕ) → walk (put s m (drop_hosted set g.names) st.groups) ≡ keep (stays s set) (walk st.groups)
  walk-hosted m set = kept (stays s set) (spares-stays s set) m (drop_hosted set g.names) (keep-hosted s set g.names (small-name w s g f))

  -- the s_group less
  pub walk-drop : walk (drop_group s st.groups) ≡ keep (stays s everywhere) (walk st.groups)
  unfolding rows
  walk-drop =
      let none_left = drop-everywhere st.size g.names w.size_high (regular-found w s g f).names_sound.hosts in
      standing.dropping ∙ sym (standing.putting 0 []) ∙ rw none_left at (walk-hosted 0 everywhere)

  -- a name more than es
  pub walk-insert : (m : ℕ) (e : Entry) (es : List Entry) → holds_pid e.pid es ≡ false
      → sorted (walk (put s m (insert e es) st.groups)) ≡ put_in (row_of s e) (sorted (walk (put s m es st.groups)))
  walk-insert m e es h =
      let r = standing in
      ap sorted (r.putting m (insert e es))
      ∙ sorted_insert s e es r.low r.high (apart-key s e.pid r.low (small-name w s g f) r.apart_low) h
      ∙ ap (λ (xs : List Row). put_in (row_of s e) (sorted xs)) (sym (r.putting m es))

  -- a name more than it had
  pub walk_more : (m : ℕ) (e : Entry) → holds_pid e.pid g.names ≡ false
      → sorted (walk (put s m (insert e g.names) st.groups)) ≡ put_in (row_of s e) (sorted (walk st.groups))
  walk_more m e h = walk-insert m e g.names h ∙ rw (walk-members m)

-- an s_group more, without names
pub walk-add : (g : Group) (gs : List Group) → g.names ≡ [] → walk (add_group g gs) ≡ walk gs
unfolding walk add_group rows
walk-add g [] e = rw e
walk-add g (h ∷ gs) e =
    ⊎_elim
    (λ (t : ltb g.name h.name ≡ true). rw (t, e))
    (λ (t : ltb g.name h.name ≡ false). rw (t, walk-add g gs e))
    (by_test (ltb g.name h.name))
