-- Laws of what is done with a namespace: what a lookup finds after each change, lengths, and that lookups tell
-- ascending namespaces apart. Each holds of all lists of entries unless it says that they ascend. Assumes nothing.
use Rattle.std.specs.Prelude.{◌≡◌, refl, List, [], ◌∷◌, ◌++◌, Bool, true, false, ◌||◌, cond, ℕ, suc, ◌≤◌, ◌<◌, length, ltb, eqb}
use Rattle.std.proofs.Common.{sym, ap, ap₂, ◌∙◌, subst, ⊎_elim, arith, lt-ltb, le-ltb, eq-eqb, ne_eqb}
use Rattle.std.proofs.Math.Bool.{or-true, or-false, or_assoc}
use Rattle.std.proofs.Math.Option.{Option, none, some}
use Rattle.nodes.specs.Sets.{has}
use Rattle.nodes.specs.Bools.{by_test, by_lt, by_eq}
use Rattle.entries.specs.Entries.{Entry, host, insert, remove, renew, lookup, holds_pid, drop_hosted}
use Rattle.entries.specs.NamespaceSound.{Ascending}

-- a name is found or not, never both
pub held_or_not : {A : Type 0} {p : ℕ} → ◌≡◌ {A = Option ℕ} none (some p) → A
held_or_not e = let z : ◌≡◌ {A = ℕ} 0 1 = cc in absurd (omega arith)

-- ---- lengths

pub length-insert : (e : Entry) (es : List Entry) → length (insert e es) ≡ suc (length es)
unfolding insert
length-insert e [] = refl
length-insert e (f ∷ fs) =
    ⊎_elim
    (λ (t : e.name < f.name). rw (lt-ltb e.name f.name))
    (λ (t : f.name ≤ e.name). rw (le-ltb e.name f.name, length-insert e fs))
    (by_lt e.name f.name)

pub length-remove : (n p : ℕ) (es : List Entry) → lookup n es ≡ some p → suc (length (remove n es)) ≡ length es
unfolding remove lookup
length-remove n p [] h = held_or_not h
length-remove n p (e ∷ es) h =
    ⊎_elim
    (λ (t : e.name ≡ n). rw (eq-eqb e.name n))
    (λ (t : e.name ≡ n → ⊥). rw (ne_eqb e.name n, length-remove n p es (rw (ne_eqb e.name n) at h)))
    (by_eq e.name n)

pub length-renew : (n p : ℕ) (es : List Entry) → length (renew n p es) ≡ length es
unfolding renew
length-renew n p [] = refl
length-renew n p (e ∷ es) =
    ⊎_elim
    (λ (t : e.name ≡ n). rw (eq-eqb e.name n))
    (λ (t : e.name ≡ n → ⊥). rw (ne_eqb e.name n, length-renew n p es))
    (by_eq e.name n)

-- ---- a name that is not held

-- no name at or below the bound is held
pub lookup-low : (lo n : ℕ) (es : List Entry) → Ascending lo es → n ≤ lo → lookup n es ≡ none
unfolding Ascending lookup
lookup-low lo n [] s h = refl
lookup-low lo n (e ∷ es) s h = rw (ne_eqb e.name n (λ q. omega arith)) (lookup-low e.name n es s.3 (omega arith))

pub remove_absent : (n : ℕ) (es : List Entry) → lookup n es ≡ none → remove n es ≡ es
unfolding lookup remove
remove_absent n [] h = refl
remove_absent n (e ∷ es) h =
    ⊎_elim
    (λ (t : e.name ≡ n). held_or_not (sym (rw (eq-eqb e.name n) at h)))
    (λ (t : e.name ≡ n → ⊥). rw (ne_eqb e.name n, remove_absent n es (rw (ne_eqb e.name n) at h)))
    (by_eq e.name n)

pub renew-absent : (n p : ℕ) (es : List Entry) → lookup n es ≡ none → renew n p es ≡ es
unfolding lookup renew
renew-absent n p [] h = refl
renew-absent n p (e ∷ es) h =
    ⊎_elim
    (λ (t : e.name ≡ n). held_or_not (sym (rw (eq-eqb e.name n) at h)))
    (λ (t : e.name ≡ n → ⊥). rw (ne_eqb e.name n, renew-absent n p es (rw (ne_eqb e.name n) at h)))
    (by_eq e.name n)

-- ---- what a lookup finds

pub lookup-insert-same : (e : Entry) (es : List Entry) → lookup e.name es ≡ none → lookup e.name (insert e es) ≡ some e.pid
unfolding lookup insert
lookup-insert-same e [] h = rw (eq-eqb e.name e.name refl)
lookup-insert-same e (f ∷ fs) h =
    ⊎_elim
    (λ (t : e.name < f.name). rw (lt-ltb e.name f.name, eq-eqb e.name e.name refl))
    (λ (t : f.name ≤ e.name).
    ⊎_elim
    (λ (q : f.name ≡ e.name). held_or_not (sym (rw (eq-eqb f.name e.name) at h)))
    (λ (q : f.name ≡ e.name → ⊥). rw (le-ltb e.name f.name, ne_eqb f.name e.name) (lookup-insert-same e fs (rw (ne_eqb f.name e.name) at h)))
    (by_eq f.name e.name))
    (by_lt e.name f.name)

pub lookup-insert-other : (m : ℕ) (e : Entry) (es : List Entry) → (e.name ≡ m → ⊥) → lookup m (insert e es) ≡ lookup m es
unfolding lookup insert
lookup-insert-other m e [] d = rw (ne_eqb e.name m)
lookup-insert-other m e (f ∷ fs) d =
    ⊎_elim
    (λ (t : e.name < f.name). rw (lt-ltb e.name f.name, ne_eqb e.name m))
    (λ (t : f.name ≤ e.name). rw (le-ltb e.name f.name, lookup-insert-other m e fs d))
    (by_lt e.name f.name)

pub lookup-remove-same : (lo n : ℕ) (es : List Entry) → Ascending lo es → lookup n (remove n es) ≡ none
unfolding lookup remove Ascending
lookup-remove-same lo n [] s = refl
lookup-remove-same lo n (e ∷ es) s =
    ⊎_elim
    (λ (t : e.name ≡ n). rw (eq-eqb e.name n) (lookup-low e.name n es s.3 (omega arith)))
    (λ (t : e.name ≡ n → ⊥). rw (ne_eqb e.name n, ne_eqb e.name n, lookup-remove-same e.name n es s.3))
    (by_eq e.name n)

pub lookup-remove-other : (m n : ℕ) (es : List Entry) → (n ≡ m → ⊥) → lookup m (remove n es) ≡ lookup m es
unfolding lookup remove
lookup-remove-other m n [] d = refl
lookup-remove-other m n (e ∷ es) d =
    ⊎_elim
    (λ (t : e.name ≡ n). rw (eq-eqb e.name n, ne_eqb e.name m (λ q. d (sym t ∙ q))))
    (λ (t : e.name ≡ n → ⊥). rw (ne_eqb e.name n, lookup-remove-other m n es d))
    (by_eq e.name n)

pub lookup-renew-same : (n p q : ℕ) (es : List Entry) → lookup n es ≡ some q → lookup n (renew n p es) ≡ some p
unfolding lookup renew
lookup-renew-same n p q [] h = held_or_not h
lookup-renew-same n p q (e ∷ es) h =
    ⊎_elim
    (λ (t : e.name ≡ n). rw (eq-eqb e.name n, eq-eqb n n refl))
    (λ (t : e.name ≡ n → ⊥). rw (ne_eqb e.name n, ne_eqb e.name n) (lookup-renew-same n p q es (rw (ne_eqb e.name n) at h)))
    (by_eq e.name n)

pub lookup-renew-other : (m n p : ℕ) (es : List Entry) → (n ≡ m → ⊥) → lookup m (renew n p es) ≡ lookup m es
unfolding lookup renew
lookup-renew-other m n p [] d = refl
lookup-renew-other m n p (e ∷ es) d =
    ⊎_elim
    (λ (t : e.name ≡ n). rw (eq-eqb e.name n, ne_eqb n m, ne_eqb e.name m (λ q. d (sym t ∙ q))))
    (λ (t : e.name ≡ n → ⊥). rw (ne_eqb e.name n, lookup-renew-other m n p es d))
    (by_eq e.name n)

-- a held name is dropped where its pid's host is in the set, and kept otherwise
pub lookup-drop_hosted-none : (set n : ℕ) (es : List Entry) → lookup n es ≡ none → lookup n (drop_hosted set es) ≡ none
unfolding lookup drop_hosted
lookup-drop_hosted-none set n [] h = refl
lookup-drop_hosted-none set n (e ∷ es) h =
    ⊎_elim
    (λ (t : e.name ≡ n). held_or_not (sym (rw (eq-eqb e.name n) at h)))
    (λ (t : e.name ≡ n → ⊥).
    let ih : lookup n (drop_hosted set es) ≡ none = lookup-drop_hosted-none set n es (rw (ne_eqb e.name n) at h) in
    ⊎_elim
    (λ (q : has set (host e.pid) ≡ true). rw q ih)
    (λ (q : has set (host e.pid) ≡ false). rw (q, ne_eqb e.name n) ih)
    (by_test (has set (host e.pid))))
    (by_eq e.name n)

pub lookup-drop_hosted : (lo set n p : ℕ) (es : List Entry) → Ascending lo es → lookup n es ≡ some p
    → lookup n (drop_hosted set es) ≡ cond (has set (host p)) none (some p)
unfolding lookup drop_hosted Ascending
lookup-drop_hosted lo set n p [] s h = held_or_not h
lookup-drop_hosted lo set n p (e ∷ es) s h =
    ⊎_elim
    (λ (t : e.name ≡ n).
    let same : some e.pid ≡ some p = rw (eq-eqb e.name n) at h in
    let pid : e.pid ≡ p = cc in
    ⊎_elim
    (λ (q : has set (host e.pid) ≡ true).
    rw (q, ← pid, q) (lookup-drop_hosted-none set n es (lookup-low e.name n es s.3 (omega arith))))
    (λ (q : has set (host e.pid) ≡ false). rw (q, ← pid, q, eq-eqb e.name n))
    (by_test (has set (host e.pid))))
    (λ (t : e.name ≡ n → ⊥).
    let ih : lookup n (drop_hosted set es) ≡ cond (has set (host p)) none (some p) = lookup-drop_hosted e.name set n p es s.3 (rw (ne_eqb e.name n) at h) in
    ⊎_elim
    (λ (q : has set (host e.pid) ≡ true). rw q ih)
    (λ (q : has set (host e.pid) ≡ false). rw (q, ne_eqb e.name n) ih)
    (by_test (has set (host e.pid))))
    (by_eq e.name n)

-- ---- which pids are held

pub holds_pid-insert : (q : ℕ) (e : Entry) (es : List Entry) → holds_pid q (insert e es) ≡ eqb e.pid q || holds_pid q es
unfolding holds_pid insert
holds_pid-insert q e [] = refl
holds_pid-insert q e (f ∷ fs) =
    ⊎_elim
    (λ (t : e.name < f.name). rw (lt-ltb e.name f.name))
    (λ (t : f.name ≤ e.name). rw (le-ltb e.name f.name, holds_pid-insert q e fs) (turn (eqb f.pid q) (eqb e.pid q) (holds_pid q fs)))
    (by_lt e.name f.name)
  where
    turn : (x y z : Bool) → x || (y || z) ≡ y || (x || z)
    turn true true z = refl
    turn true false z = refl
    turn false y z = refl

pub holds_pid-snoc : (q : ℕ) (es : List Entry) (e : Entry) → holds_pid q (es ++ e ∷ []) ≡ holds_pid q es || eqb e.pid q
unfolding holds_pid
holds_pid-snoc q [] e = or-false (eqb e.pid q)
holds_pid-snoc q (f ∷ fs) e = rw (holds_pid-snoc q fs e) (sym (or_assoc (eqb f.pid q) (holds_pid q fs) (eqb e.pid q)))

pub holds_pid-lookup : (n p : ℕ) (es : List Entry) → lookup n es ≡ some p → holds_pid p es ≡ true
unfolding lookup holds_pid
holds_pid-lookup n p [] h = held_or_not h
holds_pid-lookup n p (e ∷ es) h =
    ⊎_elim
    (λ (t : e.name ≡ n).
    let same : some e.pid ≡ some p = rw (eq-eqb e.name n) at h in
    rw (eq-eqb e.pid p (cc)))
    (λ (t : e.name ≡ n → ⊥). rw (holds_pid-lookup n p es (rw (ne_eqb e.name n) at h)) (or-true (eqb e.pid p)))
    (by_eq e.name n)

-- ---- changes of two names

insert-lower : (e f : Entry) (es : List Entry) → e.name < f.name → insert e (insert f es) ≡ insert f (insert e es)
unfolding insert
insert-lower e f [] t = simp (lt-ltb e.name f.name, le-ltb f.name e.name (omega arith))
insert-lower e f (g ∷ gs) t =
    let other : ltb f.name e.name ≡ false = le-ltb f.name e.name (omega arith) in
    ⊎_elim
    (λ (u : e.name < g.name).
    ⊎_elim
    (λ (v : f.name < g.name). simp (lt-ltb _ _ t, other, lt-ltb _ _ u, lt-ltb _ _ v))
    (λ (v : g.name ≤ f.name). simp (other, lt-ltb _ _ u, le-ltb _ _ v))
    (by_lt f.name g.name))
    (λ (u : g.name ≤ e.name). let v : g.name ≤ f.name = omega arith in simp (le-ltb _ _ u, le-ltb _ _ v, insert-lower e f gs t))
    (by_lt e.name g.name)

pub insert_comm : (e f : Entry) (es : List Entry) → (e.name ≡ f.name → ⊥) → insert e (insert f es) ≡ insert f (insert e es)
insert_comm e f es d =
    ⊎_elim
    (λ (t : e.name < f.name). insert-lower e f es t)
    (λ (t : f.name ≤ e.name). sym (insert-lower f e es (omega arith)))
    (by_lt e.name f.name)

-- the entry goes back to where it was
insert-low : (e : Entry) (es : List Entry) → Ascending e.name es → insert e es ≡ e ∷ es
unfolding insert Ascending
insert-low e [] s = refl
insert-low e (f ∷ fs) s = rw (lt-ltb e.name f.name s.0)

pub renew-is-insert-remove : (lo n p q : ℕ) (es : List Entry) → Ascending lo es → lookup n es ≡ some q
    → renew n p es ≡ insert (record { name = n; pid = p }) (remove n es)
unfolding renew insert remove lookup Ascending
renew-is-insert-remove lo n p q [] s h = held_or_not h
renew-is-insert-remove lo n p q (e ∷ es) s h =
    ⊎_elim
    (λ (t : e.name ≡ n). rw (eq-eqb e.name n) (sym (insert-low (record { name = n; pid = p }) es (rw t at s.3))))
    (λ (t : e.name ≡ n → ⊥).
    let found : lookup n es ≡ some q = rw (ne_eqb e.name n) at h in
    ⊎_elim
    (λ (u : n < e.name). held_or_not (sym (lookup-low e.name n es s.3 (omega arith)) ∙ found))
    (λ (u : e.name ≤ n). rw (ne_eqb e.name n, le-ltb n e.name, renew-is-insert-remove e.name n p q es s.3 found))
    (by_lt n e.name))
    (by_eq e.name n)

-- ---- lookups tell ascending namespaces apart

lookup_head : (e : Entry) (es : List Entry) → lookup e.name (e ∷ es) ≡ some e.pid
unfolding lookup
lookup_head e es = rw (eq-eqb e.name e.name refl)

lookup_tail : (n : ℕ) (e : Entry) (es : List Entry) → (e.name ≡ n → ⊥) → lookup n (e ∷ es) ≡ lookup n es
unfolding lookup
lookup_tail n e es d = rw (ne_eqb e.name n)

lookup-nil : (n : ℕ) → lookup n [] ≡ none
unfolding lookup
lookup-nil n = refl

-- the name of the first entry is not below that of the other's
first-not-below : (lo : ℕ) (e f : Entry) (es fs : List Entry) → Ascending lo (f ∷ fs) → ((n : ℕ) → lookup n (e ∷ es) ≡ lookup n (f ∷ fs)) → f.name ≤ e.name
unfolding Ascending
first-not-below lo e f es fs s h =
    ⊎_elim
    (λ (t : e.name < f.name).
    held_or_not (sym (lookup-low f.name e.name fs s.3 (omega arith)) ∙ sym (lookup_tail e.name f fs (λ q. omega arith)) ∙ sym (h e.name) ∙ lookup_head e es))
    (λ (t : f.name ≤ e.name). t)
    (by_lt e.name f.name)

pub lookups-determine : (lo : ℕ) (es fs : List Entry) → Ascending lo es → Ascending lo fs → ((n : ℕ) → lookup n es ≡ lookup n fs) → es ≡ fs
unfolding Ascending
lookups-determine lo [] [] s r h = refl
lookups-determine lo [] (f ∷ fs) s r h = held_or_not (sym (lookup-nil f.name) ∙ h f.name ∙ lookup_head f fs)
lookups-determine lo (e ∷ es) [] s r h = held_or_not (sym (lookup-nil e.name) ∙ sym (h e.name) ∙ lookup_head e es)
lookups-determine lo (e ∷ es) (f ∷ fs) s r h =
    let low : f.name ≤ e.name = first-not-below lo e f es fs r h in
    let high : e.name ≤ f.name = first-not-below lo f e fs es s (λ n. sym (h n)) in
    let name : e.name ≡ f.name = omega arith in
    let found : some e.pid ≡ some f.pid = sym (lookup_head e es) ∙ h e.name ∙ ap (λ (n : ℕ). lookup n (f ∷ fs)) name ∙ lookup_head f fs in
    let pid : e.pid ≡ f.pid = cc in
    let tail : (n : ℕ) → lookup n es ≡ lookup n fs =
    λ n. ⊎_elim
    (λ (t : e.name ≡ n). lookup-low e.name n es s.3 (omega arith) ∙ sym (lookup-low f.name n fs r.3 (omega arith)))
    (λ (t : e.name ≡ n → ⊥). sym (lookup_tail n e es t) ∙ h n ∙ lookup_tail n f fs (λ q. t (name ∙ q)))
    (by_eq e.name n) in
    ap₂ ◌∷◌ (λ i. record { name = name i; pid = pid i }) (lookups-determine e.name es fs s.3 (subst (λ (k : ℕ). Ascending k fs) (sym name) r.3) tail)
