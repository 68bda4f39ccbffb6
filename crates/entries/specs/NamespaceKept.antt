-- Each change keeps a sound namespace sound. Assumes nothing.
use Rattle.std.specs.Prelude.{◌≡◌, refl, List, [], ◌∷◌, Bool, true, false, ◌||◌, ℕ, ◌≤◌, ◌<◌, length, eqb}
use Rattle.std.proofs.Common.{sym, ⊎_elim, true≢false, le_refl, le_trans, arith, lt-ltb, le-ltb, eq-eqb, ne_eqb}
use Rattle.std.proofs.Math.Option.{none}
use Rattle.std.proofs.lemmas.Bool.{eqb-false}
use Rattle.nodes.specs.Sets.{has}
use Rattle.nodes.specs.Bools.{by_test, by_lt, by_eq}
use Rattle.entries.specs.Entries.{Entry, half_word, host, insert, remove, renew, lookup, holds_pid, drop_hosted}
use Rattle.entries.specs.NamespaceSound.{Ascending, Distinct, Hosted, Sound, New}
use Rattle.entries.specs.EntryLaws.{held_or_not, length-insert, length-renew, holds_pid-insert}

-- a pid that is not held is neither the first entry's nor held by the others
fresh_parts : (q : ℕ) (e : Entry) (es : List Entry) → holds_pid q (e ∷ es) ≡ false → (eqb e.pid q ≡ false) × (holds_pid q es ≡ false)
unfolding holds_pid
fresh_parts q e es h = go (eqb e.pid q) h
  where
    go : (x : Bool) → x || holds_pid q es ≡ false → (x ≡ false) × (holds_pid q es ≡ false)
    go true r = absurd (true≢false r)
    go false r = (refl, r)

-- ---- insert

ascending-insert : (lo : ℕ) (e : Entry) (es : List Entry) → Ascending lo es → lo < e.name → e.name < half_word → e.pid < half_word → lookup e.name es ≡ none
    → Ascending lo (insert e es)
unfolding Ascending insert lookup
ascending-insert lo e [] s l n p a = (l, n, p, tt)
ascending-insert lo e (f ∷ fs) s l n p a =
    ⊎_elim
    (λ (t : e.name < f.name). rw (lt-ltb e.name f.name) (l, n, p, (t, s.1, s.2, s.3)))
    (λ (t : f.name ≤ e.name).
    ⊎_elim
    (λ (q : f.name ≡ e.name). held_or_not (sym (rw (eq-eqb f.name e.name) at a)))
    (λ (q : f.name ≡ e.name → ⊥).
    rw (le-ltb e.name f.name) (s.0, s.1, s.2, ascending-insert f.name e fs s.3 (omega arith) n p (rw (ne_eqb f.name e.name) at a)))
    (by_eq f.name e.name))
    (by_lt e.name f.name)

distinct-insert : (e : Entry) (es : List Entry) → Distinct es → holds_pid e.pid es ≡ false → Distinct (insert e es)
unfolding Distinct insert holds_pid
distinct-insert e [] r d = (refl, tt)
distinct-insert e (f ∷ fs) r d =
    let parts = fresh_parts e.pid f fs d in
    ⊎_elim
    (λ (t : e.name < f.name). rw (lt-ltb e.name f.name) (d, r))
    (λ (t : f.name ≤ e.name).
    rw (le-ltb e.name f.name)
    (rw (holds_pid-insert f.pid e fs, ne_eqb e.pid f.pid (λ q. eqb-false f.pid e.pid parts.0 (sym q))) r.0, distinct-insert e fs r.1 parts.1))
    (by_lt e.name f.name)

hosted-insert : (size : ℕ) (e : Entry) (es : List Entry) → Hosted size es → host e.pid < size → Hosted size (insert e es)
unfolding Hosted insert
hosted-insert size e [] r h = (h, tt)
hosted-insert size e (f ∷ fs) r h =
    ⊎_elim
    (λ (t : e.name < f.name). rw (lt-ltb e.name f.name) (h, r))
    (λ (t : f.name ≤ e.name). rw (le-ltb e.name f.name) (r.0, hosted-insert size e fs r.1 h))
    (by_lt e.name f.name)

pub sound-insert : (cap size : ℕ) (e : Entry) (es : List Entry) → Sound cap size es → New size e es → length es < cap → Sound cap size (insert e es)
sound-insert cap size e es s n h = record {
  room = rw (length-insert e es) h;
  names = ascending-insert 0 e es s.names n.above n.name_fits n.pid_fits n.absent;
  pids = distinct-insert e es s.pids n.fresh;
  hosts = hosted-insert size e es s.hosts n.near;
}

-- ---- what leaves entries out

-- fs is es with some entries left out
data Sublist : List Entry → List Entry → Type 0 where
  nothing : Sublist [] []
  kept : {e : Entry} {fs es : List Entry} → Sublist fs es → Sublist (e ∷ fs) (e ∷ es)
  left_out : {e : Entry} {fs es : List Entry} → Sublist fs es → Sublist fs (e ∷ es)

whole : (es : List Entry) → Sublist es es
whole [] = nothing
whole (e ∷ es) = kept (whole es)

remove-sublist : (n : ℕ) (es : List Entry) → Sublist (remove n es) es
unfolding remove
remove-sublist n [] = nothing
remove-sublist n (e ∷ es) =
    ⊎_elim
    (λ (t : eqb e.name n ≡ true). rw t (left_out (whole es)))
    (λ (t : eqb e.name n ≡ false). rw t (kept (remove-sublist n es)))
    (by_test (eqb e.name n))

drop_hosted-sublist : (set : ℕ) (es : List Entry) → Sublist (drop_hosted set es) es
unfolding drop_hosted
drop_hosted-sublist set [] = nothing
drop_hosted-sublist set (e ∷ es) =
    ⊎_elim
    (λ (t : has set (host e.pid) ≡ true). rw t (left_out (drop_hosted-sublist set es)))
    (λ (t : has set (host e.pid) ≡ false). rw t (kept (drop_hosted-sublist set es)))
    (by_test (has set (host e.pid)))

length-sublist : {fs es : List Entry} → Sublist fs es → length fs ≤ length es
length-sublist nothing = le_refl 0
length-sublist (kept r) = let h = length-sublist r in omega arith
length-sublist (left_out r) = let h = length-sublist r in omega arith

ascending-lower : (lo hi : ℕ) (es : List Entry) → lo ≤ hi → Ascending hi es → Ascending lo es
unfolding Ascending
ascending-lower lo hi [] h s = tt
ascending-lower lo hi (e ∷ es) h s = (omega arith, s.1, s.2, s.3)

ascending-sublist : {fs es : List Entry} → Sublist fs es → (lo : ℕ) → Ascending lo es → Ascending lo fs
unfolding Ascending
ascending-sublist nothing lo s = tt
ascending-sublist (kept {e = e} r) lo s = (s.0, s.1, s.2, ascending-sublist r e.name s.3)
ascending-sublist (left_out {e = e} {es = es} r) lo s = ascending-sublist r lo (ascending-lower lo e.name es (omega arith) s.3)

fresh-sublist : {fs es : List Entry} → Sublist fs es → (q : ℕ) → holds_pid q es ≡ false → holds_pid q fs ≡ false
unfolding holds_pid
fresh-sublist nothing q r = refl
fresh-sublist (kept {e = e} {es = es} l) q r =
    let parts = fresh_parts q e es r in
    rw parts.0 (fresh-sublist l q parts.1)
fresh-sublist (left_out {e = e} {es = es} l) q r = fresh-sublist l q (fresh_parts q e es r).1

distinct-sublist : {fs es : List Entry} → Sublist fs es → Distinct es → Distinct fs
unfolding Distinct
distinct-sublist nothing r = tt
distinct-sublist (kept {e = e} l) r = (fresh-sublist l e.pid r.0, distinct-sublist l r.1)
distinct-sublist (left_out l) r = distinct-sublist l r.1

hosted-sublist : {fs es : List Entry} → Sublist fs es → (size : ℕ) → Hosted size es → Hosted size fs
unfolding Hosted
hosted-sublist nothing size r = tt
hosted-sublist (kept l) size r = (r.0, hosted-sublist l size r.1)
hosted-sublist (left_out l) size r = hosted-sublist l size r.1

sound-sublist : {fs es : List Entry} → Sublist fs es → (cap size : ℕ) → Sound cap size es → Sound cap size fs
sound-sublist l cap size s = record {
  room = le_trans (length-sublist l) s.room;
  names = ascending-sublist l 0 s.names;
  pids = distinct-sublist l s.pids;
  hosts = hosted-sublist l size s.hosts;
}

pub length-remove-le : (n : ℕ) (es : List Entry) → length (remove n es) ≤ length es
length-remove-le n es = length-sublist (remove-sublist n es)

pub length-drop_hosted : (set : ℕ) (es : List Entry) → length (drop_hosted set es) ≤ length es
length-drop_hosted set es = length-sublist (drop_hosted-sublist set es)

pub sound-remove : (cap size n : ℕ) (es : List Entry) → Sound cap size es → Sound cap size (remove n es)
sound-remove cap size n es s = sound-sublist (remove-sublist n es) cap size s

pub sound-drop_hosted : (cap size set : ℕ) (es : List Entry) → Sound cap size es → Sound cap size (drop_hosted set es)
sound-drop_hosted cap size set es s = sound-sublist (drop_hosted-sublist set es) cap size s

-- ---- renew

ascending-renew : (lo n p : ℕ) (es : List Entry) → p < half_word → Ascending lo es → Ascending lo (renew n p es)
unfolding Ascending renew
ascending-renew lo n p [] h s = tt
ascending-renew lo n p (e ∷ es) h s =
    ⊎_elim
    (λ (t : e.name ≡ n). rw (eq-eqb e.name n) (omega arith, omega arith, h, rw t at s.3))
    (λ (t : e.name ≡ n → ⊥). rw (ne_eqb e.name n) (s.0, s.1, s.2, ascending-renew e.name n p es h s.3))
    (by_eq e.name n)

fresh-renew : (q n p : ℕ) (es : List Entry) → eqb p q ≡ false → holds_pid q es ≡ false → holds_pid q (renew n p es) ≡ false
unfolding holds_pid renew
fresh-renew q n p [] d r = refl
fresh-renew q n p (e ∷ es) d r =
    let parts = fresh_parts q e es r in
    ⊎_elim
    (λ (t : e.name ≡ n). rw (eq-eqb e.name n, d) parts.1)
    (λ (t : e.name ≡ n → ⊥). rw (ne_eqb e.name n, parts.0) (fresh-renew q n p es d parts.1))
    (by_eq e.name n)

distinct-renew : (n p : ℕ) (es : List Entry) → holds_pid p es ≡ false → Distinct es → Distinct (renew n p es)
unfolding Distinct renew holds_pid
distinct-renew n p [] d r = tt
distinct-renew n p (e ∷ es) d r =
    let parts = fresh_parts p e es d in
    ⊎_elim
    (λ (t : e.name ≡ n). rw (eq-eqb e.name n) (parts.1, r.1))
    (λ (t : e.name ≡ n → ⊥).
    rw (ne_eqb e.name n)
    (fresh-renew e.pid n p es (ne_eqb p e.pid (λ q. eqb-false e.pid p parts.0 (sym q))) r.0, distinct-renew n p es parts.1 r.1))
    (by_eq e.name n)

hosted-renew : (size n p : ℕ) (es : List Entry) → host p < size → Hosted size es → Hosted size (renew n p es)
unfolding Hosted renew
hosted-renew size n p [] h r = tt
hosted-renew size n p (e ∷ es) h r =
    ⊎_elim
    (λ (t : e.name ≡ n). rw (eq-eqb e.name n) (h, r.1))
    (λ (t : e.name ≡ n → ⊥). rw (ne_eqb e.name n) (r.0, hosted-renew size n p es h r.1))
    (by_eq e.name n)

pub sound-renew : (cap size n p : ℕ) (es : List Entry) → Sound cap size es → p < half_word → holds_pid p es ≡ false → host p < size → Sound cap size (renew n p es)
sound-renew cap size n p es s b d h = record {
  room = rw (length-renew n p es) s.room;
  names = ascending-renew 0 n p es b s.names;
  pids = distinct-renew n p es d s.pids;
  hosts = hosted-renew size n p es h s.hosts;
}
