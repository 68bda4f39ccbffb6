-- A namespace stays sound when a name is registered anew, and the pid that a name stands for has its host on the roster. Assumes nothing.
use Rattle.std.specs.Prelude.{◌≡◌, refl, true, false, not, ◌&&◌, List, [], ◌∷◌, ℕ, ◌≤◌, ◌<◌, eqb, leb, length}
use Rattle.std.proofs.Common.{⊎_elim, true≢false, arith, leb-false}
use Rattle.std.proofs.Math.Option.{Option, none, some}
use Rattle.nodes.specs.Bools.{by_test}
use Rattle.entries.specs.Entries.{Entry, half_word, host, insert, remove, lookup, holds_pid}
use Rattle.entries.specs.NamespaceSound.{Hosted, Sound}
use Rattle.entries.specs.EntryLaws.{length-remove, lookup-remove-same}
use Rattle.entries.specs.NamespaceKept.{length-remove-le, sound-insert, sound-remove}
use Rattle.semantics.specs.Ranges.{held}
use Rattle.semantics.specs.Truth.{neither}

pub not-held : {A : Type 0} (o : Option A) → held o ≡ false → o ≡ none
not-held none h = refl
not-held (some a) h = absurd (true≢false h)

pub host-found : (size n p : ℕ) (es : List Entry) → Hosted size es → lookup n es ≡ some p → host p < size
unfolding Hosted lookup
host-found size n p [] h f = let z : ◌≡◌ {A = ℕ} 0 1 = cc in absurd (omega arith)
host-found size n p (e ∷ es) h f =
    ⊎_elim
    (λ (t : eqb e.name n ≡ true). let q : some e.pid ≡ some p = rw t at f in let r : e.pid ≡ p = cc in rw r at h.0)
    (λ (t : eqb e.name n ≡ false). host-found size n p es h.1 (rw t at f))
    (by_test (eqb e.name n))

-- a pid that is not held is not held with a name less
pub fresh-remove : (n q : ℕ) (es : List Entry) → holds_pid q es ≡ false → holds_pid q (remove n es) ≡ false
unfolding holds_pid remove
fresh-remove n q [] h = refl
fresh-remove n q (e ∷ es) h =
    let parts = neither (eqb e.pid q) (holds_pid q es) h in
    ⊎_elim
    (λ (t : eqb e.name n ≡ true). rw t parts.1)
    (λ (t : eqb e.name n ≡ false). rw (t, parts.0) (fresh-remove n q es parts.1))
    (by_test (eqb e.name n))

-- where the name is held or the namespace is not full, there is room for the name
room-without : (cap n : ℕ) (es : List Entry) → length es ≤ cap → not (held (lookup n es)) && leb cap (length es) ≡ false → length (remove n es) < cap
room-without cap n es h v = go (lookup n es) refl v
  where
    go : (o : Option ℕ) → lookup n es ≡ o → not (held o) && leb cap (length es) ≡ false → length (remove n es) < cap
    go none f q = omega (arith, length-remove-le n es, leb-false cap (length es) q)
    go (some p) f q = omega (arith, length-remove n p es f)

module _ (cap size n p : ℕ) (es : List Entry) (sound : Sound cap size es) (above : 0 < n) (name_fits : n < half_word) (pid_fits : p < half_word)
    (near : host p < size) (fresh : holds_pid p es ≡ false) where
  pub sound-register : held (lookup n es) ≡ false → leb cap (length es) ≡ false → Sound cap size (insert (record { name = n; pid = p }) es)
  sound-register f h =
      sound-insert cap size (record { name = n; pid = p }) es sound
      (record { above = above; name_fits = name_fits; pid_fits = pid_fits; absent = not-held (lookup n es) f; fresh = fresh; near = near })
      (leb-false cap (length es) h)

  pub sound-re-register : not (held (lookup n es)) && leb cap (length es) ≡ false → Sound cap size (insert (record { name = n; pid = p }) (remove n es))
  sound-re-register h =
      sound-insert cap size (record { name = n; pid = p }) (remove n es) (sound-remove cap size n es sound)
      (record {
        above = above;
        name_fits = name_fits;
        pid_fits = pid_fits;
        absent = lookup-remove-same 0 n es sound.names;
        fresh = fresh-remove n p es fresh;
        near = near;
      }) (room-without cap n es sound.room h)
