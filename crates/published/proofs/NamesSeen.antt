-- What is seen of a namespace: after a name is added or dropped, which pids are held, how many names there are, and its list. Assumes nothing.
use Rattle.std.specs.Prelude.{◌≡◌, Bool, ◌&&◌, ℕ, suc, ◌+◌, ◌*◌, ◌/◌, ◌%◌, ◌<◌, length}
use Rattle.std.proofs.Math.Path.{refl, ap}
use Rattle.std.proofs.Common.{sym, ◌∙◌, ⊎_elim, arith, eqb-true, eq-eqb, ne_eqb}
use Rattle.std.proofs.Math.Bool.{true, false, cond, and-false}
use Rattle.std.proofs.Math.Option.{Option, none, some}
use mathlib.Core.List.{List, [], ◌∷◌}
use Rattle.std.proofs.Math.Dec.{eqb}
use Rattle.nodes.specs.Sets.{has}
use Rattle.nodes.specs.Bools.{by_eq}
use Rattle.entries.specs.Entries.{Entry, half_word, host, insert, remove, lookup, holds_pid, drop_hosted}
use Rattle.entries.specs.NamespaceSound.{Ascending}
use Rattle.entries.specs.EntryLaws.{lookup-insert-same, lookup-insert-other, lookup-remove-same, lookup-remove-other, lookup-drop_hosted, lookup-drop_hosted-none, holds_pid-lookup}
use Rattle.semantics.specs.Sizes.{group_names}
use Rattle.semantics.specs.Ranges.{held}
use Rattle.semantics.specs.Steps.{name_words}
use Rattle.semantics.specs.Truth.{or_cases}
use Rattle.published.specs.Published.{of_some, with_at, less_at, has_pid, less_hosted, OutputNs}
use Rattle.published.specs.Seen as Seen
use Rattle.published.specs.Seen.{how_many, chained}
use Rattle.published.proofs.SomeBelow.{any-hit, any-is}
use Rattle.published.proofs.Concatenated.{run_at, run_all, Between, from_zero, chained-keyed, run_all-one, length-chained, in_turn, count-chained}

-- ---- one name

pub insert-seen : (n p : ℕ) (es : List Entry) → lookup n es ≡ none → (m : ℕ) → lookup m (insert (record { name = n; pid = p }) es)
    ≡ with_at n p (λ k. lookup k es) m
insert-seen n p es h m =
    ⊎_elim
    (λ (e : n ≡ m).
    ap (λ (k : ℕ). lookup k (insert (record { name = n; pid = p }) es)) (sym e) ∙ lookup-insert-same (record { name = n; pid = p }) es h
    ∙ rw (eq-eqb n m e))
    (λ (e : n ≡ m → ⊥). rw (ne_eqb n m) (lookup-insert-other m (record { name = n; pid = p }) es e))
    (by_eq n m)

pub remove-seen : (n : ℕ) (es : List Entry) → Ascending 0 es → (m : ℕ) → lookup m (remove n es) ≡ less_at n (λ k. lookup k es) m
remove-seen n es s m =
    ⊎_elim
    (λ (e : n ≡ m). ap (λ (k : ℕ). lookup k (remove n es)) (sym e) ∙ lookup-remove-same 0 n es s ∙ rw (eq-eqb n m e))
    (λ (e : n ≡ m → ⊥). rw (ne_eqb n m) (lookup-remove-other m n es e))
    (by_eq n m)

-- ---- the names of some hosts

pub drop_hosted-seen : (set : ℕ) (es : List Entry) → Ascending 0 es → (m : ℕ) → lookup m (drop_hosted set es) ≡ less_hosted (has set) (λ k. lookup k es) m
drop_hosted-seen set es s m = go (lookup m es) refl
  where
    go : (o : Option ℕ) → lookup m es ≡ o → lookup m (drop_hosted set es) ≡ of_some none (λ p. cond (has set (host p)) none (some p)) o
    go none e = lookup-drop_hosted-none set m es e
    go (some p) e = lookup-drop_hosted 0 set m p es s e

-- ---- a pid

-- the name that a held pid stands under
pid_where : {A : Type 0} (p lo : ℕ) (es : List Entry) → Ascending lo es → holds_pid p es ≡ true
    → ((n : ℕ) → lo < n → n < half_word → lookup n es ≡ some p → A) → A
unfolding Ascending lookup holds_pid
pid_where p lo [] s h k = let z : ◌≡◌ {A = ℕ} 0 1 = cc in absurd (omega arith)
pid_where p lo (e ∷ es) s h k =
    or_cases (eqb e.pid p) _ h
    (λ q. k e.name s.0 s.1 (rw (eq-eqb e.name e.name refl) (ap some (eqb-true e.pid p q))))
    (λ q. pid_where p e.name es s.3 q (λ n a c f. k n (omega (arith, s.0)) c (rw (ne_eqb e.name n (λ z. omega arith)) f)))

pub pid-seen : (p : ℕ) (es : List Entry) → Ascending 0 es → has_pid p (λ n. lookup n es) ≡ holds_pid p es
pid-seen p es s =
    any-is half_word _ _ (λ n l h. back n (lookup n es) refl h)
    (λ h. pid_where p 0 es s h (λ n a c f. any-hit half_word (λ m. of_some false (λ q. eqb q p) (lookup m es)) n c (rw f (eq-eqb p p refl))))
  where
    back : (n : ℕ) (o : Option ℕ) → lookup n es ≡ o → of_some false (λ q. eqb q p) o ≡ true → holds_pid p es ≡ true
    back n none f h = let z : ◌≡◌ {A = ℕ} 0 1 = cc in absurd (omega arith)
    back n (some q) f h = holds_pid-lookup n p es (f ∙ ap some (eqb-true q p h))

-- ---- all names, in order

between-names : {B : Type 0} (h : Entry → List B) (lo : ℕ) (es : List Entry) → Ascending lo es → Between (λ e. e.name) h (suc lo) half_word es
unfolding Between Ascending
between-names h lo [] s = tt
between-names h lo (e ∷ es) s = (s.0, s.1, between-names h e.name es s.3)

abbrev entry_at : ℕ → ℕ → List Entry
entry_at n p = record { name = n; pid = p } ∷ []

run-found : (n : ℕ) (es : List Entry) → of_some [] (entry_at n) (lookup n es) ≡ run_at (λ e. e.name) (λ e. e ∷ []) n es
unfolding lookup run_at
run-found n [] = refl
run-found n (e ∷ es) =
    ⊎_elim
    (λ (p : e.name ≡ n). rw (eq-eqb e.name n p) (ap (λ (k : ℕ). entry_at k e.pid) (sym p)))
    (λ (p : e.name ≡ n → ⊥). rw (ne_eqb e.name n p) (run-found n es))
    (by_eq e.name n)

module _ (es : List Entry) (s : Ascending 0 es) where
  -- the names are those that are found
  gathered-names : chained half_word 0 (λ n. of_some [] (entry_at n) (lookup n es)) ≡ es
  gathered-names =
      chained-keyed (λ e. e.name) (λ e. e ∷ []) half_word 0 half_word es _ refl
      (from_zero (λ e. e.name) (λ e. e ∷ []) 1 half_word es (between-names (λ e. e ∷ []) 0 es s)) (λ n l. run-found n es)
      ∙ run_all-one (λ e. e.name) es

  pub count-names : how_many half_word (λ n. held (lookup n es)) ≡ length es
  count-names =
      count-chained half_word (λ n. held (lookup n es))
      ∙ length-chained half_word 0 (in_turn (λ n. held (lookup n es))) (λ n. of_some [] (entry_at n) (lookup n es)) (λ n. one (lookup n es) n)
      ∙ ap length gathered-names
    where
      one : (o : Option ℕ) (n : ℕ) → length (cond (held o) (n ∷ []) []) ≡ length (of_some [] (entry_at n) o)
      one none n = refl
      one (some p) n = refl

-- ---- the list of registered_names

module _ (s : ℕ) where
  abbrev word_at : Entry → ℕ
  word_at e = s * half_word + e.name

  abbrev one_word : Entry → List ℕ
  one_word e = word_at e ∷ []

  between-words : s < group_names → (lo : ℕ) (es : List Entry) → Ascending lo es
      → Between word_at one_word (suc (s * half_word + lo)) (group_names * half_word) es
  unfolding Between Ascending
  between-words l lo [] u = tt
  between-words l lo (e ∷ es) u = (omega (arith, u.0), omega (arith, u.1), between-words l e.name es u.3)

  -- a word is that of an entry where its halves are the s_group and the name
  same_word : (n w : ℕ) → n < half_word → eqb (s * half_word + n) w ≡ eqb s (w / half_word) && eqb n (w % half_word)
  same_word n w l =
      ⊎_elim
      (λ (p : s * half_word + n ≡ w). rw (eq-eqb (s * half_word + n) w p, eq-eqb s (w / half_word) (omega arith), eq-eqb n (w % half_word) (omega arith)))
      (λ (p : s * half_word + n ≡ w → ⊥).
      ⊎_elim
      (λ (q : s ≡ w / half_word).
      rw (ne_eqb (s * half_word + n) w p, ne_eqb n (w % half_word) (λ r. p (omega arith))) (sym (and-false (eqb s (w / half_word)))))
      (λ (q : s ≡ w / half_word → ⊥). rw (ne_eqb (s * half_word + n) w p, ne_eqb s (w / half_word) q))
      (by_eq s (w / half_word)))
      (by_eq (s * half_word + n) w)

  word-found : (lo w : ℕ) (es : List Entry) → Ascending lo es
      → cond (eqb s (w / half_word) && held (lookup (w % half_word) es)) (w ∷ []) [] ≡ run_at word_at one_word w es
  unfolding lookup run_at Ascending
  word-found lo w [] u = ap (λ (x : Bool). cond x (w ∷ []) []) (and-false (eqb s (w / half_word)))
  word-found lo w (e ∷ es) u =
      go (eqb s (w / half_word)) (eqb e.name (w % half_word)) (eqb (word_at e) w) refl (same_word e.name w u.1) (word-found e.name w es u.3)
    where
      go : (x y z : Bool) → eqb (word_at e) w ≡ z → z ≡ x && y → cond (x && held (lookup (w % half_word) es)) (w ∷ []) [] ≡ run_at word_at one_word w es
          → cond (x && held (cond y (some e.pid) (lookup (w % half_word) es))) (w ∷ []) [] ≡ cond z (one_word e) (run_at word_at one_word w es)
      go true true z q r ih = rw r (ap (λ (k : ℕ). k ∷ []) (sym (eqb-true (word_at e) w (q ∙ r))))
      go true false z q r ih = rw r ih
      go false y z q r ih = rw r ih

  run_words : (es : List Entry) → run_all word_at one_word es ≡ name_words s es
  unfolding run_all
  run_words [] = refl
  run_words (e ∷ es) = ap (λ (l : List ℕ). word_at e ∷ l) (run_words es)

  pub words-seen : s < group_names → (es : List Entry) → Ascending 0 es → Seen.name_words (OutputNs s (λ n. lookup n es)) ≡ name_words s es
  words-seen l es u =
      chained-keyed word_at one_word (group_names * half_word) 0 (group_names * half_word) es _ refl
      (from_zero word_at one_word _ (group_names * half_word) es (between-words l 0 es u)) (λ w k. word-found 0 w es u)
      ∙ run_words es
