-- On the words of a sound namespace the functions of `src/` do what is done with its entries, at every capacity.
-- Assumes nothing.
use Rattle.std.specs.Prelude.{◌≡◌, refl, List, [], ◌∷◌, ◌++◌, map, true, false, cond, ◌&&◌, ℕ, zero, suc, ◌+◌, ◌*◌, ◌/◌, ◌%◌, ◌≤◌, ◌<◌, length, get_or, set, take, drop, ltb, leb, eqb, Result, Ok, Err}
use Rattle.std.proofs.Common.{sym, ap, ◌∙◌, ⊎_elim, not-suc-le-zero, le_of_suc-le-suc, arith, lt-ltb, le-ltb, le-leb, leb-true, eq-eqb, ne_eqb}
use Rattle.std.proofs.Math.Option.{Option, none, some}
use Rattle.std.proofs.Math.Nat.{suc-sub-suc, sub-zero}
use Rattle.nodes.specs.Bools.{by_test, by_lt, by_eq}
use Rattle.entries.specs.Entries.{Entry, half_word, insert, remove, renew, lookup, rank, holds_pid, drop_hosted, word_of, words, entries}
use Rattle.entries.specs.NamespaceSound.{Ascending, Sound}
use Rattle.entries.specs.Raw.{place, found_at, found, answer_at, seen_of, lookup_seen, pid_answer, opened, add_answer, added, closed, closed_at, dropped, stored_at, replaced, listed_name, list_answer, listed, hosted_answer, hosted_dropped}
use Rattle.entries.specs.EntryLaws.{held_or_not, lookup-low, remove_absent, renew-absent}
use Rattle.entries.specs.NamespaceKept.{length-drop_hosted}
use Rattle.entries.specs.Storage.{length-words, length-entries, entries-words}
use Rattle.entries.specs.Search.{narrowed-finds}
use Rattle.entries.specs.declared.Refusal.{Refusal}
use Rattle.entries.specs.declared.Refusal.TheVariants.{Absent, Full, Unfit}

-- ---- the place of a name

rank-le : (n : ℕ) (es : List Entry) → rank n es ≤ length es
unfolding rank
rank-le n [] = omega arith
rank-le n (e ∷ es) =
    ⊎_elim
    (λ (t : e.name < n). rw (lt-ltb e.name n) (omega (arith, rank-le n es)))
    (λ (t : n ≤ e.name). rw (le-ltb e.name n) (omega arith))
    (by_lt e.name n)

-- no word of names above lo is below lo's
words-above : (cap lo n i : ℕ) (es : List Entry) → Ascending lo es → n ≤ lo → length es ≤ cap → i < length es → n * half_word ≤ get_or (words cap es) i 0
unfolding Ascending words
words-above cap lo n i [] s h l k = absurd (omega arith)
words-above zero lo n i (e ∷ es) s h l k = absurd (omega arith)
words-above (suc cap) lo n zero (e ∷ es) s h l k = omega arith
words-above (suc cap) lo n (suc i) (e ∷ es) s h l k = words-above cap e.name n i es s.3 (omega arith) (omega arith) (omega arith)

words-below : (cap lo n i : ℕ) (es : List Entry) → Ascending lo es → length es ≤ cap → i < rank n es → get_or (words cap es) i 0 < n * half_word
unfolding Ascending words rank
words-below cap lo n i [] s l k = absurd (omega arith)
words-below zero lo n i (e ∷ es) s l k = absurd (omega arith)
words-below (suc cap) lo n zero (e ∷ es) s l k =
    ⊎_elim
    (λ (t : e.name < n). omega arith)
    (λ (t : n ≤ e.name). absurd (not-suc-le-zero (rw (le-ltb e.name n) at k)))
    (by_lt e.name n)
words-below (suc cap) lo n (suc i) (e ∷ es) s l k =
    ⊎_elim
    (λ (t : e.name < n). words-below cap e.name n i es s.3 (omega arith) (le_of_suc-le-suc (rw (lt-ltb e.name n) at k)))
    (λ (t : n ≤ e.name). absurd (not-suc-le-zero (rw (le-ltb e.name n) at k)))
    (by_lt e.name n)

words-from : (cap lo n i : ℕ) (es : List Entry) → Ascending lo es → length es ≤ cap → rank n es ≤ i → i < length es → n * half_word ≤ get_or (words cap es) i 0
unfolding Ascending words rank
words-from cap lo n i [] s l k m = absurd (omega arith)
words-from zero lo n i (e ∷ es) s l k m = absurd (omega arith)
words-from (suc cap) lo n zero (e ∷ es) s l k m =
    ⊎_elim
    (λ (t : e.name < n). absurd (not-suc-le-zero (rw (lt-ltb e.name n) at k)))
    (λ (t : n ≤ e.name). omega arith)
    (by_lt e.name n)
words-from (suc cap) lo n (suc i) (e ∷ es) s l k m =
    ⊎_elim
    (λ (t : e.name < n). words-from cap e.name n i es s.3 (omega arith) (le_of_suc-le-suc (rw (lt-ltb e.name n) at k)) (omega arith))
    (λ (t : n ≤ e.name). words-above cap e.name n i es s.3 t (omega arith) (omega arith))
    (by_lt e.name n)

pub place_words : (cap size n : ℕ) (es : List Entry) → Sound cap size es → place (length es) n (words cap es) ≡ rank n es
unfolding place
place_words cap size n es s =
    narrowed-finds (length es) 0 (length es) (n * half_word) (rank n es) (words cap es) (omega arith) (omega arith) (omega (arith, rank-le n es))
    (record { below = λ i h. words-below cap 0 n i es s.names s.room h; above = λ i h k. words-from cap 0 n i es s.names s.room h (omega arith) })

-- ---- find

held_at_rank : (cap lo n p : ℕ) (es : List Entry) → Ascending lo es → length es ≤ cap → lookup n es ≡ some p
    → (rank n es < length es) × (get_or (words cap es) (rank n es) 0 ≡ n * half_word + p) × (p < half_word)
unfolding Ascending words rank lookup
held_at_rank cap lo n p [] s l h = held_or_not h
held_at_rank zero lo n p (e ∷ es) s l h = absurd (omega arith)
held_at_rank (suc cap) lo n p (e ∷ es) s l h =
    ⊎_elim
    (λ (t : e.name ≡ n).
    let same : some e.pid ≡ some p = rw (eq-eqb e.name n) at h in
    let pid : e.pid ≡ p = cc in
    rw (le-ltb e.name n (omega arith)) (omega arith, omega arith, omega arith))
    (λ (t : e.name ≡ n → ⊥).
    let later : lookup n es ≡ some p = rw (ne_eqb e.name n) at h in
    ⊎_elim
    (λ (u : e.name < n).
    let ih = held_at_rank cap e.name n p es s.3 (omega arith) later in
    rw (lt-ltb e.name n) (omega (arith, ih.0), ih.1, ih.2))
    (λ (u : n ≤ e.name). held_or_not (sym (lookup-low e.name n es s.3 u) ∙ later))
    (by_lt e.name n))
    (by_eq e.name n)

absent-at-rank : (cap lo n : ℕ) (es : List Entry) → Ascending lo es → length es ≤ cap → lookup n es ≡ none → rank n es < length es
    → get_or (words cap es) (rank n es) 0 / half_word ≡ n → ⊥
unfolding Ascending words rank lookup
absent-at-rank cap lo n [] s l h k q = omega arith
absent-at-rank zero lo n (e ∷ es) s l h k q = omega arith
absent-at-rank (suc cap) lo n (e ∷ es) s l h k q =
    ⊎_elim
    (λ (t : e.name ≡ n). held_or_not (sym (rw (eq-eqb e.name n) at h)))
    (λ (t : e.name ≡ n → ⊥).
    ⊎_elim
    (λ (u : e.name < n).
    absent-at-rank cap e.name n es s.3 (omega arith) (rw (ne_eqb e.name n) at h) (le_of_suc-le-suc (rw (lt-ltb e.name n) at k)) (rw (lt-ltb e.name n) at q))
    (λ (u : n ≤ e.name). let w : word_of e / half_word ≡ n = rw (le-ltb e.name n) at q in t (omega arith))
    (by_lt e.name n))
    (by_eq e.name n)

pub found-words : (cap size n : ℕ) (es : List Entry) → Sound cap size es → found (length es) n (words cap es) ≡ answer_at (rank n es) (lookup n es)
unfolding found found_at
found-words cap size n es s =
    rw (length-words cap es, le-leb (length es) cap s.room, place_words cap size n es s) (go (lookup n es) refl)
  where
    go : (o : Option ℕ) → lookup n es ≡ o → cond (ltb (rank n es) (length es) && eqb (get_or (words cap es) (rank n es) 0 / half_word) n) (Ok (rank n es, get_or (words cap es) (rank n es) 0 % half_word)) (Err Absent) ≡ answer_at (rank n es) o
    go (some p) h =
        let held = held_at_rank cap 0 n p es s.names s.room h in
        let name : get_or (words cap es) (rank n es) 0 / half_word ≡ n = omega (arith, held.1, held.2) in
        let pid : get_or (words cap es) (rank n es) 0 % half_word ≡ p = omega (arith, held.1, held.2) in
        rw (lt-ltb (rank n es) (length es) held.0, eq-eqb (get_or (words cap es) (rank n es) 0 / half_word) n, pid)
    go none h =
        ⊎_elim
        (λ (t : rank n es < length es). rw (lt-ltb (rank n es) (length es), ne_eqb (get_or (words cap es) (rank n es) 0 / half_word) n (absent-at-rank cap 0 n es s.names s.room h t)))
        (λ (t : length es ≤ rank n es). rw (le-ltb (rank n es) (length es)))
        (by_lt (rank n es) (length es))

-- ---- look_up

pub seen-words : (cap size n set : ℕ) (es : List Entry) → Sound cap size es → seen_of set (found (length es) n (words cap es)) ≡ lookup_seen set (lookup n es)
seen-words cap size n set es s = ap (seen_of set) (found-words cap size n es s) ∙ told (lookup n es)
  where
    told : (o : Option ℕ) → seen_of set (answer_at (rank n es) o) ≡ lookup_seen set o
    told (some p) = refl
    told none = refl

-- ---- holds_pid

pub pid_answer-words : (cap size p : ℕ) (es : List Entry) → Sound cap size es → pid_answer (length es) p (words cap es) ≡ Ok (holds_pid p es)
unfolding pid_answer
pid_answer-words cap size p es s = rw (length-words cap es, le-leb (length es) cap s.room, entries-words cap size es s)

-- ---- add

-- an entry in front of the others moves them up
pushed : (cap : ℕ) (f : Entry) (fs : List Entry) → length fs < cap → word_of f ∷ (take (length fs) (words cap fs) ++ drop (suc (length fs)) (words cap fs)) ≡ words cap (f ∷ fs)
unfolding words
pushed zero f fs h = absurd (omega arith)
pushed (suc cap) f [] h = refl
pushed (suc cap) f (g ∷ gs) h = ap (λ (ws : List ℕ). word_of f ∷ ws) (pushed cap g gs (omega arith))

opened-words : (cap lo : ℕ) (e : Entry) (es : List Entry) → Ascending lo es → lookup e.name es ≡ none → length es < cap
    → opened (rank e.name es) (length es) (word_of e) (words cap es) ≡ words cap (insert e es)
unfolding Ascending opened rank insert lookup words
opened-words zero lo e es s a h = absurd (omega arith)
opened-words (suc cap) lo e [] s a h = refl
opened-words (suc cap) lo e (f ∷ fs) s a h =
    ⊎_elim
    (λ (t : e.name < f.name).
    rw (le-ltb f.name e.name (omega arith), lt-ltb e.name f.name, sub-zero (suc (length fs))) (ap (λ (ws : List ℕ). word_of e ∷ ws) (pushed cap f fs (omega arith))))
    (λ (t : f.name ≤ e.name).
    ⊎_elim
    (λ (q : f.name ≡ e.name). held_or_not (sym (rw (eq-eqb f.name e.name) at a)))
    (λ (q : f.name ≡ e.name → ⊥).
    rw (lt-ltb f.name e.name (omega arith), le-ltb e.name f.name, suc-sub-suc (length fs) (rank e.name fs))
    (ap (λ (ws : List ℕ). word_of f ∷ ws) (opened-words cap f.name e fs s.3 (rw (ne_eqb f.name e.name) at a) (omega arith))))
    (by_eq f.name e.name))
    (by_lt e.name f.name)

pub add_answer-words : (cap size : ℕ) (es : List Entry) → Sound cap size es → add_answer (length es) (words cap es) ≡ cond (ltb (length es) cap) (Ok tt) (Err Full)
unfolding add_answer
add_answer-words cap size es s = rw (length-words cap es, le-leb (length es) cap s.room)

pub added-words : (cap size : ℕ) (e : Entry) (es : List Entry) → Sound cap size es → lookup e.name es ≡ none → length es < cap
    → added (length es) e.name e.pid (words cap es) ≡ words cap (insert e es)
unfolding added
added-words cap size e es s a h =
    rw (length-words cap es, lt-ltb (length es) cap, place_words cap size e.name es s) (opened-words cap 0 e es s.names a h)

-- ---- drop_name

-- the others move down over an entry in front of them
pulled : (cap : ℕ) (es : List Entry) → length es ≤ cap → take (length es) (words cap es) ++ 0 ∷ drop (length es) (words cap es) ≡ words (suc cap) es
unfolding words
pulled cap [] h = refl
pulled zero (e ∷ es) h = absurd (omega arith)
pulled (suc cap) (e ∷ es) h = ap (λ (ws : List ℕ). word_of e ∷ ws) (pulled cap es (omega arith))

closed-words : (cap lo n p : ℕ) (es : List Entry) → Ascending lo es → length es ≤ cap → lookup n es ≡ some p
    → closed (rank n es) (length es) (words cap es) ≡ words cap (remove n es)
unfolding Ascending closed rank remove lookup words
closed-words cap lo n p [] s l h = held_or_not h
closed-words zero lo n p (e ∷ es) s l h = absurd (omega arith)
closed-words (suc cap) lo n p (e ∷ es) s l h =
    ⊎_elim
    (λ (t : e.name ≡ n). rw (le-ltb e.name n (omega arith), eq-eqb e.name n, suc-sub-suc (length es) 0, sub-zero (length es)) (pulled cap es (omega arith)))
    (λ (t : e.name ≡ n → ⊥).
    let later : lookup n es ≡ some p = rw (ne_eqb e.name n) at h in
    ⊎_elim
    (λ (u : e.name < n).
    rw (lt-ltb e.name n, ne_eqb e.name n, suc-sub-suc (length es) (suc (rank n es)))
    (ap (λ (ws : List ℕ). word_of e ∷ ws) (closed-words cap e.name n p es s.3 (omega arith) later)))
    (λ (u : n ≤ e.name). held_or_not (sym (lookup-low e.name n es s.3 u) ∙ later))
    (by_lt e.name n))
    (by_eq e.name n)

pub dropped-words : (cap size n : ℕ) (es : List Entry) → Sound cap size es → dropped (length es) n (words cap es) ≡ words cap (remove n es)
unfolding dropped
dropped-words cap size n es s = rw (found-words cap size n es s) (go (lookup n es) refl)
  where
    go : (o : Option ℕ) → lookup n es ≡ o → closed_at (answer_at (rank n es) o) (length es) (words cap es) ≡ words cap (remove n es)
    go (some p) h = closed-words cap 0 n p es s.names s.room h
    go none h = ap (words cap) (sym (remove_absent n es h))

-- ---- replace

stored_at-rank : (cap lo n p q : ℕ) (es : List Entry) → Ascending lo es → length es ≤ cap → lookup n es ≡ some q
    → set (words cap es) (rank n es) (n * half_word + p) ≡ words cap (renew n p es)
unfolding Ascending rank renew lookup words
stored_at-rank cap lo n p q [] s l h = held_or_not h
stored_at-rank zero lo n p q (e ∷ es) s l h = absurd (omega arith)
stored_at-rank (suc cap) lo n p q (e ∷ es) s l h =
    ⊎_elim
    (λ (t : e.name ≡ n). rw (le-ltb e.name n (omega arith), eq-eqb e.name n))
    (λ (t : e.name ≡ n → ⊥).
    let later : lookup n es ≡ some q = rw (ne_eqb e.name n) at h in
    ⊎_elim
    (λ (u : e.name < n).
    rw (lt-ltb e.name n, ne_eqb e.name n) (ap (λ (ws : List ℕ). word_of e ∷ ws) (stored_at-rank cap e.name n p q es s.3 (omega arith) later)))
    (λ (u : n ≤ e.name). held_or_not (sym (lookup-low e.name n es s.3 u) ∙ later))
    (by_lt e.name n))
    (by_eq e.name n)

pub replaced-words : (cap size n p : ℕ) (es : List Entry) → Sound cap size es → replaced (length es) n p (words cap es) ≡ words cap (renew n p es)
unfolding replaced
replaced-words cap size n p es s = rw (found-words cap size n es s) (go (lookup n es) refl)
  where
    go : (o : Option ℕ) → lookup n es ≡ o → stored_at (answer_at (rank n es) o) (n * half_word + p) (words cap es) ≡ words cap (renew n p es)
    go (some q) h = stored_at-rank cap 0 n p q es s.names s.room h
    go none h = ap (words cap) (sym (renew-absent n p es h))

-- ---- list_names

pub list_answer-words : (cap size : ℕ) (es : List Entry) (out : List ℕ) → Sound cap size es
    → list_answer (length es) (words cap es) out ≡ cond (leb (length es) (length out)) (Ok (length es)) (Err Unfit)
unfolding list_answer
list_answer-words cap size es out s = rw (length-words cap es, le-leb (length es) cap s.room)

pub listed-words : (cap size t : ℕ) (es : List Entry) (out : List ℕ) → Sound cap size es → length es ≤ length out
    → listed (length es) t (words cap es) out ≡ map (listed_name t) es ++ drop (length es) out
unfolding listed
listed-words cap size t es out s h =
    rw (length-words cap es, le-leb (length es) cap s.room, le-leb (length es) (length out), entries-words cap size es s)

-- ---- drop_hosted

-- fewer entries, then zeros, then the words that were zero before
shorter : (cap : ℕ) (fs es : List Entry) → length fs ≤ length es → length es ≤ cap → words (length es) fs ++ drop (length es) (words cap es) ≡ words cap fs
unfolding words
shorter cap [] [] h k = refl
shorter cap (f ∷ fs) [] h k = absurd (omega arith)
shorter zero fs (e ∷ es) h k = absurd (omega arith)
shorter (suc cap) [] (e ∷ es) h k = ap (λ (ws : List ℕ). 0 ∷ ws) (shorter cap [] es (omega arith) (omega arith))
shorter (suc cap) (f ∷ fs) (e ∷ es) h k = ap (λ (ws : List ℕ). word_of f ∷ ws) (shorter cap fs es (omega arith) (omega arith))

pub hosted_answer-words : (cap size hosts : ℕ) (es : List Entry) → Sound cap size es
    → hosted_answer (length es) hosts (words cap es) ≡ Ok (length (drop_hosted hosts es))
unfolding hosted_answer
hosted_answer-words cap size hosts es s = rw (length-words cap es, le-leb (length es) cap s.room, entries-words cap size es s)

pub hosted_dropped-words : (cap size hosts : ℕ) (es : List Entry) → Sound cap size es → hosted_dropped (length es) hosts (words cap es) ≡ words cap (drop_hosted hosts es)
unfolding hosted_dropped
hosted_dropped-words cap size hosts es s =
    rw (length-words cap es, le-leb (length es) cap s.room, entries-words cap size es s)
    (shorter cap (drop_hosted hosts es) es (length-drop_hosted hosts es) s.room)

-- no more are left than there were, and no more were there than words
pub hosted_few : (count hosts kept : ℕ) (ws : List ℕ) → Ok kept ≡ hosted_answer count hosts ws → (kept ≤ count) × (count ≤ length ws)
unfolding hosted_answer
hosted_few count hosts kept ws e =
    ⊎_elim
    (λ (q : leb count (length ws) ≡ true).
    let same : ◌≡◌ {A = Result ℕ Refusal} (Ok kept) (Ok (length (drop_hosted hosts (entries count ws)))) = rw q at e in
    let many : kept ≡ length (drop_hosted hosts (entries count ws)) = cc in
    let room : count ≤ length ws = leb-true count (length ws) q in
    (omega (arith, length-drop_hosted hosts (entries count ws), length-entries count ws room), room))
    (λ (q : leb count (length ws) ≡ false).
    let same : ◌≡◌ {A = Result ℕ Refusal} (Ok kept) (Err Unfit) = rw q at e in absurd (grind arith))
    (by_test (leb count (length ws)))
