-- A word among words that ascend before zeros, found by halves; the words of a sound namespace are such. Assumes nothing.
use Rattle.std.specs.Prelude.{◌≡◌, ◌↔◌, Bool, true, false, not, ◌&&◌, List, [], ◌∷◌, ℕ, zero, suc, ◌+◌, ◌-◌, ◌*◌, ◌/◌, ◌≤◌, ◌<◌, eqb, leb, length, get_or}
use Rattle.std.proofs.Common.{sym, ap, ◌∙◌, ⊎_elim, true≢false, arith, eq-eqb, ne_eqb, eqb-true, le-leb, leb-true}
use Rattle.std.proofs.lemmas.Bool.{false≢true, eqb-false, not-true}
use Rattle.std.proofs.Math.Bool.{or-true, and-eq-true_iff}
use mir.Val.{bool_byte}
use Rattle.std.proofs.Math.ListN.{get_or-eq_default}
use Rattle.nodes.specs.Bools.{by_lt, by_eq, by_test, test-ext}
use Rattle.entries.specs.Entries.{Entry, word_of, words}
use Rattle.entries.specs.NamespaceSound.{Sound}
use Rattle.entries.specs.Storage.{length-words}
use Rattle.semantics.specs.EntryPlaces.{no_entry, words_at, climbing-iff}
use Rattle.semantics.specs.Truth.{or_cases}
use Rattle.index_test.specs.Right.{holds_word}

-- a word other than zero is above each before it, and none of those is zero
abbrev pub Upward : List ℕ → Type 0
Upward ws = (j k : ℕ) → j < k → 0 < get_or ws k 0 → (0 < get_or ws j 0) × (get_or ws j 0 < get_or ws k 0)

-- ---- by halves

-- n places from b on, where a word other than zero stands if it is among upward words
pub record Within (w : ℕ) (ws : List ℕ) (b n : ℕ) : Type 0 where
  pub some : 0 < n
  pub fits : b + n ≤ length ws
  pub sought : 0 < w → Upward ws → (j : ℕ) → get_or ws j 0 ≡ w → (b ≤ j) × (j < b + n)

-- whether the word at m is none of zero and at most w
abbrev pub upto : ℕ → List ℕ → ℕ → Bool
upto w ws m = not (eqb (get_or ws m 0) 0) && leb (get_or ws m 0) w

upto-iff : (w : ℕ) (ws : List ℕ) (m : ℕ) → (upto w ws m ≡ true) ↔ ((0 < get_or ws m 0) × (get_or ws m 0 ≤ w))
upto-iff w ws m = (
  λ e.
      let parts = (and-eq-true_iff (not (eqb (get_or ws m 0) 0)) (leb (get_or ws m 0) w)).0 e in
      (omega (arith, eqb-false (get_or ws m 0) 0 (not-true (eqb (get_or ws m 0) 0) parts.0)), leb-true (get_or ws m 0) w parts.1),
  λ h. rw (ne_eqb (get_or ws m 0) 0 (λ q. omega arith)) (le-leb (get_or ws m 0) w h.1),
)

module _ (w : ℕ) (ws : List ℕ) (some : 0 < w) (up : Upward ws) (j : ℕ) (is : get_or ws j 0 ≡ w) (m : ℕ) where
  -- then w does not stand before m
  not-before : upto w ws m ≡ true → m ≤ j
  not-before h =
      let p = (upto-iff w ws m).0 h in
      ⊎_elim (λ (t : j < m). absurd (omega (arith, up j m t p.0))) (λ (t : m ≤ j). t) (by_lt j m)

  -- and else it stands before m
  before : upto w ws m ≡ false → j < m
  before h =
      let never : 0 < get_or ws m 0 → get_or ws m 0 ≤ w → ⊥ = λ a b. true≢false (sym ((upto-iff w ws m).1 (a, b)) ∙ h) in
      ⊎_elim
      (λ (t : j < m). t)
      (λ (t : m ≤ j).
      ⊎_elim
      (λ (q : m ≡ j). let e : get_or ws m 0 ≡ get_or ws j 0 = ap (λ (k : ℕ). get_or ws k 0) q in absurd (never (omega arith) (omega arith)))
      (λ (q : m ≡ j → ⊥). let p = up m j (omega arith) (omega arith) in absurd (never p.0 (omega arith)))
      (by_eq m j))
      (by_lt j m)

-- then half of them, or one more
pub halved : (w : ℕ) (ws : List ℕ) (b n : ℕ) → 1 < n → Within w ws b n → Within w ws (b + n / 2 * bool_byte (upto w ws (b + n / 2))) (n - n / 2)
halved w ws b n h r =
    ⊎_elim
    (λ (t : upto w ws (b + n / 2) ≡ true).
    rw t (record {
      some = omega arith;
      fits = omega arith;
      sought = λ l u j e. let p = r.sought l u j e in omega (arith, not-before w ws l u j e (b + n / 2) t);
    }))
    (λ (t : upto w ws (b + n / 2) ≡ false).
    rw t (record {
      some = omega arith;
      fits = omega arith;
      sought = λ l u j e. let p = r.sought l u j e in omega (arith, before w ws l u j e (b + n / 2) t);
    }))
    (by_test (upto w ws (b + n / 2)))

-- ---- where one place is left

-- a place where the word stands
record Stands (w : ℕ) (ws : List ℕ) : Type 0 where
  at : ℕ
  is : get_or ws at 0 ≡ w

stands : (w : ℕ) (ws : List ℕ) → holds_word w ws ≡ true → Stands w ws
unfolding holds_word
stands w [] h = absurd (false≢true h)
stands w (x ∷ ws) h =
    or_cases (eqb x w) (holds_word w ws) h (λ e. record { at = 0; is = eqb-true x w e }) (λ e. let r = stands w ws e in record { at = suc r.at; is = r.is })

held : (w : ℕ) (ws : List ℕ) (k : ℕ) → k < length ws → get_or ws k 0 ≡ w → holds_word w ws ≡ true
unfolding holds_word
held w [] k h e = absurd (omega arith)
held w (x ∷ ws) zero h e = rw (eq-eqb x w e)
held w (x ∷ ws) (suc k) h e = rw (held w ws k (omega arith) e) (or-true (eqb x w))

-- the word there is the one that is sought, if it is among them
pub found : (w : ℕ) (ws : List ℕ) (b : ℕ) → Within w ws b 1 → 0 < w → Upward ws → eqb (get_or ws b 0) w ≡ holds_word w ws
found w ws b r l u =
    test-ext (eqb (get_or ws b 0) w) (holds_word w ws)
    (λ e. held w ws b (omega arith) (eqb-true (get_or ws b 0) w e))
    (λ e.
    let s = stands w ws e in
    let p : s.at ≡ b = omega (arith, r.sought l u s.at s.is) in
    eq-eqb (get_or ws b 0) w (rw (← p) s.is))

-- ---- the words of a namespace

-- they ascend before zeros
pub words-upward : (cap N : ℕ) (es : List Entry) → Sound cap N es → Upward (words cap es)
words-upward cap N es s j k h l =
    let c = (climbing-iff 0 es).0 s.names in
    let fits : k < cap =
    ⊎_elim
    (λ (t : k < cap). t)
    (λ (t : cap ≤ k). absurd (omega (arith, get_or-eq_default (words cap es) 0 {n = k} (omega (arith, length-words cap es)))))
    (by_lt k cap) in
    let used : k < length es =
    ⊎_elim
    (λ (t : k < length es). t)
    (λ (t : length es ≤ k). absurd (omega (arith, words_at cap es k fits, ap word_of (get_or-eq_default es no_entry t))))
    (by_lt k (length es)) in
    rw (words_at cap es j (omega arith), words_at cap es k fits)
    (omega (arith, c.above j (omega arith), c.pid_fits j (omega arith), c.upward j k h used))
