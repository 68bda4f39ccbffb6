-- The entries of a namespace by their place: what soundness says of each and of each two, and the word that holds each. Assumes nothing.
use Rattle.std.specs.Prelude.{◌≡◌, refl, ◌↔◌, ◌≢◌, false, List, [], ◌∷◌, ℕ, zero, suc, ◌≤◌, ◌<◌, eqb, length, get_or}
use Rattle.std.proofs.Common.{sym, not-suc-le-zero, arith, ne_eqb}
use Rattle.std.proofs.lemmas.Bool.{eqb-false}
use Rattle.entries.specs.Entries.{Entry, half_word, host, holds_pid, word_of, entry_of, words, entries}
use Rattle.entries.specs.NamespaceSound.{Ascending, Distinct, Hosted}
use Rattle.semantics.specs.Truth.{neither}
use Rattle.semantics.specs.Places.{each-place, each-pair}

-- what stands past the end of the entries: its word is zero
abbrev pub no_entry : Entry
no_entry = record { name = 0; pid = 0 }

-- the entry at place k
abbrev pub entry_at : List Entry → ℕ → Entry
entry_at es k = get_or es k no_entry

-- ---- its word

pub words_at : (cap : ℕ) (es : List Entry) (k : ℕ) → k < cap → get_or (words cap es) k 0 ≡ word_of (entry_at es k)
unfolding words
words_at zero es k h = absurd (not-suc-le-zero h)
words_at (suc cap) [] zero h = refl
words_at (suc cap) [] (suc k) h = words_at cap [] k (omega arith)
words_at (suc cap) (e ∷ es) zero h = refl
words_at (suc cap) (e ∷ es) (suc k) h = words_at cap es k (omega arith)

pub entries_at : (count : ℕ) (ws : List ℕ) (k : ℕ) → count ≤ length ws → k < count → entry_at (entries count ws) k ≡ entry_of (get_or ws k 0)
unfolding entries
entries_at zero ws k h l = absurd (not-suc-le-zero l)
entries_at (suc count) [] k h l = absurd (not-suc-le-zero h)
entries_at (suc count) (w ∷ ws) zero h l = refl
entries_at (suc count) (w ∷ ws) (suc k) h l = entries_at count ws k (omega arith) (omega arith)

-- ---- a sound namespace

-- the names are above lo, and each is below those after it; names and pids fit half a word
pub record Climbing (lo : ℕ) (es : List Entry) : Type 0 where
  pub above : (k : ℕ) → k < length es → lo < (entry_at es k).name
  pub name_fits : (k : ℕ) → k < length es → (entry_at es k).name < half_word
  pub pid_fits : (k : ℕ) → k < length es → (entry_at es k).pid < half_word
  pub upward : (j k : ℕ) → j < k → k < length es → (entry_at es j).name < (entry_at es k).name

pub climbing-iff : (lo : ℕ) (es : List Entry) → Ascending lo es ↔ Climbing lo es
unfolding Ascending
climbing-iff lo [] = (
  λ h. record {
    above = λ k l. absurd (not-suc-le-zero l);
    name_fits = λ k l. absurd (not-suc-le-zero l);
    pid_fits = λ k l. absurd (not-suc-le-zero l);
    upward = λ j k d l. absurd (not-suc-le-zero l);
  },
  λ h. tt,
)
climbing-iff lo (e ∷ es) = (
  λ h.
      let r : Climbing e.name es = (climbing-iff e.name es).0 h.3 in
      record {
        above = each-place (length es) (λ k. lo < (entry_at (e ∷ es) k).name) h.0 (λ k l. omega (arith, h.0, r.above k l));
        name_fits = each-place (length es) (λ k. (entry_at (e ∷ es) k).name < half_word) h.1 r.name_fits;
        pid_fits = each-place (length es) (λ k. (entry_at (e ∷ es) k).pid < half_word) h.2 r.pid_fits;
        upward = each-pair (length es) (λ j k. (entry_at (e ∷ es) j).name < (entry_at (e ∷ es) k).name) r.above r.upward;
      },
  λ h. (
    h.above 0 (omega arith),
    h.name_fits 0 (omega arith),
    h.pid_fits 0 (omega arith),
    (climbing-iff e.name es).1 (record {
      above = λ k l. h.upward 0 (suc k) (omega arith) (omega arith);
      name_fits = λ k l. h.name_fits (suc k) (omega arith);
      pid_fits = λ k l. h.pid_fits (suc k) (omega arith);
      upward = λ j k d l. h.upward (suc j) (suc k) (omega arith) (omega arith);
    }),
  ),
)

absent-iff : (p : ℕ) (es : List Entry) → (holds_pid p es ≡ false) ↔ ((k : ℕ) → k < length es → (entry_at es k).pid ≢ p)
unfolding holds_pid
absent-iff p [] = (λ h k l. absurd (not-suc-le-zero l), λ h. refl)
absent-iff p (e ∷ es) = (
  λ h.
      let q = neither (eqb e.pid p) (holds_pid p es) h in
      each-place (length es) (λ k. (entry_at (e ∷ es) k).pid ≢ p) (eqb-false _ _ q.0) ((absent-iff p es).0 q.1),
  λ h. rw (ne_eqb e.pid p (h 0 (omega arith))) ((absent-iff p es).1 (λ k l. h (suc k) (omega arith))),
)

pub distinct-iff : (es : List Entry) → Distinct es ↔ ((j k : ℕ) → j < k → k < length es → (entry_at es j).pid ≢ (entry_at es k).pid)
unfolding Distinct
distinct-iff [] = (λ h j k d l. absurd (not-suc-le-zero l), λ h. tt)
distinct-iff (e ∷ es) = (
  λ h.
      each-pair (length es) (λ j k. (entry_at (e ∷ es) j).pid ≢ (entry_at (e ∷ es) k).pid) (λ k l q. (absent-iff e.pid es).0 h.0 k l (sym q))
      ((distinct-iff es).0 h.1),
  λ h. (
    (absent-iff e.pid es).1 (λ k l q. h 0 (suc k) (omega arith) (omega arith) (sym q)),
    (distinct-iff es).1 (λ j k d l. h (suc j) (suc k) (omega arith) (omega arith)),
  ),
)

pub hosted-iff : (N : ℕ) (es : List Entry) → Hosted N es ↔ ((k : ℕ) → k < length es → host (entry_at es k).pid < N)
unfolding Hosted
hosted-iff N [] = (λ h k l. absurd (not-suc-le-zero l), λ h. tt)
hosted-iff N (e ∷ es) = (
  λ h. each-place (length es) (λ k. host (entry_at (e ∷ es) k).pid < N) h.0 ((hosted-iff N es).0 h.1),
  λ h. (h 0 (omega arith), (hosted-iff N es).1 (λ k l. h (suc k) (omega arith))),
)
