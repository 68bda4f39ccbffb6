-- A sound namespace and the words that hold it determine each other, and the tests say what the statements say.
-- Each law holds at every capacity. Assumes nothing.
use Rattle.std.specs.Prelude.{◌≡◌, refl, ◌↔◌, List, [], ◌∷◌, ◌++◌, map, Bool, true, false, ◌&&◌, ◌||◌, ℕ, zero, suc, ◌+◌, ◌-◌, ◌/◌, ◌%◌, ◌≤◌, ◌<◌, length, get_or, drop, replicate, eqb}
use Rattle.std.proofs.Common.{sym, ap, ap₂, not-suc-le-zero, add-one, arith, drop-cons, lt-ltb, le-leb, ltb-true, leb-true, eqb-true}
use Rattle.std.proofs.lemmas.Bool.{false≢true, not-true}
use Rattle.std.proofs.Math.Nat.{sub-zero, suc-sub-suc}
use Rattle.entries.specs.Entries.{Entry, half_word, host, holds_pid, word_of, entry_of, words, entries}
use Rattle.entries.specs.EntryLaws.{holds_pid-snoc}
use Rattle.entries.specs.NamespaceSound.{Ascending, Distinct, Hosted, Sound, Stored, is_ascending, is_distinct, is_hosted, sound_entries, all_zero, sound_words}

-- ---- one word

pub entry_of-word : (e : Entry) → e.pid < half_word → entry_of (word_of e) ≡ e
entry_of-word e h =
    let n : word_of e / half_word ≡ e.name = omega arith in
    let p : word_of e % half_word ≡ e.pid = omega arith in
    λ i. record { name = n i; pid = p i }

pub word_of-entry : (w : ℕ) → word_of (entry_of w) ≡ w
word_of-entry w = omega arith

-- ---- lengths

pub length-words : (cap : ℕ) (es : List Entry) → length (words cap es) ≡ cap
unfolding words
length-words zero es = refl
length-words (suc cap) [] = ap suc (length-words cap [])
length-words (suc cap) (e ∷ es) = ap suc (length-words cap es)

pub length-entries : (count : ℕ) (ws : List ℕ) → count ≤ length ws → length (entries count ws) ≡ count
unfolding entries
length-entries zero ws h = refl
length-entries (suc count) [] h = absurd (not-suc-le-zero h)
length-entries (suc count) (w ∷ ws) h = ap suc (length-entries count ws (omega arith))

words_nil : (cap : ℕ) → words cap [] ≡ replicate cap 0
unfolding words
words_nil zero = refl
words_nil (suc cap) = ap (λ (ws : List ℕ). 0 ∷ ws) (words_nil cap)

-- the words are those of the entries, then zeros
pub words_zeros : (cap : ℕ) (es : List Entry) → length es ≤ cap → words cap es ≡ map word_of es ++ replicate (cap - length es) 0
unfolding words
words_zeros cap [] h = rw sub-zero (words_nil cap)
words_zeros zero (e ∷ es) h = absurd (not-suc-le-zero h)
words_zeros (suc cap) (e ∷ es) h = rw (suc-sub-suc cap (length es)) (ap (λ (ws : List ℕ). word_of e ∷ ws) (words_zeros cap es (omega arith)))

-- ---- one entry after the other

pub entries_suc : (i : ℕ) (ws : List ℕ) → i < length ws → entries (suc i) ws ≡ entries i ws ++ entry_of (get_or ws i 0) ∷ []
unfolding entries
entries_suc zero [] h = absurd (omega arith)
entries_suc zero (w ∷ ws) h = refl
entries_suc (suc i) [] h = absurd (omega arith)
entries_suc (suc i) (w ∷ ws) h = ap (λ (es : List Entry). entry_of w ∷ es) (entries_suc i ws (omega arith))

pub holds_pid-more : (p i : ℕ) (ws : List ℕ) → i < length ws → holds_pid p (entries (i + 1) ws) ≡ holds_pid p (entries i ws) || eqb (get_or ws i 0 % half_word) p
holds_pid-more p i ws h = rw (add-one, entries_suc i ws) (holds_pid-snoc p (entries i ws) (entry_of (get_or ws i 0)))

-- the entries of the words from i up to the count
abbrev pub rest : ℕ → ℕ → List ℕ → List Entry
rest i count ws = entries (count - i) (drop i ws)

pub rest-next : (i count : ℕ) (ws : List ℕ) → i < count → i < length ws → rest i count ws ≡ entry_of (get_or ws i 0) ∷ rest (i + 1) count ws
unfolding entries
rest-next i count ws h k =
    let left : count - i ≡ suc (count - (i + 1)) = omega arith in
    rw (left, drop-cons ws i 0, add-one)

pub rest-none : (i count : ℕ) (ws : List ℕ) → count ≤ i → rest i count ws ≡ []
unfolding entries
rest-none i count ws h = let left : count - i ≡ 0 = omega arith in rw left

-- ---- there and back

entries-words-above : (cap lo : ℕ) (es : List Entry) → Ascending lo es → length es ≤ cap → entries (length es) (words cap es) ≡ es
unfolding Ascending entries words
entries-words-above cap lo [] s h = refl
entries-words-above zero lo (e ∷ es) s h = absurd (not-suc-le-zero h)
entries-words-above (suc cap) lo (e ∷ es) s h =
    ap₂ ◌∷◌ (entry_of-word e s.2) (entries-words-above cap e.name es s.3 (omega arith))

pub entries-words : (cap size : ℕ) (es : List Entry) → Sound cap size es → entries (length es) (words cap es) ≡ es
entries-words cap size es s = entries-words-above cap 0 es s.names s.room

-- ---- a test of two parts

both : (x y : Bool) → x && y ≡ true → (x ≡ true) × (y ≡ true)
both true y h = (refl, h)
both false y h = absurd (false≢true h)

-- ---- zeros

zero-words : (ws : List ℕ) → all_zero ws ≡ true → words (length ws) [] ≡ ws
unfolding all_zero words
zero-words [] z = refl
zero-words (w ∷ ws) z =
    let parts : (eqb w 0 ≡ true) × (all_zero ws ≡ true) = both (eqb w 0) (all_zero ws) z in
    ap₂ ◌∷◌ (sym (eqb-true w 0 parts.0)) (zero-words ws parts.1)

words-zero : (cap : ℕ) → all_zero (words cap []) ≡ true
unfolding all_zero words
words-zero zero = refl
words-zero (suc cap) = words-zero cap

pub words-entries : (count : ℕ) (ws : List ℕ) → count ≤ length ws → all_zero (drop count ws) ≡ true → words (length ws) (entries count ws) ≡ ws
unfolding words entries
words-entries zero ws h z = zero-words ws z
words-entries (suc count) [] h z = absurd (not-suc-le-zero h)
words-entries (suc count) (w ∷ ws) h z = ap₂ ◌∷◌ (word_of-entry w) (words-entries count ws (omega arith) z)

zeros-after : (cap : ℕ) (es : List Entry) → all_zero (drop (length es) (words cap es)) ≡ true
unfolding all_zero words
zeros-after cap [] = words-zero cap
zeros-after zero (e ∷ es) = refl
zeros-after (suc cap) (e ∷ es) = zeros-after cap es

-- ---- the tests

is_ascending-iff : (lo : ℕ) (es : List Entry) → (is_ascending lo es ≡ true) ↔ Ascending lo es
unfolding is_ascending Ascending
is_ascending-iff lo [] = (λ h. tt, λ s. refl)
is_ascending-iff lo (e ∷ es) = (
  λ h.
      let a = both _ _ h in
      let b = both _ _ a.1 in
      let c = both _ _ b.1 in
      (ltb-true _ _ a.0, ltb-true _ _ b.0, ltb-true _ _ c.0, (is_ascending-iff e.name es).0 c.1),
  λ s. rw (lt-ltb lo e.name s.0, lt-ltb e.name half_word s.1, lt-ltb e.pid half_word s.2) ((is_ascending-iff e.name es).1 s.3),
)

is_distinct-iff : (es : List Entry) → (is_distinct es ≡ true) ↔ Distinct es
unfolding is_distinct Distinct
is_distinct-iff [] = (λ h. tt, λ s. refl)
is_distinct-iff (e ∷ es) =
    (λ h. let a = both _ _ h in (not-true _ a.0, (is_distinct-iff es).0 a.1), λ s. rw s.0 ((is_distinct-iff es).1 s.1))

is_hosted-iff : (size : ℕ) (es : List Entry) → (is_hosted size es ≡ true) ↔ Hosted size es
unfolding is_hosted Hosted
is_hosted-iff size [] = (λ h. tt, λ s. refl)
is_hosted-iff size (e ∷ es) = (
  λ h. let a = both _ _ h in (ltb-true _ _ a.0, (is_hosted-iff size es).0 a.1),
  λ s. rw (lt-ltb (host e.pid) size s.0) ((is_hosted-iff size es).1 s.1),
)

pub sound_entries-iff : (cap size : ℕ) (es : List Entry) → (sound_entries cap size es ≡ true) ↔ Sound cap size es
unfolding sound_entries
sound_entries-iff cap size es = (
  λ h.
      let a = both _ _ h in
      let b = both _ _ a.1 in
      let c = both _ _ b.1 in
      record {
        room = leb-true _ _ a.0;
        names = (is_ascending-iff 0 es).0 b.0;
        pids = (is_distinct-iff es).0 c.0;
        hosts = (is_hosted-iff size es).0 c.1;
      },
  λ s. rw (le-leb (length es) cap s.room, (is_ascending-iff 0 es).1 s.names, (is_distinct-iff es).1 s.pids) ((is_hosted-iff size es).1 s.hosts),
)

pub sound_words-iff : (size count : ℕ) (ws : List ℕ) → (sound_words size count ws ≡ true) ↔ Stored size count ws
unfolding sound_words
sound_words-iff size count ws = (
  λ h.
      let a = both _ _ h in
      let b = both _ _ a.1 in
      let used : count ≤ length ws = leb-true _ _ a.0 in
      record {
        used = used;
        sound = (sound_entries-iff (length ws) size (entries count ws)).0 b.0;
        whole = words-entries count ws used b.1;
      },
  λ s.
      let zeros : all_zero (drop count ws) ≡ true =
      rw (s.whole, length-entries count ws s.used) at (zeros-after (length ws) (entries count ws)) in
      rw (le-leb count (length ws) s.used, (sound_entries-iff (length ws) size (entries count ws)).1 s.sound) zeros,
)

-- ---- the words of a sound namespace

pub stored-words : (cap size : ℕ) (es : List Entry) → Sound cap size es → Stored size (length es) (words cap es)
stored-words cap size es s = record {
  used = rw (length-words cap es) s.room;
  sound = rw (length-words cap es, entries-words cap size es s) s;
  whole = rw (length-words cap es, entries-words cap size es s);
}
