-- What the test of one s_group's names says, in the clauses of the soundness of a table. Assumes nothing.
use Rattle.std.specs.Prelude.{◌≡◌, ◌↔◌, ◌≢◌, List, true, ℕ, ◌+◌, ◌*◌, ◌/◌, ◌%◌, ◌≤◌, ◌<◌, length, get_or, drop}
use Rattle.std.proofs.Common.{sym, ap, ◌∙◌, subst, add_assoc, arith, length-drop, get_or-take, get_or-drop, length-take-le, ext_get_or, ⊎_elim}
use Rattle.std.proofs.Math.ListN.{get_or-eq_default}
use Rattle.nodes.specs.Sets.{word_at}
use Rattle.entries.specs.Entries.{Entry, half_word, host, word_of, words, entries}
use Rattle.entries.specs.NamespaceSound.{Stored}
use Rattle.entries.specs.Storage.{length-words, length-entries, word_of-entry, sound_words-iff}
use Rattle.nodes.specs.Bools.{by_lt}
use Rattle.semantics.specs.Sizes.{bodies_at}
use Rattle.semantics.specs.Soundness.{names_of, entry_of, process_of, pid_of}
use Rattle.semantics.specs.EntryPlaces.{Climbing, no_entry, entry_at, words_at, entries_at, climbing-iff, distinct-iff, hosted-iff}
use Rattle.groups_test.specs.GroupTests.{body, names_right}

-- group g holds a sound namespace with hosts among the first n nodes
pub record NamesSound (cap : ℕ) (t : List ℕ) (n g : ℕ) : Type 0 where
  pub few : names_of t g ≤ cap
  pub range : (k : ℕ) → k < names_of t g → (1 ≤ process_of cap t g k) × (process_of cap t g k < half_word)
  pub ascend : (j k : ℕ) → j < k → k < names_of t g → process_of cap t g j < process_of cap t g k
  pub distinct : (j k : ℕ) → j < k → k < names_of t g → pid_of cap t g j ≢ pid_of cap t g k
  pub hosted : (k : ℕ) → k < names_of t g → host (pid_of cap t g k) < n
  pub zero : (k : ℕ) → names_of t g ≤ k → k < cap → entry_of cap t g k ≡ 0

module _ (cap : ℕ) (t : List ℕ) (n g : ℕ) (inside : bodies_at + cap * g + cap ≤ length t) where
  abbrev ws : List ℕ
  ws = body cap t g

  long : length ws ≡ cap
  long = length-take-le cap (drop (bodies_at + cap * g) t) (simp length-drop (omega arith))

  word-is : (k : ℕ) → k < cap → get_or ws k 0 ≡ entry_of cap t g k
  word-is k h = get_or-take cap (drop (bodies_at + cap * g) t) k 0 h ∙ get_or-drop (bodies_at + cap * g) t k 0 ∙ ap (word_at t) (add_assoc bodies_at (cap * g) k)

  abbrev es : List Entry
  es = entries (names_of t g) ws

  module _ (few : names_of t g ≤ cap) where
    counted : length es ≡ names_of t g
    counted = length-entries (names_of t g) ws (omega (arith, long))

    module _ (k : ℕ) (h : k < names_of t g) where
      entry-is : entry_at es k ≡ record { name = process_of cap t g k; pid = pid_of cap t g k }
      entry-is =
          entries_at (names_of t g) ws k (omega (arith, long)) h
          ∙ ap (λ (w : ℕ). record { name = w / half_word; pid = w % half_word }) (word-is k (omega arith))

      name-is : (entry_at es k).name ≡ process_of cap t g k
      name-is = ap (λ (e : Entry). e.name) entry-is

      pid-is : (entry_at es k).pid ≡ pid_of cap t g k
      pid-is = ap (λ (e : Entry). e.pid) entry-is

  names-read : Stored n (names_of t g) ws → NamesSound cap t n g
  names-read s =
      let few : names_of t g ≤ cap = omega (arith, s.used, long) in
      let c : Climbing 0 es = (climbing-iff 0 es).0 s.sound.names in
      let d = (distinct-iff es).0 s.sound.pids in
      let o = (hosted-iff n es).0 s.sound.hosts in
      let l : length es ≡ names_of t g = counted few in
      record {
        few = few;
        range = λ k h. (
          omega (arith, name-is few k h, c.above k (omega arith)),
          omega (arith, name-is few k h, c.name_fits k (omega arith)),
        );
        ascend = λ j k i h. omega (arith, name-is few j (omega arith), name-is few k h, c.upward j k i (omega arith));
        distinct = λ j k i h e. d j k i (omega arith) (pid-is few j (omega arith) ∙ e ∙ sym (pid-is few k h));
        hosted = λ k h. subst (λ (p : ℕ). host p < n) (pid-is few k h) (o k (omega arith));
        zero = λ k h b.
            sym (word-is k b) ∙ ap (λ (x : List ℕ). get_or x k 0) (sym s.whole)
            ∙ words_at (length ws) es k (omega (arith, long))
            ∙ ap word_of (get_or-eq_default es no_entry (omega arith));
      }

  names-stored : NamesSound cap t n g → Stored n (names_of t g) ws
  names-stored s =
      let l : length es ≡ names_of t g = counted s.few in
      record {
        used = omega (arith, s.few, long);
        sound = record {
          room = omega (arith, s.few, long);
          names = (climbing-iff 0 es).1 (record {
            above = λ k h. omega (arith, name-is s.few k (omega arith), (s.range k (omega arith)).0);
            name_fits = λ k h. omega (arith, name-is s.few k (omega arith), (s.range k (omega arith)).1);
            pid_fits = λ k h. omega (arith, pid-is s.few k (omega arith));
            upward = λ j k i h. omega (arith, name-is s.few j (omega arith), name-is s.few k (omega arith), s.ascend j k i (omega arith));
          });
          pids = (distinct-iff es).1 (λ j k i h e.
              s.distinct j k i (omega arith) (sym (pid-is s.few j (omega arith)) ∙ e ∙ pid-is s.few k (omega arith)));
          hosts = (hosted-iff n es).1 (λ k h. subst (λ (p : ℕ). host p < n) (sym (pid-is s.few k (omega arith))) (s.hosted k (omega arith)));
        };
        whole =
            ext_get_or 0 (words (length ws) es) ws (length-words (length ws) es) λ k h.
            let b : k < cap = omega (arith, long, length-words (length ws) es) in
            words_at (length ws) es k (omega (arith, long))
            ∙ ⊎_elim
            (λ (u : k < names_of t g). ap word_of (entries_at (names_of t g) ws k (omega (arith, long, s.few)) u) ∙ word_of-entry (get_or ws k 0))
            (λ (u : names_of t g ≤ k). ap word_of (get_or-eq_default es no_entry (omega arith)) ∙ sym (word-is k b ∙ s.zero k u b))
            (by_lt k (names_of t g));
      }

  pub names-iff : (names_right cap t n g ≡ true) ↔ NamesSound cap t n g
  names-iff = (
    λ e. names-read ((sound_words-iff n (names_of t g) ws).0 e),
    λ s. (sound_words-iff n (names_of t g) ws).1 (names-stored s),
  )
