-- When a namespace is sound: as a statement of its entries, as a test of its entries, and as a test of words. Assumes nothing.
use Rattle.std.specs.Prelude.{◌≡◌, List, [], ◌∷◌, Bool, true, false, not, ◌&&◌, ℕ, ◌≤◌, ◌<◌, length, drop, ltb, leb, eqb}
use Rattle.std.proofs.Math.Option.{none}
use Rattle.entries.specs.Entries.{Entry, half_word, host, lookup, holds_pid, entries, words}

-- ---- as a statement

-- the names are above lo and ascend; names and pids fit half a word
unfoldable pub Ascending : ℕ → List Entry → Type 0
Ascending lo [] = Unit {0}
Ascending lo (e ∷ es) = (lo < e.name) × (e.name < half_word) × (e.pid < half_word) × Ascending e.name es

-- no pid stands twice
unfoldable pub Distinct : List Entry → Type 0
Distinct [] = Unit {0}
Distinct (e ∷ es) = (holds_pid e.pid es ≡ false) × Distinct es

-- each pid's host is one of the first size nodes
unfoldable pub Hosted : ℕ → List Entry → Type 0
Hosted size [] = Unit {0}
Hosted size (e ∷ es) = (host e.pid < size) × Hosted size es

-- a sound namespace: it fits cap words, its names ascend from 1, its pids are distinct, and each has its host among size nodes
pub record Sound (cap size : ℕ) (es : List Entry) : Type 0 where
  pub room : length es ≤ cap
  pub names : Ascending 0 es
  pub pids : Distinct es
  pub hosts : Hosted size es

-- an entry that may be put in: its name is no zero and not held, its pid is not held and has its host among size nodes, and both fit half a word
pub record New (size : ℕ) (e : Entry) (es : List Entry) : Type 0 where
  pub above : 0 < e.name
  pub name_fits : e.name < half_word
  pub pid_fits : e.pid < half_word
  pub absent : lookup e.name es ≡ none
  pub fresh : holds_pid e.pid es ≡ false
  pub near : host e.pid < size

-- the words hold a sound namespace of count entries, and nothing else
pub record Stored (size count : ℕ) (ws : List ℕ) : Type 0 where
  pub used : count ≤ length ws
  pub sound : Sound (length ws) size (entries count ws)
  pub whole : words (length ws) (entries count ws) ≡ ws

-- ---- as a test

-- whether `Ascending` holds
unfoldable pub is_ascending : ℕ → List Entry → Bool
is_ascending lo [] = true
is_ascending lo (e ∷ es) = ltb lo e.name && (ltb e.name half_word && (ltb e.pid half_word && is_ascending e.name es))

-- whether `Distinct` holds
unfoldable pub is_distinct : List Entry → Bool
is_distinct [] = true
is_distinct (e ∷ es) = not (holds_pid e.pid es) && is_distinct es

-- whether `Hosted` holds
unfoldable pub is_hosted : ℕ → List Entry → Bool
is_hosted size [] = true
is_hosted size (e ∷ es) = ltb (host e.pid) size && is_hosted size es

-- whether `Sound` holds
unfoldable pub sound_entries : ℕ → ℕ → List Entry → Bool
sound_entries cap size es = leb (length es) cap && (is_ascending 0 es && (is_distinct es && is_hosted size es))

-- every word is zero
unfoldable pub all_zero : List ℕ → Bool
all_zero [] = true
all_zero (w ∷ ws) = eqb w 0 && all_zero ws

-- whether `Stored` holds: what `is_sound` answers
unfoldable pub sound_words : ℕ → ℕ → List ℕ → Bool
sound_words size count ws = leb count (length ws) && (sound_entries (length ws) size (entries count ws) && all_zero (drop count ws))
