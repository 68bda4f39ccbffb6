-- A row that the walk over a sound table holds, told by the words of its s_group. Assumes nothing.
use Rattle.std.specs.Prelude.{◌≡◌, refl, true, false, ◌&&◌, List, [], ◌∷◌, ℕ, zero, suc, ◌+◌, ◌-◌, ◌*◌, ◌≤◌, ◌<◌, eqb, length, take, drop}
use Rattle.std.proofs.Common.{sym, ap, ◌∙◌, arith, length-take-le, eq-eqb, ne_eqb, eqb-true}
use Rattle.std.proofs.Math.Bool.{and-eq-true_iff}
use Rattle.std.proofs.Math.Seq.{split_at}
use Rattle.nodes.specs.Bools.{test-ext}
use Rattle.entries.specs.Entries.{Entry, half_word, word_of, words}
use Rattle.entries.specs.NamespaceSound.{Ascending, Sound}
use Rattle.semantics.specs.Sizes.{names_per_group}
use Rattle.semantics.specs.State.{Group}
use Rattle.semantics.specs.Test.{sound}
use Rattle.semantics.specs.Soundness.{count_of, name_of}
use Rattle.semantics.specs.Regular.{RegularGroup}
use Rattle.semantics.specs.Truth.{unless}
use Rattle.semantics.specs.Places.{no_group, group_at, every-iff}
use Rattle.semantics.specs.Bodies.{own_at}
use Rattle.semantics.specs.OneGroup.{group_words}
use Rattle.place.specs.Seats.{Seat, Room, seat-group}
use Rattle.sound_table.specs.Here.{here, regular, base}
use Rattle.place.specs.Sound.{seat-below}
use Rattle.indexes.specs.Index.{Row, key_of, pid_of, group_of, rows, walk}
use Rattle.indexes.specs.Ascending.{holds}
use Rattle.indexes.specs.WalkWords.{groups-counted}
use Rattle.indexes.specs.TestLaws.{holds-none, holds-group, holds_named}
use Rattle.index_test.specs.Right.{holds_word}
use Rattle.index_test.specs.Named.{name-here}

-- the word that its s_group has for the row
abbrev pub word_for : Row → ℕ
word_for r = r.name * half_word + pid_of r

-- an entry has the row where its word is that word
one_word : (r : Row) (e : Entry) → e.pid < half_word → pid_of r < half_word
    → eqb (key_of e.pid (group_of r)) r.key && eqb e.name r.name ≡ eqb (word_of e) (word_for r)
one_word r e h l =
    test-ext (eqb (key_of e.pid (group_of r)) r.key && eqb e.name r.name) (eqb (word_of e) (word_for r))
    (λ t.
    let p = (and-eq-true_iff (eqb (key_of e.pid (group_of r)) r.key) (eqb e.name r.name)).0 t in
    let n : e.name ≡ r.name = eqb-true e.name r.name p.1 in
    eq-eqb (word_of e) (word_for r) (omega (arith, eqb-true (key_of e.pid (group_of r)) r.key p.0)))
    (λ t.
    let q : word_of e ≡ word_for r = eqb-true (word_of e) (word_for r) t in
    let n : e.name ≡ r.name = omega arith in
    rw (eq-eqb (key_of e.pid (group_of r)) r.key (omega arith)) (eq-eqb e.name r.name n))

-- no word but zero is past the entries
no_word : (w cap : ℕ) → 0 < w → holds_word w (words cap []) ≡ false
unfolding holds_word words
no_word w zero h = refl
no_word w (suc cap) h = rw (ne_eqb 0 w (λ q. omega arith)) (no_word w cap h)

-- an s_group has the row where that word is among its words
rows_words : (cap b : ℕ) (r : Row) (es : List Entry) → Ascending b es → length es ≤ cap → pid_of r < half_word → 0 < r.name
    → holds r (rows (group_of r) es) ≡ holds_word (word_for r) (words cap es)
unfolding holds rows holds_word words Ascending
rows_words cap b r [] a h l n = sym (no_word (word_for r) cap (omega arith))
rows_words zero b r (e ∷ es) a h l n = absurd (omega arith)
rows_words (suc cap) b r (e ∷ es) a h l n = rw (one_word r e a.2 l, rows_words cap e.name r es a.3 (omega arith) l n)

-- ---- the s_group at place g of a sound table

module _ (t : List ℕ) (ok : sound names_per_group t ≡ true) (g : ℕ) (h : g < count_of t) where
  counted : g < length (here t).groups
  counted = omega (arith, groups-counted names_per_group t ok)

  pub names_sound : Sound names_per_group (here t).size (group_at (here t).groups g).names
  names_sound = ((every-iff (RegularGroup names_per_group (here t).size) (here t).groups).0 (regular t ok).each g counted).names_sound

  -- its words, from b up to e
  pub own_words : (b e : ℕ) → b ≡ own_at names_per_group g → e ≡ b + names_per_group
      → take (e - b) (drop b t) ≡ words names_per_group (group_at (here t).groups g).names
  own_words =
      group_words (base t ok) (take g (here t).groups) (drop (suc g) (here t).groups) (group_at (here t).groups g) (split_at (here t).groups g no_group counted) g
      (length-take-le g (here t).groups (omega (arith, counted)))

  -- a row of it is held where its word is among them
  pub held-words : (r : Row) → group_of r ≡ name_of t g → pid_of r < half_word → 0 < r.name
      → holds_word (word_for r) (words names_per_group (group_at (here t).groups g).names) ≡ holds r (walk (here t).groups)
  held-words r q l n =
      sym (holds-group names_per_group (here t).size r 0 (here t).groups (regular t ok).rising (regular t ok).each g counted (sym (q ∙ name-here t ok g h))
      ∙ rows_words names_per_group 0 r (group_at (here t).groups g).names names_sound.names names_sound.room l n)

-- ---- the s_group of a name

module _ (t : List ℕ) (ok : sound names_per_group t ≡ true) where
  -- where it stands, its name is told
  pub seat-name : (s k : ℕ) → Seat s k (here t).groups → s ≡ name_of t k
  seat-name s k w = sym (name-here t ok k (seat-below t ok w) ∙ ap (λ (g : Group). g.name) (seat-group w) ∙ w.named)

  -- where there is none, no row of it is held
  pub not-held : (r : Row) (k : ℕ) → Room (group_of r) k (here t).groups → false ≡ holds r (walk (here t).groups)
  not-held r k w = sym (holds-none names_per_group (here t).size r (here t).groups (regular t ok).each w.finds)

  -- no row is held whose name is out of range
  pub unnamed : (r : Row) → (0 < r.name → r.name < half_word → ⊥) → holds r (walk (here t).groups) ≡ false
  unnamed r out = unless _ (λ h. let p = holds_named names_per_group (here t).size r (here t).groups (regular t ok).each h in out p.0 p.1)
