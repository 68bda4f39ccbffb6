-- A change of names is written to the s_group's own words and to the count in its contents word, and nowhere else. Assumes nothing.
use Rattle.std.specs.Prelude.{◌≡◌, refl, ◌≢◌, List, [], ◌∷◌, ◌++◌, ℕ, suc, ◌+◌, ◌-◌, ◌*◌, ◌≤◌, ◌<◌, length, get_or, take, drop, set}
use Rattle.std.proofs.Common.{sym, ap, ◌∙◌, append_assoc, arith, length-append, drop-drop, get_or-set_same, get_or-set_other}
use Rattle.std.proofs.lemmas.List.Edits.{sets, sets-eq}
use Rattle.std.proofs.Math.Seq.{lt-length-sets}
use Rattle.entries.specs.Entries.{Entry, words}
use Rattle.entries.specs.Storage.{length-words}
use Rattle.semantics.specs.Sizes.{group_limit, group_names, contents_at}
use Rattle.semantics.specs.State.{Group, State, with_groups}
use Rattle.semantics.specs.Table.{contents, layout}
use Rattle.semantics.specs.Soundness.{name_of}
use Rattle.semantics.specs.Bodies.{own_at, body_end}
use Rattle.semantics.specs.WordsOfState.{Sized, Laid, laid, words_of, length-of}
use Rattle.semantics.specs.OneGroup.{group_words, names-put, group-contents}

-- words stored one after another leave those before and after them
getD-sets-other : (vs l : List ℕ) (i k : ℕ) → (i ≤ k → k < i + length vs → ⊥) → get_or (sets l i vs) k 0 ≡ get_or l k 0
getD-sets-other [] l i k h = refl
getD-sets-other (v ∷ vs) l i k h =
    getD-sets-other vs (set l i v) (suc i) k (λ a b. h (omega arith) (omega arith)) ∙ get_or-set_other l i k v 0 (λ e. h (omega arith) (omega arith))

-- the state with the names ns for the s_group g
abbrev pub renamed : List Group → Group → List Group → List Entry → State → State
renamed pre g post ns st = with_groups (pre ++ record { name = g.name; members = g.members; names = ns } ∷ post) st

module _ (cap : ℕ) (st : State) (sized : Sized st) (pre post : List Group) (g : Group) (is : st.groups ≡ pre ++ g ∷ post) (ns : List Entry) where
  table : Laid cap st (layout cap st)
  table = laid cap st sized

  place : length pre < group_limit
  place = omega (arith, ap length is, length-append pre (g ∷ post), sized.groups_few)

  own_words : take (own_at cap (length pre) + cap - own_at cap (length pre)) (drop (own_at cap (length pre)) (layout cap st)) ≡ words cap g.names
  own_words = group_words table pre post g is (length pre) refl (own_at cap (length pre)) (own_at cap (length pre) + cap) refl refl

  own_in : own_at cap (length pre) + cap ≤ length (layout cap st)
  own_in = omega (arith, length-of table, body_end cap (length pre) place)

  -- the words of the changed state are those of the old, but for its own words and its contents word
  pub frame : layout cap (renamed pre g post ns st)
      ≡ set (sets (layout cap st) (own_at cap (length pre)) (words cap ns)) (contents_at + length pre) (g.name + group_names * length ns)
  frame =
      sym (words_of (names-put table pre post g is (length pre) refl ns (λ (ws : List ℕ). words cap ns) refl lo (lo + cap) refl refl (words cap ns)
      (length-words cap ns ∙ sym (ap length own_words ∙ length-words cap g.names)) refl (g.name + group_names * length ns) refl))
      ∙ ap (λ (u : List ℕ). set u (contents_at + length pre) (g.name + group_names * length ns)) stored
    where
      lo : ℕ
      lo = own_at cap (length pre)

      stored : take lo (layout cap st) ++ (words cap ns ++ drop (lo + cap - lo) (drop lo (layout cap st))) ≡ sets (layout cap st) lo (words cap ns)
      stored =
          let e : lo + (lo + cap - lo) ≡ lo + length (words cap ns) = omega (arith, length-words cap ns) in
          rw (drop-drop (lo + cap - lo) lo (layout cap st), e)
          (sym (append_assoc (take lo (layout cap st)) (words cap ns) _) ∙ sym (sets-eq (words cap ns) (layout cap st) lo (omega (arith, length-words cap ns, own_in))))

  -- every other word stays
  pub frame-other : (k : ℕ) → k ≢ contents_at + length pre → (own_at cap (length pre) ≤ k → k < own_at cap (length pre) + cap → ⊥)
      → get_or (layout cap (renamed pre g post ns st)) k 0 ≡ get_or (layout cap st) k 0
  frame-other k c o =
      ap (λ (u : List ℕ). get_or u k 0) frame
      ∙ get_or-set_other (sets (layout cap st) (own_at cap (length pre)) (words cap ns)) (contents_at + length pre) k _ 0 c
      ∙ getD-sets-other (words cap ns) (layout cap st) (own_at cap (length pre)) k (λ a b. o a (omega (arith, length-words cap ns)))

  -- in its contents word the name stays
  pub frame-name : g.name < group_names → name_of (layout cap (renamed pre g post ns st)) (length pre) ≡ name_of (layout cap st) (length pre)
  frame-name h =
      let n : get_or (layout cap (renamed pre g post ns st)) (contents_at + length pre) 0 ≡ g.name + group_names * length ns =
      ap (λ (u : List ℕ). get_or u (contents_at + length pre) 0) frame
      ∙ get_or-set_same (sets (layout cap st) (own_at cap (length pre)) (words cap ns)) (contents_at + length pre) _ 0
      (lt-length-sets (layout cap st) (own_at cap (length pre)) (words cap ns) (omega (arith, own_in, place))) in
      let o : get_or (layout cap st) (contents_at + length pre) 0 ≡ contents g = group-contents table pre post g is (length pre) refl in
      omega arith
