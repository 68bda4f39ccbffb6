-- Laws of `follows`: what the reader says of the text that is tried, and that trying keeps what stands in front of the place. Assumes nothing.
use Rattle.std.specs.Prelude.{◌≡◌, refl, Result, Bool, true, false, List, [], ◌∷◌, ◌++◌, ℕ, ◌+◌, ◌≤◌, ◌<◌, length, get_or, take}
use Rattle.std.proofs.Common.{sym, ◌∙◌, append-nil, le_refl, add-one, arith, le-leb, leb-true}
use Rattle.std.proofs.lemmas.Bool.{lt-leb}
use Rattle.std.proofs.Math.Seq.{take-length}
use Rattle.nodes.specs.Sets.{with_node}
use Rattle.print.specs.Sheets.{sheet, put}
use Rattle.print.specs.Putting.{put-said}
use Rattle.grammar.specs.Place.{Shares, refused-place}
use Rattle.grammar.specs.File.{Group, Outcome, taken, refused, outcome}
use Rattle.launch_file.specs.Reading.{read_as}
use Rattle.launch_expected.specs.Following.{unrefused, begins, follows, following, Kept}
use Rattle.launch_expected.specs.declared.Trial.{Trial}

-- no text stands in front of a place behind the run
pub no_place : (room : List ℕ) (p : ℕ) (b : List ℕ) → length room < p → false ≡ follows room p b
unfolding follows
no_place room p b h = rw (lt-leb p (length room) h)

module _ (room : List ℕ) (p : ℕ) (b : List ℕ) (h : p ≤ length room) (o : List ℕ) (e : ℕ) (s : sheet o e ≡ put (sheet room p) b) where
  -- what the reader says of the text that stands there then
  pub tried : (x : List ℕ) → x ≡ take e o → (r v : Result ℕ ℕ) → outcome x ≡ read_as x r → r ≡ v → unrefused e (read_as x v) ≡ follows room p b
  unfolding follows begins
  tried x q r v f g =
      let w = put-said room o p e b h s in
      rw (le-leb p (length room) h, ← w.place, ← w.front, ← q, f, g)

  -- and in front of the place is what was there
  pub kept-front : take p o ≡ take p room
  kept-front = (put-said room o p e b h s).kept

-- what can follow hangs on what stands in front of the place alone
pub same-follows : (l o : List ℕ) (p : ℕ) (b : List ℕ) → length o ≡ length l → take p o ≡ take p l → follows o p b ≡ follows l p b
unfolding follows
same-follows l o p b h e = rw (h, e)

-- a trial behind another
pub kept_on : {a b c : Trial} → Kept a b → Kept b c → Kept a c
kept_on {a = a} {b = b} {c = c} k l = record {
  place = l.place ∙ k.place;
  length = l.length ∙ k.length;
  front = (rw k.place at l.front) ∙ k.front;
}

-- a turn of the loop over some bytes: whether the next can follow
module _ (l o : List ℕ) (p : ℕ) (bs : List ℕ) (i : ℕ) (n : length o ≡ length l) (k : take p o ≡ take p l) (t : Bool) (e : t ≡ follows o p (get_or bs i 0 ∷ []))
    (set : ℕ) (s : set ≡ following l p bs i) where
  next-follows : follows l p (get_or bs i 0 ∷ []) ≡ t
  next-follows = sym (e ∙ same-follows l o p (get_or bs i 0 ∷ []) n k)

  pub with_byte : t ≡ true → (u : ℕ) → u ≡ with_node set i → u ≡ following l p bs (i + 1)
  unfolding following
  with_byte f u g = rw (add-one, next-follows ∙ f, ← s) g

  pub without-byte : t ≡ false → set ≡ following l p bs (i + 1)
  unfolding following
  without-byte f = rw (add-one, next-follows ∙ f) s

-- ---- what it means

-- a text that begins some launch file can be made one by more bytes
pub begins-shares : (t : List ℕ) → begins t ≡ true → Shares t (length t)
unfolding begins Shares
begins-shares t = go (outcome t) refl
  where
    go : (o : Outcome) → outcome t ≡ o → unrefused (length t) o ≡ true → (s : List ℕ) × (gs : List Group) × (outcome (take (length t) t ++ s) ≡ taken gs)
    go (taken gs) e h = ([], gs, rw (take-length, append-nil) e)
    go (refused p) e h =
        let w = refused-place t p e in
        let k : p ≡ length t = omega (arith, leb-true (length t) p h, w.within) in
        rw (← k) w.shared

-- and one that cannot is none that begins one
pub shares-begins : (t : List ℕ) → Shares t (length t) → begins t ≡ true
unfolding begins
shares-begins t s = go (outcome t) refl
  where
    go : (o : Outcome) → outcome t ≡ o → unrefused (length t) o ≡ true
    go (taken gs) e = refl
    go (refused p) e = le-leb (length t) p ((refused-place t p e).most (length t) (le_refl (length t)) s)
