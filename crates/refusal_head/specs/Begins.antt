-- Laws of `head_lines` and `slip`, and of a run that begins with some bytes, as far as it has room for them. Assumes nothing.
use Rattle.std.specs.Prelude.{◌≡◌, refl, Bool, true, false, List, [], ◌∷◌, ◌++◌, ℕ, zero, suc, ◌+◌, ◌-◌, ◌≤◌, ◌<◌, leb, length, take, drop}
use Rattle.std.proofs.Common.{◌∙◌, append-nil, arith, length-take, length-drop, drop_of_length-le, take_all, length-take-le}
use borrow.Author.Tests.{leb-true, leb-false}
use Rattle.std.proofs.Math.Seq.{take-append_seam, take-append-add}
use Rattle.text.specs.Text.{bytes}
use Rattle.answers.specs.declared.Reason.{Reason}
use Rattle.position.specs.Position.{line_of, column_of}
use Rattle.print.specs.Printed.{decimal}
use Rattle.print.specs.Sheets.{sheet, put}
use Rattle.print.specs.Putting.{put-said}
use Rattle.refusal_head.specs.Refusal.{place_words, head_lines}

-- ---- the head

pub placed-words : (name text : List ℕ) (p l k : ℕ) → l ≡ line_of text p → k ≡ column_of text p
    → name ++ (bytes ":" ++ (decimal l ++ (bytes ":" ++ (decimal k ++ bytes ": ")))) ≡ place_words name text p
unfolding place_words
placed-words name text p l k e f = rw (e, f)

pub same_head : (r : Reason) (p : ℕ) (t u : Bool) (name f g : List ℕ) → t ≡ u → f ≡ g → head_lines r p t name f ≡ head_lines r p u name g
same_head r p t u name f g d e = rw (d, e)

-- ---- a run that begins with some bytes

-- nothing is taken of nothing
none : (m : ℕ) (t : List ℕ) → length t ≤ 0 → take m t ≡ []
none zero t h = refl
none (suc m) [] h = refl
none (suc m) (x ∷ t) h = absurd (omega arith)

module _ (l o : List ℕ) (p : ℕ) (a : List ℕ) (e : sheet o p ≡ put (sheet l 0) a) where
  -- what stands in front of the place: the bytes, as far as there is room
  begun : (take p o ≡ take (length l) a) × (p ≡ length (take (length l) a))
  begun =
      let s = put-said l o 0 p a (omega arith) e in
      let z : length l - 0 ≡ length l = omega arith in
      (rw z at s.front, rw z at s.place)

  pub said-whole : take p (take p o) ≡ take (length l) a
  said-whole = take_all p (take p o) (omega (arith, length-take p o)) ∙ begun.0

  -- and whatever is put behind the place, so many bytes of it
  pub said-begins : (tail : List ℕ) (k m : ℕ) → length o ≤ p + k → length tail ≡ length l - p
      → take (length a) (take (p + m) (take p o ++ (tail ++ drop k (drop p o)))) ≡ take (length l) a
  said-begins tail k m w h =
      let c : List ℕ = take (length l) a in
      let g : take (p + m) (take p o ++ tail) ≡ c ++ take m tail = rw (begun.0, begun.1, take-append-add) in
      let v : length (drop p o) ≤ k = omega (arith, length-drop p o) in
      rw (drop_of_length-le (drop p o) v, append-nil, g) (go (leb (length a) (length l)) refl)
    where
      go : (t : Bool) → leb (length a) (length l) ≡ t → take (length a) (take (length l) a ++ take m tail) ≡ take (length l) a
      go true t = let z : take (length l) a ≡ a = take_all (length l) a (leb-true _ _ t) in rw (z, take-append_seam)
      go false t =
          let k : length l < length a = leb-false (length a) (length l) t in
          let n : length (take (length l) a) ≡ length l = length-take-le (length l) a (omega arith) in
          let z : take m tail ≡ [] = none m tail (omega (arith, begun.1)) in
          rw (z, append-nil) (take_all (length a) (take (length l) a) (omega arith))
