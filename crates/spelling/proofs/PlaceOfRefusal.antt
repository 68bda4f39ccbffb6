-- Where a text is refused is the place that `FilePlace` defines. Assumes nothing.
use Rattle.std.specs.Prelude.{◌≡◌, true, List, ◌++◌, ℕ, ◌≤◌, length, take, drop}
use Rattle.std.proofs.Common.{sym, ap, ◌∙◌, take-append-drop, length-take-le}
use Rattle.std.proofs.Math.Seq.{take-append_seam}
use Rattle.grammar.specs.File.{Group, taken, refused, outcome}
use Rattle.grammar.specs.Place.{Shares, refused-place}
use Rattle.spelling.specs.Spelling.{LaunchFile, groups_of, well_formed, Blank, spell}
use Rattle.spelling.specs.FilePlace.{SomeFile, FilePlace}
use Rattle.spelling.proofs.Spelt.{spelt}
use Rattle.spelling.proofs.Converse.{taken_spelt}

-- where the text is refused
pub file-place : (t : List ℕ) (p : ℕ) → outcome t ≡ refused p → FilePlace t p
unfolding SomeFile Shares
file-place t p e = record { within = l; shared = begun; most = λ n k s. (refused-place t p e).most n k (shares n s) }
  where
    l : p ≤ length t
    l = (refused-place t p e).within

    begun : (f : LaunchFile) × (gap : ℕ → List ℕ) × (well_formed f ≡ true) × Blank gap × (take p (spell gap f) ≡ take p t)
    begun =
        let (s, gs, u) = (refused-place t p e).shared in
        let (f, gap, w, b, q, g) = taken_spelt (take p t ++ s) gs u in
        (f, gap, w, b, ap (take p) q ∙ ap (λ n. take n (take p t ++ s)) (sym (length-take-le p t l)) ∙ take-append_seam (take p t) s)

    shares : (n : ℕ) → (f : LaunchFile) × (gap : ℕ → List ℕ) × (well_formed f ≡ true) × Blank gap × (take n (spell gap f) ≡ take n t)
        → (s : List ℕ) × (gs : List Group) × (outcome (take n t ++ s) ≡ taken gs)
    shares n (f, gap, w, b, q) = (drop n (spell gap f), groups_of f, ap outcome (ap (λ (x : List ℕ). x ++ drop n (spell gap f)) (sym q) ∙ take-append-drop n (spell gap f)) ∙ spelt f gap w b)
