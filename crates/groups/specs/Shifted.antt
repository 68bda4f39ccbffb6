-- A section of a table that is a list with zeros after it: words go into the list and come out of it where those behind them move, a part of the
-- section being lent for that. Assumes nothing.
use Rattle.std.specs.Prelude.{◌≡◌, List, [], ◌∷◌, ◌++◌, ℕ, suc, ◌+◌, ◌-◌, ◌≤◌, ◌<◌, length, get_or, take, drop, set, replicate}
use Rattle.std.proofs.Common.{◌∙◌, subst, append_assoc, arith, length-append}
use Rattle.std.proofs.lemmas.List.{length-replicate, replicate-append-replicate, set_at}
use Rattle.moves.specs.Moves.{put_first, drop_first}
use Rattle.moves.specs.Shifting.{put-over, drop-over}
use Rattle.semantics.specs.Table.{pad}
use Rattle.semantics.specs.ThreeParts.{Cut}
use Rattle.semantics.specs.Sections.{start, Run, lent-in}

module _ {ns : List ℕ} {xs : List (List ℕ)} {t : List ℕ} (u : Run ns xs t) (k : ℕ) (h : k < length ns) where
  module _ (n width at used : ℕ) (p q : List ℕ) (starts : length p ≡ at) (b e : ℕ) (eb : b ≡ start k ns + at) where
    -- so many times v goes in behind p
    pub goes_in : get_or xs k [] ≡ pad n (p ++ q) → at + length q ≡ used → used + width ≤ n → e ≡ start k ns + used + width
        → (v : ℕ) (r : List ℕ) → length r ≡ length (take (e - b) (drop b t)) → r ≡ put_first width v (take (e - b) (drop b t))
        → Run ns (set xs k (pad n (p ++ (replicate width v ++ q)))) (take b t ++ (r ++ drop (e - b) (drop b t)))
    goes_in is many room ee v r kept moved =
        let z : List ℕ = replicate (n - (used + width)) 0 in
        let l : length (p ++ q) ≡ used = omega (arith, length-append p q) in
        let w : n - used ≡ width + (n - (used + width)) = omega arith in
        let c : Cut at (length q + width) (get_or xs k []) p (q ++ replicate width 0) z = record {
          is = is ∙ rw (l, w, ← replicate-append-replicate {A = ℕ} width (n - (used + width)) 0) (simp append_assoc);
          starts = starts;
          long = omega (arith, length-append q (replicate width 0), length-replicate {A = ℕ} width 0);
        } in
        let m : length (p ++ (replicate width v ++ q)) ≡ used + width =
        omega (arith, length-append p (replicate width v ++ q), length-append (replicate width v) q, length-replicate {A = ℕ} width v) in
        let f : p ++ (put_first width v (q ++ replicate width 0) ++ z) ≡ pad n (p ++ (replicate width v ++ q)) =
        rw (put-over width v q (replicate width 0) (length-replicate width 0), m) (simp append_assoc) in
        subst (λ (y : List ℕ). Run ns (set xs k y) (take b t ++ (r ++ drop (e - b) (drop b t)))) f
        (lent-in u k h c b e eb (omega arith) (put_first width v) r kept moved)

    -- x comes out behind p
    pub comes-out : (x : List ℕ) → get_or xs k [] ≡ pad n (p ++ (x ++ q)) → length x ≡ width → at + width + length q ≡ used → used ≤ n → e ≡ start k ns + used
        → (r : List ℕ) → length r ≡ length (take (e - b) (drop b t)) → r ≡ drop_first width (take (e - b) (drop b t))
        → Run ns (set xs k (pad n (p ++ q))) (take b t ++ (r ++ drop (e - b) (drop b t)))
    comes-out x is long many room ee r kept moved =
        let z : List ℕ = replicate (n - used) 0 in
        let l : length (p ++ (x ++ q)) ≡ used = omega (arith, length-append p (x ++ q), length-append x q) in
        let c : Cut at (width + length q) (get_or xs k []) p (x ++ q) z = record {
          is = is ∙ rw l (simp append_assoc);
          starts = starts;
          long = omega (arith, length-append x q);
        } in
        let m : n - length (p ++ q) ≡ width + (n - used) = omega (arith, length-append p q) in
        let f : p ++ (drop_first width (x ++ q) ++ z) ≡ pad n (p ++ q) =
        rw (drop-over width x q long, m, ← replicate-append-replicate {A = ℕ} width (n - used) 0) (simp append_assoc) in
        subst (λ (y : List ℕ). Run ns (set xs k y) (take b t ++ (r ++ drop (e - b) (drop b t)))) f
        (lent-in u k h c b e eb (omega arith) (drop_first width) r kept moved)

-- one word stored
pub stored-pad : (n : ℕ) (p : List ℕ) (x : ℕ) (q : List ℕ) (v at : ℕ) → length p ≡ at → set (pad n (p ++ x ∷ q)) at v ≡ pad n (p ++ v ∷ q)
stored-pad n p x q v at h = rw (around x, around v) (set_at p x _ v at h)
  where
    around : (y : ℕ) → pad n (p ++ y ∷ q) ≡ p ++ y ∷ (q ++ replicate (n - (length p + suc (length q))) 0)
    around y = rw (length-append p (y ∷ q)) (append_assoc p (y ∷ q) _)
