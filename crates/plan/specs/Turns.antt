-- The groups are taken one after another: what is known between two of them, and what each turn makes of it. Assumes nothing.
use Rattle.std.specs.Prelude.{◌≡◌, Result, Ok, Err, Bool, ◌&&◌, set}
use Rattle.std.proofs.Math.Path.{refl, sym, ap}
use Rattle.std.proofs.Common.{◌∙◌, take_at, take-suc-set}
use Rattle.std.proofs.Math.Bool.{true, false, and-false}
use mathlib.Core.List.{List, [], ◌∷◌, ◌++◌, append_assoc, append-nil}
use Prim.Native.Nat.{ℕ, suc, ◌+◌, ◌*◌, ◌≤◌, ◌<◌}
use native.Mathlib.Omega.{arith}
use borrow.Author.Tests.{lt-ltb, le-ltb}
use Rattle.std.proofs.Math.ListN.{length, take, length-append, length-set}
use Rattle.semantics.specs.Sizes.{group_limit}
use Rattle.grammar.specs.File.{Group}
use Rattle.duplicates.specs.Duplicates.{made, kept_of, kept}
use Rattle.plan.specs.Plan.{number_of, set_of, listed, all_listed, plan_words, fitting}
use Rattle.plan.specs.Looked.{put}
use Rattle.plan.specs.declared.Misfit.{Misfit}
use Rattle.plan.specs.declared.Misfit.TheVariants.{Unknown, TooMany}

-- ---- lists in two parts

pub all_listed-append : (N : ℕ) (book : List ℕ) (ks gs : List Group) → all_listed N book (ks ++ gs) ≡ all_listed N book ks && all_listed N book gs
unfolding all_listed
all_listed-append N book [] gs = refl
all_listed-append N book (k ∷ ks) gs = rw (all_listed-append N book ks gs) (regroup (listed N book k) (all_listed N book ks) (all_listed N book gs))
  where
    regroup : (a b c : Bool) → (a && (b && c)) ≡ ((a && b) && c)
    regroup true b c = refl
    regroup false b c = refl

pub plan_words-append : (N : ℕ) (book : List ℕ) (ks gs : List Group) → plan_words N book (ks ++ gs) ≡ plan_words N book ks ++ plan_words N book gs
unfolding plan_words
plan_words-append N book [] gs = refl
plan_words-append N book (k ∷ ks) gs = ap (λ l. number_of N book k ∷ set_of N book k ∷ l) (plan_words-append N book ks gs)

-- ---- the words of one more group

module _ (words : List ℕ) (k number s : ℕ) where
  pub put-more : length words ≡ 2 * group_limit → k < group_limit → take (2 * (k + 1)) (put words k number s) ≡ take (2 * k) words ++ (number ∷ s ∷ [])
  unfolding put
  put-more room l =
      let e : 2 * (k + 1) ≡ suc (2 * k + 1) = omega arith in
      let f : 2 * k + 1 ≡ suc (2 * k) = omega arith in
      let w : 2 * k < length words = omega arith in
      let v : 2 * k + 1 < length (set words (2 * k) number) = simp length-set (omega arith) in
      let inner : take (2 * k + 1) (set words (2 * k) number) ≡ take (2 * k) words ++ (number ∷ []) = rw f (take-suc-set words (2 * k) number w) in
      rw (lt-ltb k group_limit l, e)
      (take-suc-set (set words (2 * k) number) (2 * k + 1) s v
      ∙ ap (λ l. l ++ (s ∷ [])) inner
      ∙ append_assoc (take (2 * k) words) (number ∷ []) (s ∷ []))

-- ---- between two groups

pub record Taken (N : ℕ) (book : List ℕ) (all rest : List Group) (count k : ℕ) (words : List ℕ) : Type 0 where
  pub passed : List Group
  pub done : List Group
  pub parts : all ≡ passed ++ rest
  pub counted : length passed ≡ count
  pub keeps : kept all ≡ done ++ kept_of all passed rest
  pub many : length done ≡ k
  pub known : all_listed N book done ≡ true
  pub written : k ≤ group_limit → take (2 * k) words ≡ plan_words N book done

module _ (N : ℕ) (book : List ℕ) (all : List Group) where
  -- before the first
  pub taken_none : (words : List ℕ) → Taken N book all all 0 0 words
  unfolding all_listed plan_words
  taken_none words = record { passed = []; done = []; parts = refl; counted = refl; keeps = refl; many = refl; known = refl; written = λ l. refl }

  module _ (rest : List Group) (count k : ℕ) (words : List ℕ) (T : Taken N book all rest count k words) where
    -- those that are passed are the first so many
    firsts : take count all ≡ T.passed
    firsts = rw T.parts (take_at T.passed rest count T.counted)

    module _ (g : Group) (gs : List Group) (is : rest ≡ g ∷ gs) where
      split : all ≡ T.passed ++ (g ∷ gs)
      split = T.parts ∙ ap (λ l. T.passed ++ l) is

      onward : all ≡ (T.passed ++ (g ∷ [])) ++ gs
      onward = split ∙ sym (append_assoc T.passed (g ∷ []) gs)

      more : length (T.passed ++ (g ∷ [])) ≡ count + 1
      more = length-append T.passed (g ∷ []) ∙ omega (arith, T.counted)

      module _ (b : Bool) (m : b ≡ made all (take count all) g.name g.nodes) where
        here : made all T.passed g.name g.nodes ≡ b
        here = sym (m ∙ ap (λ l. made all l g.name g.nodes) firsts)

        -- it is not made
        pub taken-left : b ≡ false → Taken N book all gs (count + 1) k words
        taken-left h = record {
          passed = T.passed ++ (g ∷ []);
          done = T.done;
          parts = onward;
          counted = more;
          keeps = T.keeps ∙ ap (λ l. T.done ++ l) (rw (is, here, h));
          many = T.many;
          known = T.known;
          written = T.written;
        }

        keeps-it : b ≡ true → kept all ≡ T.done ++ (g ∷ kept_of all (T.passed ++ (g ∷ [])) gs)
        keeps-it h = T.keeps ∙ ap (λ l. T.done ++ l) (rw (is, here, h))

        -- it is made, and is not in the book
        pub taken-unknown : b ≡ true → listed N book g ≡ false → fitting N book (kept all) ≡ Err Unknown
        unfolding fitting all_listed
        taken-unknown h n = rw (unlisted)
          where
            unlisted : all_listed N book (kept all) ≡ false
            unlisted =
                ap (all_listed N book) (keeps-it h)
                ∙ all_listed-append N book T.done (g ∷ kept_of all (T.passed ++ (g ∷ [])) gs)
                ∙ rw n (and-false (all_listed N book T.done))

        -- it is made, and is in the book
        pub taken_made : b ≡ true → listed N book g ≡ true → (number s : ℕ) → number ≡ number_of N book g → s ≡ set_of N book g → (ws : List ℕ)
            → (k < group_limit → length words ≡ 2 * group_limit) → ws ≡ put words k number s → Taken N book all gs (count + 1) (k + 1) ws
        unfolding all_listed plan_words
        taken_made h n number s p q ws room e = record {
          passed = T.passed ++ (g ∷ []);
          done = T.done ++ (g ∷ []);
          parts = onward;
          counted = more;
          keeps = keeps-it h ∙ sym (append_assoc T.done (g ∷ []) (kept_of all (T.passed ++ (g ∷ [])) gs));
          many = length-append T.done (g ∷ []) ∙ omega (arith, T.many);
          known = all_listed-append N book T.done (g ∷ []) ∙ rw (T.known, n);
          written = λ l. ap (take (2 * (k + 1))) e ∙ put-more words k number s (room (omega arith)) (omega arith) ∙ written-more (omega arith);
        }
          where
            written-more : k ≤ group_limit → take (2 * k) words ++ (number ∷ s ∷ []) ≡ plan_words N book (T.done ++ (g ∷ []))
            written-more l = rw (T.written l, p, q) (sym (plan_words-append N book T.done (g ∷ [])))

    -- none is left
    pub taken_all : rest ≡ [] → (kept all ≡ T.done) × (length (kept all) ≡ k) × (all_listed N book (kept all) ≡ true)
    taken_all is =
        let e : kept all ≡ T.done = T.keeps ∙ ap (λ l. T.done ++ l) (rw is) ∙ append-nil T.done in
        (e, ap length e ∙ T.many, ap (all_listed N book) e ∙ T.known)

-- ---- at the end

module _ (N : ℕ) (book : List ℕ) (all : List Group) (count k : ℕ) (words : List ℕ) (rest : List Group) (T : Taken N book all rest count k words) (is : rest ≡ []) where
  pub taken-too-many : group_limit < k → fitting N book (kept all) ≡ Err TooMany
  unfolding fitting
  taken-too-many l = let (e, m, h) = taken_all N book all rest count k words T is in rw (h, m, lt-ltb group_limit k l)

  pub taken-fits : k ≤ group_limit → fitting N book (kept all) ≡ Ok k
  unfolding fitting
  taken-fits l = let (e, m, h) = taken_all N book all rest count k words T is in rw (h, m, le-ltb group_limit k l)

  pub taken-words : k ≤ group_limit → (i : ℕ) → ◌≡◌ {A = Result ℕ Misfit} (Ok k) (Ok i) → take (2 * i) words ≡ plan_words N book (kept all)
  taken-words l i f =
      let j : i ≡ k = cc in
      let (e, m, h) = taken_all N book all rest count k words T is in
      rw (j, e) (T.written l)
