-- What the parts of the test say of the whole. Assumes nothing.
use Rattle.std.specs.Prelude.{◌≡◌, ◌≢◌, true, false, List, ℕ, ◌≤◌, min, length}
use Rattle.std.proofs.Common.{sym, ap, ◌∙◌, true≢false, arith}
use Rattle.std.proofs.Math.Bool.{and-eq-true_iff}
use Rattle.nodes.specs.Sets.{node_limit, roster, diff, word_at}
use Rattle.nodes.specs.Bools.{test-ext}
use Rattle.semantics.specs.Sizes.{group_limit, table_words}
use Rattle.semantics.specs.Soundness.{size_of, hidden_of, count_of}
use Rattle.semantics.specs.Test.{sound}
use Rattle.semantics.proofs.Agree.{sound-iff}
use Rattle.semantics.specs.Truth.{unless}
use Rattle.free_test.specs.WireTests.{free_sound}
use Rattle.free_test.specs.Below.{tests}
use Rattle.groups_test.specs.GroupTests.{links_part, free_part, head_right, grouped_in, loose_in, parts_right}
use Rattle.table.specs.TestMeaning.{loose_of, Right, right-sound, sound-right}

-- what a right head says of the sizes
pub record Small (t : List ℕ) : Type 0 where
  pub size : size_of t ≤ node_limit
  pub count : count_of t ≤ group_limit

pub small : (t : List ℕ) → head_right (size_of t) (hidden_of t) (count_of t) (word_at t 3) ≡ true → Small t
small t e = let h = simp tests at e in record { size = h.1.0; count = h.1.1.0 }

-- ---- all parts

-- a run of another length is no sound table
pub wrong_length : (cap : ℕ) (t : List ℕ) → length t ≢ table_words cap → false ≡ sound cap t
wrong_length cap t n = sym (unless _ (λ e. n ((sound-iff cap t).0 e).long))

module _ (cap : ℕ) (t : List ℕ) (long : length t ≡ table_words cap) where
  -- nor is one whose head is not right
  pub wrong-head : head_right (size_of t) (hidden_of t) (count_of t) (word_at t 3) ≡ false → false ≡ sound cap t
  wrong-head e = sym (unless _ (λ h. true≢false (sym (sound-right cap t long ((sound-iff cap t).0 h)).head ∙ e)))

  module _ (head : head_right (size_of t) (hidden_of t) (count_of t) (word_at t 3) ≡ true) where
    loose_same : loose_in t (grouped_in t (count_of t)) (size_of t) ≡ loose_of t
    loose_same =
        let e : min (size_of t) node_limit ≡ size_of t = omega (arith, (small t head).size) in
        ap (λ (n : ℕ). diff (diff (roster n) (hidden_of t)) (grouped_in t (count_of t))) e

    parts_all : parts_right cap t (count_of t) (size_of t) ≡ true → Right cap t
    parts_all e =
        let h = simp and-eq-true_iff at e in
        let rest = h.1 in
        record {
          head = head;
          contents = h.0.0;
          members = h.0.1;
          unused = simp and-eq-true_iff rest.1.1.1.0;
          links = rest.0;
          met = rest.1.0;
          free = ap (λ (l : ℕ). free_sound (links_part t) (free_part t) l (size_of t)) (sym loose_same) ∙ rest.1.1.0;
          names = rest.1.1.1.1;
        }

    all-parts : Right cap t → parts_right cap t (count_of t) (size_of t) ≡ true
    all-parts r =
        let free = ap (λ (l : ℕ). free_sound (links_part t) (free_part t) l (size_of t)) loose_same ∙ r.free in
        simp and-eq-true_iff ((r.contents, r.members), (r.links, (r.met, (free, (simp and-eq-true_iff at r.unused, r.names)))))

    -- where the head is right, the rest decides
    pub decides : parts_right cap t (count_of t) (size_of t) ≡ sound cap t
    decides =
        test-ext _ (sound cap t) (λ e. (sound-iff cap t).1 (right-sound cap t long (parts_all e)))
        (λ h. all-parts (sound-right cap t long ((sound-iff cap t).0 h)))
