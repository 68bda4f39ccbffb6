-- The words of a part, the nodes that are in an s_group, and what one test of contents and members says of both. Assumes nothing.
use Rattle.std.specs.Prelude.{◌≡◌, refl, Bool, true, not, ◌&&◌, List, ℕ, ◌+◌, ◌-◌, ◌≤◌, ◌<◌, leb, ltb, length, get_or, take, drop}
use Rattle.std.proofs.Common.{sym, ap, ◌∙◌, arith, length-drop, get_or-take, get_or-drop, length-take-le}
use Rattle.std.specs.Bool.{then_some}
use Rattle.nodes.specs.Sets.{has, empty, beyond, union, union_all, word_at}
use Rattle.nodes.specs.Bools.{test-ext}
use Rattle.nodes.proofs.SetLaws.{union_all-in, union_all_out, union_all-take}
use Rattle.semantics.specs.Sizes.{group_limit, members_at, links_at, bodies_at}
use Rattle.semantics.specs.Soundness.{name_of, names_of, members_of}
use Rattle.free_test.specs.WireTests.{all_below}
use Rattle.free_test.specs.Below.{below_step, tests, within-iff}
use Rattle.groups_test.specs.GroupTests.{name_before, contents_right, members_right, part, members_part, grouped_in, grouped_of}

-- ---- the words of a part

module _ (t : List ℕ) (a b : ℕ) where
  -- it is as long as it is said to be, within the run
  pub length_part : b ≤ length t → length (part t a b) ≡ b - a
  length_part h = length-take-le (b - a) (drop a t) (simp length-drop (omega arith))

  -- its words are the run's
  pub part-word : (i : ℕ) → i < b - a → get_or (part t a b) i 0 ≡ word_at t (a + i)
  part-word i h = get_or-take (b - a) (drop a t) i 0 h ∙ get_or-drop a t i 0

-- ---- the nodes in an s_group

-- before the first s_group there is none
pub grouped-none : (t : List ℕ) → grouped_in t 0 ≡ 0
unfolding union_all
grouped-none t = refl

module _ (t : List ℕ) (long : bodies_at ≤ length t) where
  -- there is room for the members of all s_groups
  members-count : length (members_part t) ≡ group_limit
  members-count = length_part t members_at links_at (omega arith)

  -- one s_group more
  pub grouped-step : (i : ℕ) → i < group_limit → union (grouped_in t i) (members_of t i) ≡ grouped_in t (i + 1)
  grouped-step i l =
      ap (union (grouped_in t i)) (sym (part-word t members_at links_at i l))
      ∙ union_all-take (members_part t) i (omega (arith, members-count))

  module _ (G : ℕ) (few : G ≤ group_limit) where
    -- the words of the first G are their members
    member-word : (g : ℕ) → g < G → word_at (take G (members_part t)) g ≡ members_of t g
    member-word g l = get_or-take G (members_part t) g 0 l ∙ part-word t members_at links_at g (omega arith)

    -- a member is in an s_group
    pub grouped-has : (g i : ℕ) → g < G → has (members_of t g) i ≡ true → has (grouped_in t G) i ≡ true
    grouped-has g i l m = union_all-in (take G (members_part t)) g i (ap (λ (w : ℕ). has w i) (member-word g l) ∙ m)

    -- a node in an s_group is a member of one
    pub grouped_by : (i : ℕ) → has (grouped_in t G) i ≡ true → (g : ℕ) × (g < G) × (has (members_of t g) i ≡ true)
    grouped_by i m =
        let u = union_all_out (take G (members_part t)) i m in
        let l : u.0 < G = omega (arith, u.1, length-take-le G (members_part t) (omega (arith, members-count))) in
        (u.0, l, ap (λ (w : ℕ). has w i) (sym (member-word u.0 l)) ∙ u.2)

-- ---- contents and members in one test

-- group g's name is above the one before it, and it has at most cap names and a member
abbrev pub group_right : ℕ → List ℕ → ℕ → Bool
group_right cap t g = ltb (name_before t g) (name_of t g) && (leb (names_of t g) cap && not (empty (members_of t g)))

-- one s_group more
pub right-step : (cap : ℕ) (t : List ℕ) (i : ℕ) (right : Bool) → right ≡ all_below i (group_right cap t) → (last : ℕ) → last ≡ name_before t i
    → right && (ltb last (name_of t i) && (leb (names_of t i) cap && not (empty (members_of t i)))) ≡ all_below (i + 1) (group_right cap t)
right-step cap t i right er last el = rw (er, el, below_step)

-- where this holds of each and no node in an s_group is past the first n, contents and members are right
pub grouped-right : (cap : ℕ) (t : List ℕ) (G n : ℕ) → bodies_at ≤ length t → G ≤ group_limit
    → all_below G (group_right cap t) && not (beyond (grouped_in t G) n) ≡ all_below G (contents_right cap t) && all_below G (members_right t n)
grouped-right cap t G n long few =
    test-ext _ _
    (λ e.
    let h = simp (within-iff, tests) at e in
    simp (within-iff, tests) (λ g l. ((h.0 g l).0, (h.0 g l).1.0), λ g l. ((h.0 g l).1.1, λ i m. h.1 i (grouped-has t long G few g i l m))))
    (λ e.
    let h = simp (within-iff, tests) at e in
    simp (within-iff, tests) (
      λ g l. ((h.0 g l).0, ((h.0 g l).1, (h.1 g l).0)),
      λ i m.
          let u = grouped_by t long G few i m in
          (h.1 u.0 u.1).1 i u.2,
    ))

-- so that this test tells what contents and members come to
pub grouped-told : (cap : ℕ) (t : List ℕ) (G n : ℕ) → bodies_at ≤ length t → G ≤ group_limit
    → (right : Bool) → right ≡ all_below G (group_right cap t) → (all : ℕ) → all ≡ grouped_in t G → (past : Bool) → past ≡ beyond all n
    → then_some (right && not past) all ≡ grouped_of cap t G n
grouped-told cap t G n long few right er all ea past ep = rw (er, ep, ea, grouped-right cap t G n long few)
