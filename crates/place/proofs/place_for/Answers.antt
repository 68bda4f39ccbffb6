-- `place::place_for` meets its contract: the s_group that is found has its members in the word at its place.
-- Assumes nothing.
use Rattle.std.proofs.Common.{◌≡◌, sym, ap, ◌∙◌, Bool, true, false, cond, ℕ, List, get_or, take, drop, arith}
use Rattle.std.specs.Prelude.{Ok, Err, MatchResult}
use Rattle.nodes.specs.Sets.{has}
use Rattle.answers.specs.declared.Reason.TheVariants.{NotMember}
use Rattle.semantics.specs.Sizes.{names_per_group, members_at}
use Rattle.semantics.specs.Soundness.{count_of}
use Rattle.semantics.specs.Test.{sound}
use Rattle.place.specs.Place.{Place, Access, place_of, place_for, open_at}
use Rattle.place.specs.Seats.{Seat}
use Rattle.place.specs.Sound.{here, groups_few, sought-here, seat-below, lent-below, lent-members}
use Rattle.place.proofs.place_for.Goals as goal

-- a place that is kept where its error is turned into a reason
abbrev Kept : ℕ → Place → Type 0
Kept k p = MatchResult p (λ x. ◌≡◌ {A = Access} (Ok k) (Ok x)) (λ e. ⊥)

-- is one where the s_group stands
stood : (k : ℕ) (p : Place) → Kept k p → p ≡ Ok k
stood k (Ok x) m = let same : x ≡ k = cc in rw same
stood k (Err x) m = absurd m

module _ (t : List ℕ) (ok : sound names_per_group t ≡ true) (s k : ℕ) (p : Place) (is : p ≡ place_of s (here t).groups) (kept : Kept k p) where
  seat : Seat s k (here t).groups
  seat = sought-here t ok s p (Ok k) is (stood k p kept)

  -- what the node has of the s_group there
  judged : (ms : List ℕ) → ms ≡ take (count_of t) (drop members_at t) → (node : ℕ) (b : Bool) → has (get_or ms k 0) node ≡ b → place_for node s (here t).groups ≡ cond b (Ok k) (Err NotMember)
  judged ms lent node b e = ap (open_at node (here t).groups) (sym is ∙ stood k p kept) ∙ rw (← (lent-members t ok seat lent), e)

pub bounds-members-at : goal.bounds-members-at
bounds-members-at c = lent-below c.args.t.words.now c.args.t.fit (seat c.args.t.words.now c.args.t.fit c.args.s c.in_ok-at.at c.place_of.result c.place_of.ensures c.in_ok-at.ensures.cases) c.members.ensures

pub offset_bounds-members-at : goal.offset_bounds-members-at
offset_bounds-members-at c = omega (arith, groups_few c.args.t.words.now c.args.t.fit, seat-below c.args.t.words.now c.args.t.fit (seat c.args.t.words.now c.args.t.fit c.args.s c.in_ok-at.at c.place_of.result c.place_of.ensures c.in_ok-at.ensures.cases))

pub returns-then-has : goal.returns-then-has
returns-then-has c =
    sym (judged c.args.t.words.now c.args.t.fit c.args.s c.in_ok-at.at c.place_of.result c.place_of.ensures c.in_ok-at.ensures.cases c.members.result.now c.members.ensures
    c.args.node true (sym c.has.ensures ∙ c.if-has.true))

pub returns : goal.returns
returns c =
    sym (judged c.args.t.words.now c.args.t.fit c.args.s c.in_ok-at.at c.place_of.result c.place_of.ensures c.in_ok-at.ensures.cases c.members.result.now c.members.ensures
    c.args.node false (sym c.has.ensures ∙ c.if-has.false))
