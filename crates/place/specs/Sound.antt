-- A sound table: what the place of a name means in it. Assumes nothing.
use Rattle.std.specs.Prelude.{◌≡◌, true, List, ◌∷◌, ℕ, ◌+◌, ◌<◌, length, get_or, take, drop}
use Rattle.std.proofs.Common.{sym, ap, ◌∙◌, subst, arith, length-append}
use Rattle.semantics.specs.Sizes.{group_limit, names_per_group, members_at}
use Rattle.semantics.specs.Soundness.{count_of}
use Rattle.semantics.specs.Test.{sound}
use Rattle.semantics.specs.Places.{group_at, members_at-place}
use Rattle.semantics.specs.WordsOfState.{count-is, length-of, members-word}
use Rattle.sound_table.specs.Here.{one-each, word-of}
pub use Rattle.sound_table.specs.Here.{here, regular, base, groups_few, nodes-few}
use Rattle.place.specs.Place.{Place, Access, place_of, place_for}
use Rattle.place.specs.Seats.{Seat, Sought, Granted, sought, granted}

module _ (t : List ℕ) (ok : sound names_per_group t ≡ true) where
  -- what a place that was found says
  pub sought-here : (s : ℕ) (p q : Place) → p ≡ place_of s (here t).groups → p ≡ q → Sought s (here t).groups q
  sought-here s p q e d = subst (λ (x : Place). Sought s (here t).groups x) (sym e ∙ d) (sought s (here t).groups (regular t ok).rising)

  -- and a place for a node
  pub granted-here : (i s : ℕ) (a b : Access) → a ≡ place_for i s (here t).groups → a ≡ b → Granted i s (here t).groups b
  granted-here i s a b e d = subst (λ (x : Access). Granted i s (here t).groups x) (sym e ∙ d) (granted i s (here t).groups (regular t ok).rising)

  -- an s_group that is found stands below their number
  pub seat-below : {s k : ℕ} → Seat s k (here t).groups → k < count_of t
  seat-below r = omega (arith, count-is (base t ok), ap length r.is, length-append r.before (r.group ∷ r.after), r.stands)

  pub members-here : (k : ℕ) → k < group_limit → get_or t (members_at + k) 0 ≡ (group_at (here t).groups k).members
  members-here k h = members-word (base t ok) k h ∙ members_at-place (here t).groups k

  -- the members of an s_group that is found, among the words of the members of all
  module _ {s k : ℕ} (w : Seat s k (here t).groups) {ms : List ℕ} (lent : ms ≡ take (count_of t) (drop members_at t)) where
    pub lent-below : k < length ms
    lent-below = omega (arith, seat-below w, one-each t ok (length-of (base t ok)) members_at (omega arith) ms lent)

    pub lent-members : get_or ms k 0 ≡ (group_at (here t).groups k).members
    lent-members =
        word-of t ok (length-of (base t ok)) members_at (omega arith) ms lent k (seat-below w)
        ∙ members-here k (omega (arith, seat-below w, groups_few t ok))
