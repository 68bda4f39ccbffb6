-- What is found of the s_group of a name and its names, from the place of the s_group. Assumes nothing.
use Rattle.std.specs.Prelude.{◌≡◌, refl, true, Ok, Err, List, ℕ, ◌<◌}
use Rattle.std.proofs.Common.{sym, ap, ◌∙◌, arith, ne_eqb}
use Rattle.std.proofs.Math.Option.{Option, none, some}
use Rattle.nodes.specs.Sets.{inter, diff}
use Rattle.entries.specs.Entries.{lookup, rank}
use Rattle.entries.specs.Raw.{Found, answer_at}
use Rattle.semantics.specs.Sizes.{group_limit, names_per_group}
use Rattle.semantics.specs.State.{Group, State, find}
use Rattle.semantics.specs.Test.{sound}
use Rattle.semantics.specs.Places.{group_at}
use Rattle.place.specs.Seats.{Seat, seat-group}
use Rattle.place.specs.Place.{Place, place_of}
use Rattle.place.specs.Sound.{here, groups_few, seat-below, sought-here}
use Rattle.names.specs.NamesAt.{names_at}
use Rattle.names.specs.NamesHere.{names_of}
use Rattle.indexes.specs.Updates.{pid_in, leaving, everywhere}
use Rattle.indexing.specs.PidFound.{found_pid}

-- a lookup as an answer tells the pid
told : (i : ℕ) (o : Option ℕ) → found_pid (answer_at i o) ≡ o
told i none = refl
told i (some p) = refl

-- what a search in the s_group at a place finds
pub found-there : (st : State) {s k : ℕ} (n : ℕ) {f : Found} → Seat s k st.groups → f ≡ answer_at (rank n (names_at k st)) (lookup n (names_at k st))
    → found_pid f ≡ pid_in n (find s st.groups)
found-there st n w e = ap found_pid e ∙ told _ _ ∙ ap (lookup n) (names_of st w) ∙ sym (ap (pid_in n) w.finds)

module _ {s k : ℕ} (gs : List Group) (set : ℕ) (w : Seat s k gs) where
  -- the members at that place are those of the s_group
  members : (group_at gs k).members ≡ w.group.members
  members = ap (λ (g : Group). g.members) (seat-group w)

  -- where no member is left, all names leave
  pub leaving-all : diff (group_at gs k).members set ≡ 0 → everywhere ≡ leaving set (find s gs)
  leaving-all e = rw (w.finds, ← members, e) refl

  -- else those of the members that leave
  pub leaving-some : (diff (group_at gs k).members set ≡ 0 → ⊥) → inter (group_at gs k).members set ≡ leaving set (find s gs)
  leaving-some e = rw (w.finds, ← members, ne_eqb (diff (group_at gs k).members set) 0 e) refl

-- an s_group that is found stands below their limit
pub found_below : (t : List ℕ) (ok : sound names_per_group t ≡ true) {s k : ℕ} → Seat s k (here t).groups → k < group_limit
found_below t ok w = omega (arith, groups_few t ok, seat-below t ok w)

-- where no place is found there is no s_group of the name
pub no-seat : (t : List ℕ) → sound names_per_group t ≡ true → (s : ℕ) (p : Place) → p ≡ place_of s (here t).groups → ((k : ℕ) → p ≡ Ok k → ⊥) → find s (here t).groups ≡ none
no-seat t ok s (Ok k) e h = absurd (h k refl)
no-seat t ok s (Err k) e h = (sought-here t ok s (Err k) (Err k) e refl).finds
