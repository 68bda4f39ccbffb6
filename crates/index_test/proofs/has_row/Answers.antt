-- `index_test::has_row` meets its contract: what a slot says of a place is taken only if the s_group there has the name. Assumes nothing.
use Rattle.std.specs.Prelude.{◌≡◌, true, List, ℕ, ◌%◌, Ok, Err}
use Rattle.std.proofs.Common.{sym, ◌∙◌, arith}
use Rattle.entries.specs.Entries.{half_word}
use Rattle.semantics.specs.Sizes.{names_per_group}
use Rattle.semantics.specs.Test.{sound}
use Rattle.place.specs.Place.{Place, place_of}
use Rattle.place.specs.Seats.{Seat}
use Rattle.sound_table.specs.Here.{here}
use Rattle.place.specs.Sound.{sought-here, seat-below}
use Rattle.index_test.specs.Held.{seat-name, not-held}
use Rattle.index_test.proofs.has_row.Goals as goal

module _ (t : List ℕ) (ok : sound names_per_group t ≡ true) (s : ℕ) (p : Place) (is : p ≡ place_of s (here t).groups) where
  -- the s_group that is found
  seat : (k : ℕ) → p ≡ Ok k → Seat s k (here t).groups
  seat k e = sought-here t ok s p (Ok k) is e

pub has_name-requires-in-Ok : goal.has_name-requires-in-Ok
has_name-requires-in-Ok c =
    let t = c.args.t.words.now in
    let ok = c.args.t.fit in
    let s = c.group_of-s.result in
    let found = seat t ok s c.place_of.result c.place_of.ensures c.in-Ok.at c.in-Ok.is in
    record { at_bound = seat-below t ok found; half_word_value = sym c.group_of-s.ensures ∙ seat-name t ok s c.in-Ok.at found; name_nonzero = omega arith }

pub returns-in-Err : goal.returns-in-Err
returns-in-Err c =
    let t = c.args.t.words.now in
    let ok = c.args.t.fit in
    let room = sought-here t ok (c.args.key % half_word) _ (Err c.in-Err.field-0) (rw c.group_of-s.ensures at c.place_of.ensures) c.in-Err.is in
    not-held t ok (record { key = c.args.key; name = c.args.name }) c.in-Err.field-0 room
