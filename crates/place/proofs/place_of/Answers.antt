-- `place::place_of` meets its contract: the contents words of a sound table are those of its s_groups.
-- Assumes nothing.
use mathlib.Core.Path.{ap, ◌∙◌}
use Rattle.place.specs.Place.{place_in}
use Rattle.place.specs.Seats.{place-laid}
use Rattle.sound_table.specs.Here.{regular, base}
use Rattle.place.proofs.place_of.Goals as goal

pub returns : goal.returns
returns c =
    let t = c.args.t.words.now in
    c.place_in.ensures ∙ ap (place_in 0 c.args.s) c.contents.ensures ∙ place-laid (base t c.args.t.fit) (regular t c.args.t.fit) c.args.s
