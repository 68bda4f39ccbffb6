-- `launch::make` meets its contract: the opened table is sound, and the s_groups are made on it.
-- Assumes nothing.
use mathlib.Core.Path.{ap, ◌∙◌}
use Rattle.semantics.specs.Sizes.{names_per_group}
use Rattle.semantics.specs.Test.{sound}
use Rattle.semantics.proofs.Agree.{test-regular}
use Rattle.pairs.specs.Plans.{one-each, paired-again}
use Rattle.creating.specs.Creating.{created}
use Rattle.launch.proofs.LaunchLaws.{opened-sound}
use Rattle.launch.proofs.make.Goals as goal

pub create-requires : goal.create-requires
create-requires c =
    let ok = ap (sound names_per_group) c.open.ensures.t_after ∙ opened-sound _ _ _ c.requires.opens in
    record { t_len = (test-regular names_per_group _ ok).2; t_value = ok; numbers_len = rw (c.numbers.ensures, c.sets.ensures) (one-each _) }

pub returns : goal.returns
returns c = (rw (c.numbers.ensures, c.sets.ensures, paired-again _) at c.create.ensures) ∙ ap (created _) c.open.ensures.t_after
