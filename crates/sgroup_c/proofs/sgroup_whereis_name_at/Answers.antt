-- `sgroup_c::sgroup_whereis_name_at` meets its contract: its number and arguments are the command.
-- Assumes nothing.
use mathlib.Core.Path.{refl}
use Rattle.forms.specs.Forms.{forms, form_from, form_of, command_of}
use Rattle.sgroup_c.proofs.sgroup_whereis_name_at.Goals as goal

pub returns : goal.returns
unfolding command_of form_of form_from forms
returns c = let both = c.commanded.ensures _ refl in record { value = both.0; answer_after = both.1.0; table_after = both.1.1 }
