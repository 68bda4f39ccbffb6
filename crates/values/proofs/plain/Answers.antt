-- `values::plain` meets its contract: by cases of the token.
-- Assumes nothing.
use Rattle.std.proofs.Common.{Ok, sym, ap, ◌∙◌, arith}
use Rattle.values.specs.Skipping.{skip_of}
use Rattle.values.specs.Items.{plain-behind, plain-stops}
use Rattle.values.proofs.plain.Goals as goal

pub stop-requires : goal.stop-requires
stop-requires c =
    plain-stops _ (omega (arith, c.well_formed.0.1)) _ c.requires _ (ap skip_of (sym c.token_at.ensures ∙ c.in-Err.is))

pub returns-in-Ok-Atom : goal.returns-in-Ok-Atom
returns-in-Ok-Atom c =
    plain-behind _ (omega (arith, c.well_formed.0.1)) _ c.requires _ (ap skip_of (sym c.token_at.ensures ∙ c.in-Ok-Atom.is ∙ ap Ok c.in-Ok-Atom.field-0-is))

pub returns-in-Ok-Number : goal.returns-in-Ok-Number
returns-in-Ok-Number c =
    plain-behind _ (omega (arith, c.well_formed.0.1)) _ c.requires _ (ap skip_of (sym c.token_at.ensures ∙ c.in-Ok-Number.is ∙ ap Ok c.in-Ok-Number.field-0-is))
