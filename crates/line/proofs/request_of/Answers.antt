-- `line::request_of` meets its contract: a line that is not `open` is a command.
-- Assumes nothing.
use mathlib.Core.Path.{◌≡◌}
use mathlib.Core.Bool.{false}
use borrow.Author.Tests.{le-leb}
use Rattle.semantics.specs.Test.{same}
use Rattle.text.specs.Text.{bytes, fields, field}
use Rattle.forms.specs.Words.{unnamed}
use Rattle.line.specs.Requests.{request_in, request_of}
use Rattle.line.proofs.request_of.Goals as goal

pub returns : goal.returns
unfolding request_of request_in
returns c =
    let h : same (field 0 (fields c.args.s.now)) (bytes "open") ≡ false = rw (← c.field.ensures) (unnamed _ (bytes "open") _ _ c.as_slice.ensures c.eq.ensures c.if-eq.false) in
    rw (le-leb _ _ c.if-s-gt-LINE_LIMIT.false, h) c.commanded.ensures
