-- `script::refuse` meets its contract: nothing is left, there is no room, or all that is left is one line.
-- Assumes nothing.
use mathlib.Core.Path.{◌≡◌, sym, ap, ◌∙◌}
use mathlib.Core.List.{List}
use Prim.Native.Nat.{ℕ, ◌+◌, ◌≤◌, ◌<◌}
use native.Mathlib.Omega.{arith}
use borrow.Author.Tests.{lt-leb}
use lib.ListN.{length, drop, length-drop}
use Rattle.print.specs.Sheets.{sheet, put}
use Rattle.print.specs.Printed.{too_long}
use Rattle.script.specs.Scripts.{script_limit, line_room, Line, overlong, lines_from, size_of, line_turn, stop, runs}
use Rattle.script.specs.FirstLines.{line_at}
use Rattle.script.specs.Whole.{run-full, run-line, run-over}
use Rattle.script.proofs.refuse.Goals as goal

-- a script that is too long is one line
refused : (script : List ℕ) (i : ℕ) (t out : List ℕ) (len : ℕ) (made : List ℕ) → script_limit < length script → i < length script → line_room ≤ length out
    → sheet made len ≡ put (sheet out 0) too_long → stop (length script) t (sheet made len) ≡ runs (lines_from script i) i t (sheet out 0)
unfolding line_turn size_of line_at
refused script i t out len made h l m e =
    let a : line_at script i ≡ overlong (drop i script) = rw (lt-leb (length script) script_limit h) in
    let n : i + size_of (line_at script i) ≡ length script = ap (λ (x : Line). i + size_of x) a ∙ omega (arith, length-drop i script) in
    sym (run-line script i t out 0 l m ∙ rw (n, a, ← e) (run-over script (length script) t (sheet made len) (omega arith)))

pub returns-then-script-from : goal.returns-then-script-from
returns-then-script-from c = λ t. sym (run-over _ _ t _ c.if-script-from.true)

pub returns-then-out-lt-LINE_ROOM : goal.returns-then-out-lt-LINE_ROOM
returns-then-out-lt-LINE_ROOM c = λ t. sym (run-full _ _ t _ 0 c.if-script-from.false c.if-out-lt-LINE_ROOM.true)

pub returns : goal.returns
returns c = λ t. refused _ _ t _ _ _ c.requires c.if-script-from.false c.if-out-lt-LINE_ROOM.false c.put_bytes-len.ensures
