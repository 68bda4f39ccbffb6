-- The sample script of document 01 and one that finds a stranger (02, request 3), byte by byte: what their lines print, shown by computation. Assumes
-- nothing.
use Rattle.std.specs.Prelude.{◌≡◌, refl, List, ℕ, replicate}
use Rattle.semantics.specs.Sizes.{names_per_group, table_words}
use Rattle.semantics.specs.Compute.{computing}
use Rattle.text.specs.Text.{bytes, fields}
use Rattle.text.specs.Numbers.{all_digits, plain, value, is_numeral, numeral}
use Rattle.forms.specs.Forms.{forms, number_from, number_of, form_from, form_of, command_of, takes_set}
use Rattle.line.specs.Requests.{number_in, open_line, command_by, numbered_line, command_line, request_in, request_of}
use Rattle.print.specs.Printed.{decimal_in, decimal, spaced, answer_line}
use Rattle.turns.specs.Turns.{request_turn}
use Rattle.script.specs.Scripts.{lines_of, lines_from, line_turn, printed}

-- one name for all that a script computes with
unfoldable printing : Unit {0}
unfolding computing fields all_digits plain value is_numeral numeral forms number_from number_of form_from form_of command_of takes_set number_in open_line command_by numbered_line command_line request_in request_of decimal_in decimal spaced answer_line lines_of lines_from request_turn line_turn printed
printing = tt

-- what a script prints, from a table of all zero words
abbrev pub printed_by : List ℕ → List ℕ
printed_by script = printed (replicate (table_words names_per_group) 0) (lines_from script 0)

-- the sample of 01
pub sample-printed : printed_by (bytes "open 4 8\n0 new_s_group 5 3\n0 register_name 5 70 67108865\n1 whereis_name 5 70\n2 whereis_name 5 70\n1 whereis_name 5 71\n0 own_nodes\n")
    ≡ bytes "ok 0\ngroup 5 3 0\ntrue 0\npid 67108865 0\nundefined 9\nundefined 12\nnodes 3 2 0\n"
unfolding printing
sample-printed = refl

-- a pid on node 2, which is outside s_group 5, and then in it
pub stranger-printed : printed_by (bytes "open 4 8\n0 new_s_group 5 3\n0 register_name 5 70 134217729\n1 whereis_name 5 70\n2 send 1 5 70\n0 send 134217729\n0 add_nodes 5 4\n1 send 5 70\n")
    ≡ bytes "ok 0\ngroup 5 3 0\ntrue 0\npid 134217729 21\npid 134217729 21\npid 134217729 0\ngroup 5 4 0\npid 134217729 0\n"
unfolding printing
stranger-printed = refl
