-- A script byte by byte, and what the program says of some pids after it, shown by computation. Assumes nothing.
use Rattle.std.specs.Prelude.{◌≡◌, refl, List, ℕ}
use Rattle.text.specs.Text.{bytes, fields}
use Rattle.text.specs.Numbers.{all_digits, plain, value, is_numeral, numeral}
use Rattle.semantics.specs.Compute.{computing}
use Rattle.forms.specs.Forms.{forms, number_from, number_of, form_from, form_of, command_of, takes_set}
use Rattle.line.specs.Requests.{number_in, open_line, command_by, numbered_line, command_line, request_in, request_of}
use Rattle.print.specs.Printed.{decimal_in, decimal, spaced, answer_line}
use Rattle.indexes.specs.Index.{rows, walk, put_in, sorted, flat, index_of, keep, named, names_of}
use Rattle.indexes.specs.IndexCalls.{read}
use Rattle.turns.specs.Turns.{request_turn}
use Rattle.script.specs.Scripts.{lines_of, lines_from, line_turn, left}
use Rattle.who_report.specs.Who.{name_line, name_lines, names_told, host_words, why, who_lines}
use Rattle.sgroup_who.specs.Report.{told, table_of, report}

-- one name for all that is computed with
unfoldable telling : Unit {0}
unfolding computing fields all_digits plain value is_numeral numeral forms number_from number_of form_from form_of command_of takes_set number_in open_line command_by numbered_line command_line request_in request_of decimal_in decimal spaced answer_line lines_of lines_from request_turn line_turn left rows walk put_in sorted flat index_of keep named names_of read name_line name_lines names_told host_words why who_lines told table_of
telling = tt

-- the script of examples/who.script: process 67108865, on node 1, goes by a name in each of two s_groups, and process 134217730 takes over a name of 134217729
abbrev sample : List ℕ
sample = bytes "open 3 0\n0 new_s_group 5 3\n1 new_s_group 6 6\n1 register_name 6 71 67108865\n1 register_name 5 70 67108865\n2 register_name 6 72 134217729\n2 re_register_name 6 72 134217730\n"

pub server-told : report 67108865 sample ≡ bytes "s_group 5 name 70\ns_group 6 name 71\n"
unfolding telling
server-told = refl

-- a process that has lost its name
pub nobody-told : report 134217729 sample ≡ bytes "no name\n"
unfolding telling
nobody-told = refl

-- one of node 3, where the roster is 0 to 2
pub astray-told : report 201326592 sample ≡ bytes "error 7\nthe pid's host, node 3, is not on the roster\n"
unfolding telling
astray-told = refl

-- a script whose one opening is refused
pub unopened-told : report 67108865 (bytes "open 65 0\n") ≡ bytes "error 3\nthe script opens no table\n"
unfolding telling
unopened-told = refl
