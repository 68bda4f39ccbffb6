-- One name for all that a call computes with: a proof by computation says `unfolding computing`. Assumes nothing.
use Rattle.std.specs.Int.Count.{ones, ones_in}
use Rattle.nodes.specs.Sets.{union, inter, diff, union_all}
use Rattle.entries.specs.Entries.{insert, remove, lookup, holds_pid, drop_hosted, words, entries}
use Rattle.entries.specs.NamespaceSound.{is_ascending, is_distinct, is_hosted, sound_entries}
use Rattle.semantics.specs.State.{find, put, add_group, drop_group}
use Rattle.semantics.specs.Steps.{interconnect, leave_free, one_free_group, connect, become_free, inside, outcome, apply, group_step, rule, step, opened}
use Rattle.semantics.specs.Table.{sections, layout, state_of}
use Rattle.semantics.specs.Test.{sound_group, sound_state, sound}
use Rattle.semantics.specs.Call.{call, opening}

unfoldable pub computing : Unit {0}
unfolding call opening sound sound_state sound_group sound_entries is_ascending is_distinct is_hosted layout sections state_of words entries insert remove lookup holds_pid drop_hosted find put add_group drop_group interconnect leave_free one_free_group connect become_free inside outcome apply group_step rule step opened union inter diff union_all ones ones_in
computing = tt
