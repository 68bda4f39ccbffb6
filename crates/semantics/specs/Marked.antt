-- The thirteen marked steps of document 01, on whole tables: one claim, shown by computation. Assumes nothing.
use Rattle.std.specs.Prelude.{◌≡◌, refl, List, [], ◌∷◌, ◌++◌, ℕ, ◌-◌, length, replicate}
use Rattle.std.specs.Int.Count.{ones, ones_in}
use Rattle.nodes.specs.Sets.{node_limit, union, inter, diff, union_all}
use Rattle.entries.specs.Entries.{Entry, insert, remove, lookup, holds_pid, words, entries}
use Rattle.entries.specs.NamespaceSound.{is_ascending, is_distinct, is_hosted, sound_entries}
use Rattle.semantics.specs.Sizes.{names_per_group, table_words}
use Rattle.semantics.specs.State.{Group, find, put, add_group, drop_group}
use Rattle.commands.specs.declared.Command.{Command}
use Rattle.commands.specs.declared.Command.TheVariants.{RegisterName, ReRegisterName, UnregisterName, WhereisName, WhereisNameAt, NewSGroup, DeleteSGroup}
use Rattle.answers.specs.Answers.{answer_of}
use Rattle.semantics.specs.Steps.{interconnect, leave_free, one_free_group, connect, become_free, inside, outcome, apply, group_step, rule, step, opened}
use Rattle.semantics.specs.Table.{sections, layout, state_of}
use Rattle.semantics.specs.Test.{sound_group, sound_state, sound}
use Rattle.semantics.specs.Call.{Call, call, opening}
use Rattle.answers.specs.declared.Value.{Value}
use Rattle.answers.specs.declared.Value.TheVariants.{Ok, True, False, Error, Undefined, Pid, Grouped}
use Rattle.answers.specs.declared.Reason.{Reason}
use Rattle.answers.specs.declared.Reason.TheVariants.{Done, GroupUnknown, NotMember, NameTaken, PidTaken, NotRegistered, CallerOutside, GroupTaken}

-- a command and its caller
pub record Line : Type 0 where
  pub caller : ℕ
  pub command : Command

infix 70 ◌says◌
abbrev pub ◌says◌ : ℕ → Command → Line
i says c = record { caller = i; command = c }

-- the calls of the lines one by one, each on the table that the one before left, with a run of 64 words for a list
unfoldable pub calls : List ℕ → List Line → List Call
calls t [] = []
calls t (l ∷ ls) = let r : Call = call 64 l.caller l.command t in r ∷ calls r.table ls

-- M1 opens the table t; M2 to M13 follow
unfoldable pub session : ℕ → ℕ → List ℕ → List Line → List Call
session N hidden t ls = let r : Call = opening N hidden t in r ∷ calls r.table ls

-- M2 to M13
abbrev pub marked : List Line
marked =
    0 says NewSGroup 5 3
    ∷ 2 says NewSGroup 6 3
    ∷ 0 says NewSGroup 5 1
    ∷ 0 says RegisterName 5 70 67108865
    ∷ 0 says RegisterName 5 70 1
    ∷ 1 says RegisterName 5 71 67108865
    ∷ 1 says ReRegisterName 5 70 67108865
    ∷ 1 says UnregisterName 5 99
    ∷ 2 says WhereisName 5 70
    ∷ 2 says WhereisNameAt 0 5 70
    ∷ 2 says WhereisNameAt 3 9 70
    ∷ 1 says DeleteSGroup 5
    ∷ []

-- a table of four nodes of which node 3 is hidden: its s_groups, and the connections and free groups of the four
abbrev pub four : List Group → List ℕ → List ℕ → List ℕ
four gs ls fs =
    layout names_per_group (record {
      size = 4;
      hidden = 8;
      groups = gs;
      links = ls ++ replicate (node_limit - length ls) 0;
      free = fs ++ replicate (node_limit - length fs) 0;
    })

-- the s_group 5 of the nodes 0 and 1
abbrev pub five : List Entry → List Group
five es = record { name = 5; members = 3; names = es } ∷ []

-- the name 70 stands for the pid 67,108,865
abbrev pub seventy : List Entry
seventy = record { name = 70; pid = 67108865 } ∷ []

abbrev pub claim : Value → Reason → List ℕ → Call
claim v r t = record { answer = answer_of v r; list = []; table = t }

-- what 01 says of M1 to M13
unfoldable pub claimed : List Call
claimed =
    claim Ok Done (four [] (0 ∷ 0 ∷ 0 ∷ 0 ∷ []) (1 ∷ 2 ∷ 4 ∷ 0 ∷ []))
    ∷ claim (Grouped 5 3) Done (four (five []) (2 ∷ 1 ∷ 0 ∷ 0 ∷ []) (0 ∷ 0 ∷ 4 ∷ 0 ∷ []))
    ∷ claim Error CallerOutside (four (five []) (2 ∷ 1 ∷ 0 ∷ 0 ∷ []) (0 ∷ 0 ∷ 4 ∷ 0 ∷ []))
    ∷ claim Error GroupTaken (four (five []) (2 ∷ 1 ∷ 0 ∷ 0 ∷ []) (0 ∷ 0 ∷ 4 ∷ 0 ∷ []))
    ∷ claim True Done (four (five seventy) (2 ∷ 1 ∷ 0 ∷ 0 ∷ []) (0 ∷ 0 ∷ 4 ∷ 0 ∷ []))
    ∷ claim False NameTaken (four (five seventy) (2 ∷ 1 ∷ 0 ∷ 0 ∷ []) (0 ∷ 0 ∷ 4 ∷ 0 ∷ []))
    ∷ claim False PidTaken (four (five seventy) (2 ∷ 1 ∷ 0 ∷ 0 ∷ []) (0 ∷ 0 ∷ 4 ∷ 0 ∷ []))
    ∷ claim False PidTaken (four (five seventy) (2 ∷ 1 ∷ 0 ∷ 0 ∷ []) (0 ∷ 0 ∷ 4 ∷ 0 ∷ []))
    ∷ claim True NotRegistered (four (five seventy) (2 ∷ 1 ∷ 0 ∷ 0 ∷ []) (0 ∷ 0 ∷ 4 ∷ 0 ∷ []))
    ∷ claim Undefined NotMember (four (five seventy) (2 ∷ 1 ∷ 0 ∷ 0 ∷ []) (0 ∷ 0 ∷ 4 ∷ 0 ∷ []))
    ∷ claim (Pid 67108865) Done (four (five seventy) (6 ∷ 1 ∷ 1 ∷ 0 ∷ []) (0 ∷ 0 ∷ 4 ∷ 0 ∷ []))
    ∷ claim Undefined GroupUnknown (four (five seventy) (6 ∷ 1 ∷ 9 ∷ 4 ∷ []) (0 ∷ 0 ∷ 4 ∷ 0 ∷ []))
    ∷ claim True Done (four [] (6 ∷ 5 ∷ 11 ∷ 4 ∷ []) (7 ∷ 7 ∷ 7 ∷ 0 ∷ []))
    ∷ []

-- M1 to M13
pub thirteen : session 4 8 (replicate (table_words names_per_group) 0) marked ≡ claimed
unfolding claimed session calls call opening sound sound_state sound_group sound_entries is_ascending is_distinct is_hosted layout sections state_of words entries insert remove lookup holds_pid find put add_group drop_group interconnect leave_free one_free_group connect become_free inside outcome apply group_step rule step opened union inter diff union_all ones ones_in
thirteen = refl
