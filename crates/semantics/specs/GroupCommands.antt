-- The seven commands that change one s_group at most and free no node, and the s_group that each names. Definitions only. Assumes nothing.
use Rattle.std.specs.Prelude.{Bool, true, false, ℕ}
use Rattle.commands.specs.declared.Command.{Command}
use Rattle.commands.specs.declared.Command.TheVariants.{RegisterName, ReRegisterName, UnregisterName, RegisteredNames, WhereisName, NewSGroup, AddNodes}

pub data GroupCommand : Type 0 where
  register_name re_register_name : ℕ → ℕ → ℕ → GroupCommand  -- s n p
  unregister_name whereis_name : ℕ → ℕ → GroupCommand  -- s n
  registered_names : ℕ → GroupCommand  -- s
  add_nodes new_s_group : ℕ → ℕ → GroupCommand  -- s set

-- as one of the fifteen
abbrev pub within : GroupCommand → Command
within (register_name s n p) = RegisterName s n p
within (re_register_name s n p) = ReRegisterName s n p
within (unregister_name s n) = UnregisterName s n
within (whereis_name s n) = WhereisName s n
within (registered_names s) = RegisteredNames s
within (add_nodes s set) = AddNodes s set
within (new_s_group s set) = NewSGroup s set

-- the s_group that it names
abbrev pub target : GroupCommand → ℕ
target (register_name s n p) = s
target (re_register_name s n p) = s
target (unregister_name s n) = s
target (whereis_name s n) = s
target (registered_names s) = s
target (add_nodes s set) = s
target (new_s_group s set) = s

-- whether it is new_s_group
abbrev pub creates : GroupCommand → Bool
creates (register_name s n p) = false
creates (re_register_name s n p) = false
creates (unregister_name s n) = false
creates (whereis_name s n) = false
creates (registered_names s) = false
creates (add_nodes s set) = false
creates (new_s_group s set) = true
