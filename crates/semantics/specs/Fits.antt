-- When the arguments of a command fit the words that document 01 gives them: a set has 64 binary digits, any other number 32. Assumes nothing.
use Rattle.std.specs.Prelude.{ℕ, ◌^◌, ◌<◌}
use Rattle.nodes.specs.NodeSets.{node_limit}
use Rattle.entries.specs.Pids.{half_word}
use Rattle.commands.specs.declared.Command.{Command}
use Rattle.commands.specs.declared.Command.TheVariants.{RegisterName, ReRegisterName, UnregisterName, RegisteredNames, WhereisName, WhereisNameAt, Send, SendName, SendAt, NewSGroup, AddNodes, RemoveNodes, DeleteSGroup, OwnNodes, OwnSGroups}

-- a number of 32 digits
abbrev pub Number : ℕ → Type 0
Number n = n < half_word

-- a set of 64 digits
abbrev pub NodeSet : ℕ → Type 0
NodeSet w = w < 2 ^ node_limit

-- every argument fits
abbrev pub Fits : Command → Type 0
Fits (RegisterName s n p) = Number s × Number n × Number p
Fits (ReRegisterName s n p) = Number s × Number n × Number p
Fits (UnregisterName s n) = Number s × Number n
Fits (WhereisName s n) = Number s × Number n
Fits (RegisteredNames s) = Number s
Fits (AddNodes s set) = Number s × NodeSet set
Fits (NewSGroup s set) = Number s × NodeSet set
Fits (WhereisNameAt j s n) = Number j × Number s × Number n
Fits (SendAt j s n) = Number j × Number s × Number n
Fits (Send p) = Number p
Fits (SendName s n) = Number s × Number n
Fits (RemoveNodes s set) = Number s × NodeSet set
Fits (DeleteSGroup s) = Number s
Fits OwnNodes = Unit {0}
Fits OwnSGroups = Unit {0}
