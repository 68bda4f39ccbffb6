-- Which commands ask another node, and which look a name up. Definitions only. Assumes nothing.
use Rattle.std.specs.Prelude.{ℕ}
use Rattle.commands.specs.declared.Command.{Command}
use Rattle.commands.specs.declared.Command.TheVariants.{WhereisName, WhereisNameAt, SendName, SendAt}

-- the command asks the node j: a lookup or send by another node
pub data Asks : Command → ℕ → Type 0 where
  by_lookup : {j s n : ℕ} → Asks (WhereisNameAt j s n) j
  by_send : {j s n : ℕ} → Asks (SendAt j s n) j

-- the command asks no other node
abbrev pub AsksNone : Command → Type 0
AsksNone c = (j : ℕ) → Asks c j → ⊥

-- the command looks n up in the s_group s: a lookup or a send by name, of either form
pub data Looks : Command → ℕ → ℕ → Type 0 where
  lookup_here : {s n : ℕ} → Looks (WhereisName s n) s n
  lookup_at : {j s n : ℕ} → Looks (WhereisNameAt j s n) s n
  send_here : {s n : ℕ} → Looks (SendName s n) s n
  send_at : {j s n : ℕ} → Looks (SendAt j s n) s n

-- the command looks nothing up
abbrev pub LooksNone : Command → Type 0
LooksNone c = (s n : ℕ) → Looks c s n → ⊥
