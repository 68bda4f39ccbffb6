-- What a lookup of the code found, and what a namespace told of the name. Definitions only. Assumes nothing.
use Rattle.std.proofs.Math.Option.{some}
use Rattle.std.specs.Prelude.{ℕ, Result, Ok, Err}
use Rattle.answers.specs.declared.Reason.{Reason}
use Rattle.answers.specs.declared.Reason.TheVariants.{Done, NotRegistered, HostOutside}
use Rattle.entries.specs.declared.Refusal.{Refusal}
use Rattle.entries.specs.declared.Seen.{Seen}
use Rattle.entries.specs.declared.Seen.TheVariants.{Inside, Outside}
use Rattle.semantics.specs.Steps.{Looked, nothing_found}

-- the pid that a lookup found and the reason beside it, or why there is none
abbrev pub Lookup : Type 0
Lookup = Result (ℕ × Reason) Reason

-- a pid that is found, with the reason beside it
abbrev pub pid_with : ℕ → Reason → Looked
pid_with p r = record { found = some p; reason = r }

-- what a lookup found, with its reason
abbrev pub looked_up : Lookup → Looked
looked_up (Ok f) = pid_with f.0 f.1
looked_up (Err r) = nothing_found r

-- what the namespace told, by the set of members
abbrev pub looked_in : Result Seen Refusal → Looked
looked_in (Ok (Inside p)) = pid_with p Done
looked_in (Ok (Outside p)) = pid_with p HostOutside
looked_in (Err r) = nothing_found NotRegistered
