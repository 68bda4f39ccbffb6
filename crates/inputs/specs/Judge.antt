-- The reasons that the code finds before it looks at an s_group, from plain numbers. Definitions only. Assumes nothing.
use Rattle.std.specs.Prelude.{Bool, not, cond, Result, Ok, Err, ℕ, eqb, leb}
use Rattle.nodes.specs.Sets.{has, beyond}
use Rattle.entries.specs.Entries.{host}
use Rattle.answers.specs.Answers.{number}
use Rattle.semantics.specs.Sizes.{group_limit, group_names}
use Rattle.semantics.specs.Ranges.{bad_group}
use Rattle.answers.specs.declared.Reason.{Reason}
use Rattle.answers.specs.declared.Reason.TheVariants.{Done, CallerUnknown, GroupNameRange, NameZero, NodeUnknown, CallerOutside, GroupTaken, GroupsFull}

-- whether nothing speaks against
abbrev pub is_done : Reason → Bool
is_done r = eqb (number r) 0

-- what a check answers: nothing, or as an error what speaks against
abbrev pub Verdict : Type 0
Verdict = Result Unit Reason

-- the reason as a verdict, with nothing for Done
abbrev pub checked : Reason → Verdict
checked r = cond (is_done r) (Ok tt) (Err r)

-- r, or q where r is Done
abbrev pub first_reason : Reason → Reason → Reason
first_reason r q = cond (is_done r) q r

-- the caller i is on a roster of N nodes
abbrev pub caller_reason : ℕ → ℕ → Reason
caller_reason N i = cond (leb N i) CallerUnknown Done

-- that, and the s_group's name s is in range
abbrev pub group_reason : ℕ → ℕ → ℕ → Reason
group_reason N i s = first_reason (caller_reason N i) (cond (bad_group s) GroupNameRange Done)

-- that, and the process name n is not zero
abbrev pub name_reason : ℕ → ℕ → ℕ → ℕ → Reason
name_reason N i s n = first_reason (group_reason N i s) (cond (eqb n 0) NameZero Done)

-- that, and the host of the pid p is on the roster
abbrev pub pid_reason : ℕ → ℕ → ℕ → ℕ → ℕ → Reason
pid_reason N i s n p = first_reason (name_reason N i s n) (cond (leb N (host p)) NodeUnknown Done)

-- the caller is on the roster, the s_group's name in range, and all nodes of the set are on the roster
abbrev pub set_reason : ℕ → ℕ → ℕ → ℕ → Reason
set_reason N i s set = first_reason (group_reason N i s) (cond (beyond set N) NodeUnknown Done)

-- that, and the set has the caller, the name is not taken, and there are fewer than all G s_groups
abbrev pub creation_reason : ℕ → ℕ → ℕ → ℕ → ℕ → Bool → Reason
creation_reason N G i s set taken =
    first_reason (set_reason N i s set) (cond (not (has set i)) CallerOutside (cond taken GroupTaken (cond (leb group_limit G) GroupsFull Done)))

-- a lookup by node j: the caller is on the roster, s is in range or zero, n is not zero, j is on the roster
abbrev pub asking_reason : ℕ → ℕ → ℕ → ℕ → ℕ → Reason
asking_reason N i j s n =
    first_reason (caller_reason N i) (cond (leb group_names s) GroupNameRange (cond (eqb n 0) NameZero (cond (leb N j) NodeUnknown Done)))

-- the caller and the host of the pid p are on the roster
abbrev pub host_reason : ℕ → ℕ → ℕ → Reason
host_reason N i p = first_reason (caller_reason N i) (cond (leb N (host p)) NodeUnknown Done)
