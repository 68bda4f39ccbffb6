-- What is proved of the definitions in specs/: theorems, and the laws that they rest on.
-- ---- every command keeps it: connections and free groups, an s_group that changes, connecting, becoming free, names, what is looked up, opening; all fifteen
pub mod Freed
pub mod Lookups
pub mod StepsKeep
-- ---- words and state determine each other, s_groups and pids by name in both, and test, clauses and invariant agree
pub mod RoundTrip
pub mod ReadOff
pub mod WordsMeaning
pub mod KeyPlaces
pub mod StateTest
pub mod ClausesHold
pub mod ClausesSuffice
pub mod Agree
-- ---- calls on tables: kept soundness, refusals, connections that stay, which words a naming command writes
pub mod Calls
pub mod Refused
pub mod Growing
pub mod Frame
pub mod NamingFrame
-- ---- isolation and demand 3: s_groups that lines can make, the s_group that a line can feel, effects on two s_groups, the swap law, mixes over any machine, on states, on tables
pub mod Swap
pub mod MixedStates
pub mod Demands
