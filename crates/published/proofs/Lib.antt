-- What is proved of the definitions in specs/: theorems, and the laws that they rest on.
-- ---- the theorems: answers and next tables are the published ones, the lowest reason is given, opening, what a refused lookup or send leaves
pub mod Exact
pub mod LowestReason
pub mod IndexReasons
pub mod OpeningRule
pub mod RefusedLinks
-- ---- table and published state determine each other: the published state of a table is that of its state, one table for one state, a table for every
-- well-formed state, and back
pub mod SeenState
pub mod Determined
pub mod Built
pub mod Fair
-- ---- what 000 and 001 say of states and lists: the three classes divide the nodes, free groups as a set of sets, lists ascend; what 02 says of names that left and of
-- strangers
pub mod Classes
pub mod FreeGroups
pub mod Listed
pub mod Strangers
pub mod NamesThatLeft
-- ---- what is seen of a state: "for some number", lists of a map, s_groups, names, connections and free groups
pub mod SomeBelow
pub mod Concatenated
pub mod AscendingList
pub mod GroupsSeen
pub mod NamesSeen
pub mod Rewired
-- ---- command by command: when a step follows a transition; naming, joining, connecting, becoming free, own groups; all fifteen; their reasons
pub mod Follows
pub mod NamingRules
pub mod Joining
pub mod ConnectRule
pub mod Merging
pub mod Parting
pub mod Leaving
pub mod OwnRules
pub mod Rules
pub mod Reasons
