-- The commands as steps on a state, the table and its soundness, a call, and what is proved of them. Files marked (believed) have the definitions that
-- the statements of docs/STATEMENTS.md are made of; of the others a reader needs the statements alone.

-- ---- sizes and arguments (believed): capacities and places of the table; ranges; how wide arguments are; the seven commands of one s_group; which
-- commands ask another node, and which look a name up
pub mod Sizes
pub mod Ranges
pub mod Fits
pub mod GroupCommands
pub mod Asks
-- ---- a table (believed): what its words mean; soundness, clause by clause
pub mod Soundness
-- ---- a call (believed): what it gives, and the run for a list; the reason that is given, and the tests of opening
pub mod Given
pub mod FirstReason
-- ---- mixes of scripts (believed): scripts, mixes and orders, over any machine; script lines and what their callers hear
pub mod Mixes
pub mod Lines
-- ---- the steps that a call takes: the state of a table and its changes, the fifteen commands and opening on it, the words of a state and the state
-- of words, the test that computes; the call, and opening
pub mod State
pub mod Steps
pub mod Within
pub mod Table
pub mod Test
pub mod Call
-- ---- 01 by computation: the marked steps, the sample and the edges, readings that are not ours; the edges of names that leave and of strangers (02)
pub mod Compute
pub mod Marked
pub mod Edges
pub mod LeavingEdges
pub mod StrangerEdges
pub mod Readings
-- ---- what a state of a sound table has: the working invariant, tests and truth values, members, s_groups in order, free nodes
pub mod Regular
pub mod Truth
pub mod Members
pub mod Groups
pub mod FreeNodes
pub mod FreeGroupsOfNodes
-- ---- every command keeps it: connections and free groups, an s_group that changes, connecting, becoming free, names, what is looked up, opening; all fifteen
pub mod Wires
pub mod Changed
pub mod Merged
pub mod Connected
pub mod NamesKept
pub mod OpenedRegular
-- ---- the words of a state: lists in parts and sections, bodies, one s_group and one entry in the words
pub mod Padding
pub mod ThreeParts
pub mod Sections
pub mod Bodies
pub mod WordsOfState
pub mod WordByWord
pub mod Places
pub mod EntryPlaces
pub mod OneGroup
-- ---- words and state determine each other, s_groups and pids by name in both, and test, clauses and invariant agree
pub mod TestLaws
-- ---- isolation and demand 3: s_groups that lines can make, the s_group that a line can feel, effects on two s_groups, the swap law, mixes over any machine, on states, on tables
pub mod NewLines
pub mod GroupData
pub mod LineSteps
pub mod Effects
pub mod Mixing
