-- Calls with an index beside the table: what each gives, and the index after it. Assumes nothing.
use Rattle.std.specs.Prelude.{not, ◌||◌, cond, List, [], ◌∷◌, ◌++◌, ℕ, eqb, ltb, leb, length, replicate}
use Rattle.nodes.specs.NodeSets.{node_limit, beyond}
use Rattle.entries.specs.Entries.{host}
use Rattle.commands.specs.declared.Command.{Command}
use Rattle.answers.specs.Answers.{refuses, answer_of}
use Rattle.semantics.specs.Sizes.{names_per_group, table_words, index_words}
use Rattle.semantics.specs.State.{State}
use Rattle.semantics.specs.Table.{state_of}
use Rattle.semantics.specs.Test.{same, sound}
use Rattle.semantics.specs.FirstReason.{Test, ◌when◌, first}
use Rattle.semantics.specs.Call.{Call, refused, call, opening}
use Rattle.answers.specs.declared.Value.TheVariants.{Ok, Listed}
use Rattle.answers.specs.declared.Reason.{Reason}
use Rattle.answers.specs.declared.Reason.TheVariants.{Done, TableLength, RosterSize, Unsound, NodeUnknown, RunShort, IndexWrong}
use Rattle.indexes.specs.Index.{sorted, walk, index_of_table, names_of}

-- what a call gives, and the index after it
pub record Indexed : Type 0 where
  pub given : Call
  pub index : List ℕ

-- Error, and every word of table and index as it was
abbrev pub left : Reason → List ℕ → List ℕ → Indexed
left r t x = record { given = refused r t; index = x }

-- what a call gives, beside the index of the table that is left
abbrev pub beside : Call → Indexed
beside c = record { given = c; index = index_of_table names_per_group c.table }

-- the run x has no index's length
abbrev pub misfit : List ℕ → Test
misfit x = IndexWrong when not (eqb (length x) (index_words names_per_group))

-- the run t has not the length of a table, or is not sound
abbrev pub no_table : List ℕ → List Test
no_table t = TableLength when not (eqb (length t) (table_words names_per_group)) ∷ Unsound when not (sound names_per_group t) ∷ []

-- and the run x is not the index of the table t: its length, or a word
abbrev pub no_index : List ℕ → List ℕ → List Test
no_index t x = no_table t ++ (IndexWrong when not (same x (index_of_table names_per_group t)) ∷ [])

-- the call of a command; room is how many words the run for a list has, i is the caller
unfoldable pub indexed : ℕ → ℕ → Command → List ℕ → List ℕ → Indexed
indexed room i c t x =
    let r : Reason = first (no_index t x) in
    cond (refuses r) (left r t x) (beside (call room i c t))

-- the tests of an opening: of the index its length alone
abbrev pub opening_tests : ℕ → ℕ → List ℕ → List ℕ → List Test
opening_tests N hidden t x =
    TableLength when not (eqb (length t) (table_words names_per_group)) ∷ RosterSize when (eqb N 0 || ltb node_limit N)
    ∷ misfit x ∷ NodeUnknown when beyond hidden N ∷ []

-- opening: N nodes, of which some are hidden; every word of the index becomes zero
unfoldable pub opened : ℕ → ℕ → List ℕ → List ℕ → Indexed
opened N hidden t x =
    let r : Reason = first (opening_tests N hidden t x) in
    cond (refuses r) (left r t x) (record { given = opening N hidden t; index = replicate (index_words names_per_group) 0 })

-- the index of a table is written
unfoldable pub written : List ℕ → List ℕ → Indexed
written t x =
    let r : Reason = first (no_table t ++ (misfit x ∷ [])) in
    cond (refuses r) (left r t x) (beside (record { answer = answer_of Ok Done; list = []; table = t }))

-- s_group and name of each row of the pid p in a state
abbrev pub names_in : ℕ → State → List ℕ
names_in p st = names_of p (sorted (walk st.groups))

-- reading by pid: these, as a list
unfoldable pub read : ℕ → ℕ → List ℕ → List ℕ → Call
read room p t x =
    let st : State = state_of names_per_group t in
    let r : Reason = first (no_index t x ++ (NodeUnknown when leb st.size (host p) ∷ RunShort when ltb room (length (names_in p st)) ∷ [])) in
    cond (refuses r) (refused r t)
    (record { answer = answer_of (Listed (length (names_in p st))) Done; list = names_in p st; table = t })
