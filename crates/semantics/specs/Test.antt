-- Soundness as a test that computes: the words are those of the state that they stand for, and that state passes. Assumes nothing.
use Rattle.std.specs.Prelude.{Bool, true, false, not, ◌&&◌, cond, List, [], ◌∷◌, map, ℕ, suc, eqb, leb, ltb, length, get_or}
use Rattle.std.specs.Bool.{beq}
use Rattle.nodes.specs.Sets.{node_limit, has, empty, single, union, inter, diff, subset, beyond}
use Rattle.entries.specs.NamespaceSound.{sound_entries}
use Rattle.semantics.specs.Sizes.{group_limit, group_names, table_words}
use Rattle.semantics.specs.State.{Group, State, free_nodes}
use Rattle.semantics.specs.Table.{layout, state_of}

-- ---- tests on lists

-- all of these hold
abbrev pub trues : List Bool → Bool
trues [] = true
trues (b ∷ bs) = b && trues bs

-- p at each place and its word, the first place being k
abbrev pub alli : (ℕ → ℕ → Bool) → ℕ → List ℕ → Bool
alli p k [] = true
alli p k (x ∷ xs) = p k x && alli p (suc k) xs

-- p of each s_group
abbrev pub each : (Group → Bool) → List Group → Bool
each p [] = true
each p (g ∷ gs) = p g && each p gs

-- above b, and ascending
abbrev pub ascending : ℕ → List ℕ → Bool
ascending b [] = true
ascending b (x ∷ xs) = ltb b x && ascending x xs

-- word by word equal
abbrev pub same : List ℕ → List ℕ → Bool
same [] [] = true
same [] (y ∷ ys) = false
same (x ∷ xs) [] = false
same (x ∷ xs) (y ∷ ys) = eqb x y && same xs ys

-- ---- the state

-- an s_group: its name in range, a member, members on the roster, a sound namespace
abbrev pub group_tests : ℕ → ℕ → Group → List Bool
group_tests cap N g =
    ltb g.name group_names ∷ not (empty g.members) ∷ not (beyond g.members N) ∷ sound_entries cap N g.names ∷ []

unfoldable pub sound_group : ℕ → ℕ → Group → Bool
sound_group cap N g = trues (group_tests cap N g)

-- node i's connections: on the roster, and not itself
abbrev pub linked : ℕ → ℕ → ℕ → Bool
linked N i l = not (beyond l N) && not (has l i)

-- every member of the s_group is connected with the others
abbrev pub met : List ℕ → Group → Bool
met links g = alli (λ i l. cond (has g.members i) (subset (diff g.members (single i)) l) true) 0 links

-- the free group of node i, from its connections l and the free normal nodes F
abbrev pub freely : ℕ → ℕ → ℕ → ℕ
freely F i l = cond (has F i) (union (inter l F) (single i)) 0

-- ranges; s_groups; connections within the roster, mutual, between all members; free groups, each written at all of its nodes
abbrev pub state_tests : ℕ → State → List Bool
state_tests cap st =
    leb 1 st.size ∷ leb st.size node_limit ∷ not (beyond st.hidden st.size)
    ∷ leb (length st.groups) group_limit ∷ ascending 0 (map (λ g. g.name) st.groups) ∷ each (sound_group cap st.size) st.groups
    ∷ eqb (length st.links) node_limit ∷ eqb (length st.free) node_limit
    ∷ alli (linked st.size) 0 st.links
    ∷ alli (λ i l. alli (λ j k. beq (has l j) (has k i)) 0 st.links) 0 st.links
    ∷ each (met st.links) st.groups
    ∷ alli (λ i f. eqb f (freely (free_nodes st) i (get_or st.links i 0))) 0 st.free
    ∷ alli (λ i f. alli (λ j h. cond (has f j) (eqb f h) true) 0 st.free) 0 st.free ∷ []

unfoldable pub sound_state : ℕ → State → Bool
sound_state cap st = trues (state_tests cap st)

-- ---- the table

-- the run has the table's length, its words are those of its state, and the state passes
unfoldable pub sound : ℕ → List ℕ → Bool
sound cap t = eqb (length t) (table_words cap) && (same (layout cap (state_of cap t)) t && sound_state cap (state_of cap t))
