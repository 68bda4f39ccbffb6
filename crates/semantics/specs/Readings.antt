-- Five readings of document 01 that look right and are not ours. Each wrong one is defined here, and an example tells it from ours.
-- Assumes nothing.
use Rattle.std.specs.Prelude.{◌≡◌, refl, ◌≢◌, cond, ◌&&◌, ◌||◌, List, [], ◌∷◌, ◌++◌, map, ℕ, suc, ◌+◌, eqb, get_or}
use Rattle.std.proofs.Common.{ap, arith}
use Rattle.std.proofs.Math.Option.{Option, none, some}
use Rattle.std.specs.Int.Count.{count_trailing_zeros}
use Rattle.nodes.specs.Sets.{has, empty, single, union, inter, diff, lowest, upto, walk}
use Rattle.entries.specs.Entries.{lookup}
use Rattle.answers.specs.Answers.{number}
use Rattle.semantics.specs.Sizes.{names_per_group, links_at, free_at}
use Rattle.semantics.specs.State.{Group, State, with_groups, free_of, find}
use Rattle.commands.specs.declared.Command.TheVariants.{WhereisName, WhereisNameAt, NewSGroup, DeleteSGroup}
use Rattle.answers.specs.Answers.{answer_of}
use Rattle.semantics.specs.Ranges.{held}
use Rattle.semantics.specs.Steps.{Looked, looked, nothing_found, ask, tell, merge, lot, connect}
use Rattle.semantics.specs.Table.{layout, state_of}
use Rattle.semantics.specs.Call.{call}
use Rattle.semantics.specs.Marked.{four, five, seventy}
use Rattle.semantics.specs.Edges.{table_of, between_two}
use Rattle.semantics.specs.Compute.{computing}
use Rattle.answers.specs.declared.Answer.{Answer}
use Rattle.answers.specs.declared.Value.TheVariants.{Undefined}
use Rattle.answers.specs.declared.Reason.TheVariants.{GroupUnknown, NotMember, NotRegistered}

-- ours gives x and the wrong reading y, which is not x
pub record ToldApart {A : Type 0} (ours wrong x y : A) : Type 0 where
  pub ours_is : ours ≡ x
  pub wrong_is : wrong ≡ y
  pub differ : x ≢ y

-- the state of a table
abbrev pub state : List ℕ → State
state t = state_of names_per_group t

-- the table of a state
abbrev pub table : State → List ℕ
table st = layout names_per_group st

-- ---- 1. nodes leave a free group one by one

-- the free groups that the words show, each at its lowest node; the first word is that of node k
abbrev pub groups_from : ℕ → List ℕ → List ℕ
groups_from k [] = []
groups_from k (f ∷ fs) = cond (eqb (lowest f) k) (f ∷ groups_from (suc k) fs) (groups_from (suc k) fs)

-- the free groups of a table
abbrev pub free_groups : List ℕ → List ℕ
free_groups t = groups_from 0 (state t).free

-- a copy of g for each node of m, without that node
abbrev pub copies : ℕ → ℕ → List ℕ
copies g m = walk (λ l i. l ++ (diff g (single i) ∷ [])) m []

-- the wrong reading: a group that some of m leave is left in as many copies
abbrev pub one_by_one : ℕ → List ℕ → List ℕ
one_by_one m [] = []
one_by_one m (g ∷ gs) = cond (empty (inter g m)) (g ∷ one_by_one m gs) (copies g (inter g m) ++ one_by_one m gs)

-- three nodes in one free group
abbrev pub three : List ℕ
three = table_of 3 0 [] (6 ∷ 5 ∷ 3 ∷ []) (7 ∷ 7 ∷ 7 ∷ [])

-- 0 and 1 leave {0, 1, 2} for an s_group: {2} is left, and not {1, 2} and {0, 2}
pub leaving-together : ToldApart (free_groups (call 0 0 (NewSGroup 5 3) three).table) (one_by_one 3 (free_groups three)) (4 ∷ []) (6 ∷ 5 ∷ [])
unfolding computing upto count_trailing_zeros
leaving-together = record { ours_is = refl; wrong_is = refl; differ = λ e. let z : ◌≡◌ {A = ℕ} 0 1 = cc in omega arith }

-- ---- 2. freed nodes join the first connected free group only

-- the first free group that has a node connected to one of m; ours is `touched`, the union of all
abbrev pub first_touched : ℕ → List ℕ → List ℕ → ℕ
first_touched m [] fs = 0
first_touched m (l ∷ ls) [] = 0
first_touched m (l ∷ ls) (f ∷ fs) = cond (empty (inter l m) || empty f) (first_touched m ls fs) f

-- the wrong reading of `become_free`
abbrev pub join_first : ℕ → List Group → State → State
join_first gone gs st = merge (union (lot gone gs st) (first_touched (lot gone gs st) st.links st.free)) (with_groups gs st)

-- M13 with two connected free groups: one free group is left, and not {0, 1, 2} and {3, 4}
pub joining-all :
    ToldApart (call 0 1 (DeleteSGroup 5) between_two).table (table (join_first 3 [] (state between_two)))
    (table_of 5 0 [] (30 ∷ 29 ∷ 27 ∷ 23 ∷ 15 ∷ []) (31 ∷ 31 ∷ 31 ∷ 31 ∷ 31 ∷ []))
    (table_of 5 0 [] (14 ∷ 5 ∷ 3 ∷ 17 ∷ 8 ∷ []) (7 ∷ 7 ∷ 7 ∷ 24 ∷ 24 ∷ []))
unfolding computing
joining-all = record { ours_is = refl; wrong_is = refl; differ = λ e. let z : ◌≡◌ {A = ℕ} 31 7 = ap (λ (t : List ℕ). get_or t free_at 0) e in omega arith }

-- ---- 3. groups merge by the link of a free node with a grouped or hidden one

-- the free group of node i, or the node alone
abbrev pub group_at : ℕ → State → ℕ
group_at i st = cond (empty (free_of i st)) (single i) (free_of i st)

-- the wrong reading of `connect`: the group of a free normal node takes the other node in
abbrev pub connect_merging : ℕ → ℕ → State → State
connect_merging a b st = cond (empty (free_of a st) && empty (free_of b st)) (connect a b st) (merge (union (group_at a st) (group_at b st)) st)

-- the table after M10
abbrev pub after_m10 : List ℕ
after_m10 = four (five seventy) (2 ∷ 1 ∷ 0 ∷ 0 ∷ []) (0 ∷ 0 ∷ 4 ∷ 0 ∷ [])

-- the table after M11
abbrev pub after_m11 : List ℕ
after_m11 = four (five seventy) (6 ∷ 1 ∷ 1 ∷ 0 ∷ []) (0 ∷ 0 ∷ 4 ∷ 0 ∷ [])

-- the table after M12
abbrev pub after_m12 : List ℕ
after_m12 = four (five seventy) (6 ∷ 1 ∷ 9 ∷ 4 ∷ []) (0 ∷ 0 ∷ 4 ∷ 0 ∷ [])

-- M11, where 0 is in an s_group: free stays {2}, and is not {0, 2}
pub no-merge-with-member :
    ToldApart (call 0 2 (WhereisNameAt 0 5 70) after_m10).table (table (connect_merging 2 0 (state after_m10)))
    after_m11 (four (five seventy) (6 ∷ 1 ∷ 1 ∷ 0 ∷ []) (5 ∷ 0 ∷ 5 ∷ 0 ∷ []))
unfolding computing
no-merge-with-member = record { ours_is = refl; wrong_is = refl; differ = λ e. let z : ◌≡◌ {A = ℕ} 0 5 = ap (λ (t : List ℕ). get_or t free_at 0) e in omega arith }

-- M12, where 3 is hidden: free stays {2}, and is not {2, 3}
pub no-merge-with-hidden :
    ToldApart (call 0 2 (WhereisNameAt 3 9 70) after_m11).table (table (connect_merging 2 3 (state after_m11)))
    after_m12 (four (five seventy) (6 ∷ 1 ∷ 9 ∷ 4 ∷ []) (0 ∷ 0 ∷ 12 ∷ 12 ∷ []))
unfolding computing
no-merge-with-hidden = record { ours_is = refl; wrong_is = refl; differ = λ e. let z : ◌≡◌ {A = ℕ} 4 12 = ap (λ (t : List ℕ). get_or t (free_at + 2) 0) e in omega arith }

-- ---- 4. the connection is undone when the name isn't found

-- the wrong reading of whereis_name/3: node i is connected with j where j finds the name
abbrev pub connect_if_found : ℕ → ℕ → ℕ → ℕ → State → State
connect_if_found i j s n st = cond (held (ask j s n st).found) (connect i j st) st

-- M12: 2 and 3 are connected, though there is no s_group 9
pub connection-stays :
    ToldApart (call 0 2 (WhereisNameAt 3 9 70) after_m11).table (table (connect_if_found 2 3 9 70 (state after_m11))) after_m12 after_m11
unfolding computing
connection-stays = record { ours_is = refl; wrong_is = refl; differ = λ e. let z : ◌≡◌ {A = ℕ} 9 1 = ap (λ (t : List ℕ). get_or t (links_at + 2) 0) e in omega arith }

-- ---- 5. the name is tested before the membership

-- the wrong reading of `look_in`: reason 12 before reason 9
abbrev pub name_first : ℕ → ℕ → Option Group → Looked
name_first i n none = nothing_found GroupUnknown
name_first i n (some g) =
    cond (held (lookup n g.names))
    (cond (has g.members i) (looked g.members (lookup n g.names)) (nothing_found NotMember))
    (nothing_found NotRegistered)

-- the answers of whereis_name/2 in the s_group 5 to node 2, for each of the names, on the table after M10: ours, and the wrong reading's
abbrev pub ours_to_outsider : List ℕ → List Answer
ours_to_outsider ns = map (λ n. (call 0 2 (WhereisName 5 n) after_m10).answer) ns

abbrev pub wrong_to_outsider : List ℕ → List Answer
wrong_to_outsider ns = map (λ n. (tell (name_first 2 n (find 5 (state after_m10).groups)) (state after_m10)).answer) ns

-- node 2, which is not a member, hears the same of 70, which is registered, and of 71, which is not; the wrong reading lets it learn which is
pub outsider-learns-nothing :
    ToldApart (ours_to_outsider (70 ∷ 71 ∷ [])) (wrong_to_outsider (70 ∷ 71 ∷ []))
    (answer_of Undefined NotMember ∷ answer_of Undefined NotMember ∷ [])
    (answer_of Undefined NotMember ∷ answer_of Undefined NotRegistered ∷ [])
unfolding computing
outsider-learns-nothing =
    record {
      ours_is = refl;
      wrong_is = refl;
      differ = λ e. let z : ◌≡◌ {A = ℕ} 9 12 = ap (λ (l : List Answer). get_or (map (λ a. number a.reason) l) 1 0) e in omega arith;
    }
