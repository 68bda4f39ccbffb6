-- The state of document 000 (figure 3), its auxiliary functions (5.2.2) and its transitions (5.2.1) under its names, as document 01 reads
-- them, and 01's opening. A set is a test, and a set of tuples with a key is a map from the key; ⊕ is a plain union. 01's names and nodes are
-- finitely many, so that "for some" is a test too. Where 000 passes the parts of the state and gives them back, the state is passed. Assumes nothing.
use Rattle.std.specs.Prelude.{Bool, false, not, ◌&&◌, ◌||◌, cond, ℕ, zero, suc, eqb, ltb}
use Rattle.std.proofs.Math.Option.{Option, none, some}
use Rattle.nodes.specs.NodeSets.{node_limit, has}
use Rattle.entries.specs.Pids.{half_word, host}
use Rattle.semantics.specs.Sizes.{group_names}
use Rattle.commands.specs.declared.Command.{Command}
use Rattle.commands.specs.declared.Command.TheVariants.{RegisterName, ReRegisterName, UnregisterName, RegisteredNames, WhereisName, WhereisNameAt, Send, SendName, SendAt, NewSGroup, AddNodes, DeleteSGroup, OwnNodes, OwnSGroups}
use Rattle.commands.specs.declared.Command.TheVariants as Command
use Rattle.semantics.specs.Ranges.{held}

-- ---- sets and maps

-- a set of numbers, which stand for nodes or names
abbrev pub Set : Type 0
Set = ℕ → Bool

infixl 20 ◌∪◌
infixl 20 ◌∖◌
infixl 20 ◌∩◌
-- what is in a or in b
abbrev pub ◌∪◌ : Set → Set → Set
◌∪◌ a b i = a i || b i

-- what is in a and not in b
abbrev pub ◌∖◌ : Set → Set → Set
◌∖◌ a b i = a i && not (b i)

-- what is in a and in b
abbrev pub ◌∩◌ : Set → Set → Set
◌∩◌ a b i = a i && b i

-- k alone
abbrev pub only : ℕ → Set
only k i = eqb k i

-- the empty set
abbrev pub nobody : Set
nobody i = false

-- whether some number below n is in a
unfoldable pub any : ℕ → Set → Bool
any zero a = false
any (suc n) a = a n || any n a

-- at most one thing for each number
abbrev pub Map : Type 0 → Type 0
Map A = ℕ → Option A

-- m with a at k, in place of what it had there
abbrev pub with_at : {A : Type 0} → ℕ → A → Map A → Map A
with_at k a m j = cond (eqb k j) (some a) (m j)

-- m with nothing at k
abbrev pub less_at : {A : Type 0} → ℕ → Map A → Map A
less_at k m j = cond (eqb k j) none (m j)

-- f of what there is, and d where there is nothing
abbrev pub of_some : {A B : Type 0} → B → (A → B) → Option A → B
of_some d f none = d
of_some d f (some a) = f a

-- ---- figure 3

-- {(name, pid)}
abbrev pub Namespace : Type 0
Namespace = Map ℕ

-- (s_group_name, {node_id}, namespace), under its name
pub record SGroup : Type 0 where
  pub nodes : Set
  pub namespace : Namespace

-- gr_names
pub data GrNames : Type 0 where
  NoGroup : GrNames
  Names : Set → GrNames

-- (node_id, node_type, connections, gr_names), under its node_id; the type is Hidden or Normal
pub record Node : Type 0 where
  pub hidden : Bool
  pub connections : Set
  pub gr_names : GrNames

-- {free_group}: fgs ni is the free group of ni, and empty where it is in none. Their namespaces are empty for now (01)
abbrev pub FreeGroups : Type 0
FreeGroups = ℕ → Set

-- (grs, fgs, fhs, nds)
pub record Published : Type 0 where
  pub grs : Map SGroup
  pub fgs : FreeGroups
  pub fhs : Set
  pub nds : Map Node

-- {ni | (ni, nt, cs, gs) ∈ nds and f holds of it}
abbrev pub those : (Node → Bool) → Map Node → Set
those f nds ni = of_some false f (nds ni)

-- f of each node of nis takes its place; the others stay
abbrev pub on_nodes : Set → (ℕ → Node → Node) → Map Node → Map Node
on_nodes nis f nds ni = cond (nis ni) (of_some none (λ nd. some (f ni nd)) (nds ni)) (nds ni)

-- a node with other gr_names
abbrev pub with_gr_names : GrNames → Node → Node
with_gr_names gs nd = record { hidden = nd.hidden; connections = nd.connections; gr_names = gs }

-- a state with other free groups and nodes
abbrev pub with_free : FreeGroups → Map Node → Published → Published
with_free fgs nds X = record { grs = X.grs; fgs = fgs; fhs = X.fhs; nds = nds }

-- ---- 5.2.2, auxiliary functions

-- ni is in the s_group s
abbrev pub IsSGroupSNode : ℕ → ℕ → Map SGroup → Bool
IsSGroupSNode ni s grs = of_some false (λ g. g.nodes ni) (grs s)

-- ni is in some s_group
abbrev pub IsSGroupNode : ℕ → Map SGroup → Bool
IsSGroupNode ni grs = any group_names (λ s. IsSGroupSNode ni s grs)

-- ni is in some free normal group
abbrev pub IsFreeNormalNode : ℕ → FreeGroups → Bool
IsFreeNormalNode ni fgs = fgs ni ni

-- ni is a free hidden group
abbrev pub IsFreeHiddenNode : ℕ → Set → Bool
IsFreeHiddenNode ni fhs = fhs ni

-- both are in one free normal group
abbrev pub SameFreeGroup : ℕ → ℕ → FreeGroups → Bool
SameFreeGroup ni ni' fgs = fgs ni ni'

-- both are in one s_group
abbrev pub SameSGroup : ℕ → ℕ → Map SGroup → Bool
SameSGroup ni ni' grs = any group_names (λ s. IsSGroupSNode ni s grs && IsSGroupSNode ni' s grs)

-- all of nis are connected: (ni, nt, (cs ⊕ nis) − {ni}, gs) takes the place of (ni, nt, cs, gs), where 000 writes the union of both
abbrev pub InterConnectNodes : Set → Map Node → Map Node
InterConnectNodes nis =
    on_nodes nis (λ ni nd. record { hidden = nd.hidden; connections = (nd.connections ∪ nis) ∖ only ni; gr_names = nd.gr_names })

-- the nodes of nis are one free group: {nis} ⊕ fgs', where fgs' is fgs less the groups of these nodes
abbrev pub Joined : Set → FreeGroups → FreeGroups
Joined nis fgs ni = cond (nis ni) nis (fgs ni)

-- ni and ni' connect, in 000's order of outcomes: as it was; the pair is connected; two free groups become one, all connected; as it was
unfoldable pub AddConnections : ℕ → ℕ → Published → Published
AddConnections ni ni' X =
    cond (SameFreeGroup ni ni' X.fgs || SameSGroup ni ni' X.grs) X
    (cond ((IsSGroupNode ni X.grs && not (SameSGroup ni ni' X.grs))
    || IsFreeHiddenNode ni X.fhs
    || (IsFreeNormalNode ni X.fgs && not (IsFreeNormalNode ni' X.fgs)))
    (with_free X.fgs (InterConnectNodes (only ni ∪ only ni') X.nds) X)
    (cond (IsFreeNormalNode ni X.fgs && IsFreeNormalNode ni' X.fgs)
    (with_free (Joined (X.fgs ni ∪ X.fgs ni') X.fgs) (InterConnectNodes (X.fgs ni ∪ X.fgs ni') X.nds) X)
    X))

-- gs ⊕ {s}
abbrev pub AddSGroupS : ℕ → GrNames → GrNames
AddSGroupS s NoGroup = Names (only s)
AddSGroupS s (Names gs) = Names (gs ∪ only s)

-- the nodes of nis are in s
abbrev pub AddSGroup : ℕ → Set → Map Node → Map Node
AddSGroup s nis = on_nodes nis (λ ni nd. with_gr_names (AddSGroupS s nd.gr_names) nd)

-- gs less s; what has no s stays (01), where 000 to the letter drops the node
abbrev pub LessSGroupS : ℕ → GrNames → GrNames
LessSGroupS s NoGroup = NoGroup
LessSGroupS s (Names gs) = Names (gs ∖ only s)

-- the nodes of nis are not in s
abbrev pub RemoveSGroup : ℕ → Set → Map Node → Map Node
RemoveSGroup s nis = on_nodes nis (λ ni nd. with_gr_names (LessSGroupS s nd.gr_names) nd)

-- the nodes of nis leave the free groups, all together, and a group left empty goes (01)
abbrev pub RemoveNodes : Set → Published → Published
RemoveNodes nis X = record { grs = X.grs; fgs = λ ni. cond (nis ni) nobody (X.fgs ni ∖ nis); fhs = X.fhs ∖ nis; nds = X.nds }

-- the pid of n in s, for its member ni; zero is NoGroup, for which nothing is found: the namespaces of free groups are empty (01)
abbrev pub FindName : ℕ → ℕ → ℕ → Map SGroup → Option ℕ
FindName ni s n grs = cond (eqb s 0) none (of_some none (λ g. cond (g.nodes ni) (g.namespace n) none) (grs s))

-- gs is {}, and not NoGroup
abbrev pub left_none : GrNames → Bool
left_none NoGroup = false
left_none (Names gs) = not (any group_names gs)

-- nds' of NewFreeNodes: (ni, nt, cs, NoGroup) for each (ni, nt, cs, {})
abbrev pub NewlyFree : Map Node → Map Node
NewlyFree nds ni = of_some none (λ nd. cond (left_none nd.gr_names) (some (with_gr_names NoGroup nd)) none) (nds ni)

-- the hidden ones of nds are free hidden groups too
abbrev pub AddFreeHiddenGroup : Set → Map Node → Set
AddFreeHiddenGroup fhs nds = fhs ∪ those (λ nd. nd.hidden) nds

-- the nodes of the free groups that have one of css: nis1 of MergeFreeNormalGroups
abbrev pub FindFreeNormalGroups : Set → FreeGroups → Set
FindFreeNormalGroups css fgs ni = any node_limit (λ ni'. css ni' && fgs ni' ni)

-- nis and the free groups that have one of css become one, all connected
unfoldable pub MergeFreeNormalGroups : Set → Set → Published → Published
MergeFreeNormalGroups nis css X =
    cond (not (any node_limit nis)) X
    (cond (not (any node_limit css)) (with_free (Joined nis X.fgs) X.nds X)
    (let nis'' : Set = FindFreeNormalGroups css X.fgs ∪ nis in
    with_free (Joined nis'' X.fgs) (InterConnectNodes nis'' X.nds) X))

-- the normal nodes nis of nds' become free; css are their connections, and css' the free normal nodes among these
unfoldable pub AddFreeNormalGroup : Map Node → Published → Published
AddFreeNormalGroup nds' X =
    let nis : Set = those (λ nd. not nd.hidden) nds' in
    let css : Set = λ ni. any node_limit (those (λ nd. not nd.hidden && nd.connections ni) nds') in
    let css' : Set = λ ni. IsFreeNormalNode ni X.fgs && css ni in
    MergeFreeNormalGroups nis css' X

-- the nodes nds' that have left their last s_group become free; in nds'' they stand with NoGroup, where 000 leaves {}
unfoldable pub NewFreeNodes : Published → Published
NewFreeNodes X =
    let nds' : Map Node = NewlyFree X.nds in
    let nds : Map Node = λ ni. of_some (X.nds ni) some (nds' ni) in
    AddFreeNormalGroup nds' (record { grs = X.grs; fgs = X.fgs; fhs = AddFreeHiddenGroup X.fhs nds'; nds = nds })

-- the nodes of the s_groups of ni
abbrev pub OwnSGroupNis : ℕ → Map SGroup → Set
OwnSGroupNis ni grs = (λ ni'. SameSGroup ni ni' grs) ∪ only ni

-- the nodes of the groups of ni
abbrev pub OwnGroupNis : ℕ → Published → Set
OwnGroupNis ni X =
    cond (IsFreeNormalNode ni X.fgs) (X.fgs ni)
    (cond (IsFreeHiddenNode ni X.fhs) (only ni) (OwnSGroupNis ni X.grs))

-- {(s, n) | (n, p) ∈ ns}
abbrev pub OutputNs : ℕ → Namespace → ℕ → Set
OutputNs s ns t n = eqb s t && held (ns n)

-- {(s, {ni} ⊕ nis)}, the s_groups of ni
abbrev pub OutputOwnSGroups : ℕ → Map SGroup → Map Set
OutputOwnSGroups ni grs s = of_some none (λ g. cond (g.nodes ni) (some g.nodes) none) (grs s)

-- ---- 5.2.1, transitions

-- what a command answers
pub data Value : Type 0 where
  True False Error Undefined : Value
  Pid : ℕ → Value
  Grp : ℕ → Set → Value  -- (s, nis)
  Nis : Set → Value  -- nis
  Nss : (ℕ → Set) → Value  -- nss: {(s, n)}
  Snis : Map Set → Value  -- snis: {(s, nis)}

-- (state', value)
pub record Step : Type 0 where
  pub state : Published
  pub value : Value

-- the value v, and the state X
abbrev pub gives : Value → Published → Step
gives v X = record { state = X; value = v }

-- the rule k of {(s, {ni} ⊕ nis, ns)} ⊕ grs' ≡ grs; where there is no such s_group, v, and nothing changes
abbrev pub as_member : ℕ → ℕ → Value → Published → (SGroup → Step) → Step
as_member ni s v X k = of_some (gives v X) (λ g. cond (g.nodes ni) (k g) (gives v X)) (X.grs s)

-- {(s, nis, ns)} ⊕ grs'
abbrev pub with_group : ℕ → Set → Namespace → Published → Published
with_group s nis ns X =
    record { grs = with_at s (record { nodes = nis; namespace = ns }) X.grs; fgs = X.fgs; fhs = X.fhs; nds = X.nds }

-- {(s, all, ns)} ⊕ grs', all connected; nis of them join it, and leave the free groups
abbrev pub joining : ℕ → Set → Set → Namespace → Published → Published
joining s nis all ns X =
    with_group s all ns (RemoveNodes nis (with_free X.fgs (AddSGroup s nis (InterConnectNodes all X.nds)) X))

-- the s_groups are grs; the nodes of nis leave s, and those in no s_group become free
abbrev pub leaving : ℕ → Set → Map SGroup → Published → Published
leaving s nis grs X = NewFreeNodes (record { grs = grs; fgs = X.fgs; fhs = X.fhs; nds = RemoveSGroup s nis X.nds })

-- (_, p) ∈ ns
abbrev pub has_pid : ℕ → Namespace → Bool
has_pid p ns = any half_word (λ n. of_some false (λ q. eqb q p) (ns n))

-- ns less the names whose pid lives on a node of nis
abbrev pub less_hosted : Set → Namespace → Namespace
less_hosted nis ns n = of_some none (λ p. cond (nis (host p)) none (some p)) (ns n)

-- the s_groups when the nodes of nis have left g, which is s: the members that leave take along the names whose pid lives on one of them (02, request 2),
-- and an s_group left empty goes (01)
abbrev pub less_members : ℕ → Set → SGroup → Map SGroup → Map SGroup
less_members s nis g grs =
    cond (any node_limit (g.nodes ∖ nis))
    (with_at s (record { nodes = g.nodes ∖ nis; namespace = less_hosted (g.nodes ∩ nis) g.namespace }) grs)
    (less_at s grs)

-- what whereis_name/2 finds for ni
abbrev pub found_by : ℕ → ℕ → ℕ → Map SGroup → Option ℕ
found_by ni s n grs = cond (IsSGroupSNode ni s grs) (FindName ni s n grs) none

-- send/2 to the pid that a lookup found; its Undefined stands (01)
abbrev pub then_send : ℕ → Option ℕ → Published → Step
then_send ni found X = of_some (gives Undefined X) (λ p. gives (Pid p) (AddConnections ni (host p) X)) found

-- the fifteen; who is not a member gets False from unregister_name, and Error from delete_s_group and remove_nodes, where 000 has False (01)
unfoldable pub transition : Command → ℕ → Published → Step
transition (RegisterName s n p) ni X =
    as_member ni s False X λ g.
    cond (not (held (g.namespace n)) && not (has_pid p g.namespace))
    (gives True (with_group s g.nodes (with_at n p g.namespace) X))
    (gives False X)
transition (ReRegisterName s n p) ni X =
    as_member ni s False X λ g.
    cond (not (has_pid p g.namespace))
    (gives True (with_group s g.nodes (with_at n p (less_at n g.namespace)) X))
    (gives False X)
transition (UnregisterName s n) ni X =
    as_member ni s False X λ g.
    cond (held (g.namespace n)) (gives True (with_group s g.nodes (less_at n g.namespace) X)) (gives True X)
transition (RegisteredNames s) ni X =
    as_member ni s (Nss (λ t. nobody)) X λ g. gives (Nss (OutputNs s g.namespace)) X
transition (WhereisName s n) ni X = gives (of_some Undefined Pid (found_by ni s n X.grs)) X
transition (WhereisNameAt ni' s n) ni X = gives (of_some Undefined Pid (FindName ni' s n X.grs)) (AddConnections ni ni' X)
transition (Send p) ni X = gives (Pid p) (AddConnections ni (host p) X)
transition (SendName s n) ni X = then_send ni (found_by ni s n X.grs) X
transition (SendAt ni' s n) ni X = then_send ni (FindName ni' s n X.grs) (AddConnections ni ni' X)
transition (NewSGroup s set) ni X =
    cond (has set ni) (gives (Grp s (has set)) (joining s (has set) (has set) (λ n. none) X)) (gives Error X)
transition (AddNodes s set) ni X =
    as_member ni s Error X λ g. gives (Grp s (has set)) (joining s (has set) (g.nodes ∪ has set) g.namespace X)
transition (DeleteSGroup s) ni X = as_member ni s Error X λ g. gives True (leaving s g.nodes (less_at s X.grs) X)
-- the caller may leave too (01)
transition (Command.RemoveNodes s set) ni X =
    as_member ni s Error X λ g. gives True (leaving s (has set) (less_members s (has set) g X.grs) X)
transition OwnNodes ni X = gives (Nis (OwnGroupNis ni X)) X
transition OwnSGroups ni X = gives (Snis (cond (IsSGroupNode ni X.grs) (OutputOwnSGroups ni X.grs) (λ s. none))) X

-- ---- opening (01)

-- N nodes, those of nis hidden: nobody is grouped or connected, and every normal node is a free group by itself
abbrev pub Opening : ℕ → Set → Published
Opening N nis =
    record {
      grs = λ s. none;
      fgs = λ ni. cond (ltb ni N && not (nis ni)) (only ni) nobody;
      fhs = nis;
      nds = λ ni. cond (ltb ni N) (some (record { hidden = nis ni; connections = nobody; gr_names = NoGroup })) none;
    }
