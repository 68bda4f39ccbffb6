-- What a command does to the rows of all registered names, where it is done: nothing, or one of four things. Definitions only. Assumes nothing.
use Rattle.std.proofs.Math.Option as maybe
use Rattle.std.specs.Prelude.{Bool, not, ◌&&◌, cond, List, ℕ, eqb, Option, Some, None}
use Rattle.nodes.specs.Sets.{node_limit, has, empty, roster, inter, diff}
use Rattle.entries.specs.Entries.{host, lookup}
use Rattle.commands.specs.declared.Command.{Command}
use Rattle.commands.specs.declared.Command.TheVariants.{RegisterName, ReRegisterName, UnregisterName, RegisteredNames, WhereisName, WhereisNameAt, Send, SendName, SendAt, NewSGroup, AddNodes, RemoveNodes, DeleteSGroup, OwnNodes, OwnSGroups}
use Rattle.semantics.specs.State.{Group, find}
use Rattle.indexes.specs.Index.{Row, key_of, pid_of, group_of, put_in, keep}
use Rattle.indexes.specs.declared.Update.{Update}
use Rattle.indexes.specs.declared.Update.TheVariants.{More, Less, Moved, Gone}

-- ---- rows that go

-- the row has another key
abbrev pub differs : ℕ → Row → Bool
differs k x = not (eqb x.key k)

-- the row is of another s_group, or its pid does not live on a node of the set
abbrev pub stays : ℕ → ℕ → Row → Bool
stays s set x = not (eqb (group_of x) s && has set (host (pid_of x)))

-- the rows after an update
unfoldable pub updated : Option Update → List Row → List Row
updated None xs = xs
updated (Some (More k n)) xs = put_in (record { key = k; name = n }) xs
updated (Some (Less k)) xs = keep (differs k) xs
updated (Some (Moved j k n)) xs = put_in (record { key = k; name = n }) (keep (differs j) xs)
updated (Some (Gone s set)) xs = keep (stays s set) xs

-- ---- which update

-- the pid of the name in the s_group
abbrev pub pid_in : ℕ → maybe.Option Group → maybe.Option ℕ
pid_in n maybe.none = maybe.none
pid_in n (maybe.some g) = lookup n g.names

-- a re-registration: the row of the pid that the name had moves
abbrev pub moved : ℕ → ℕ → ℕ → maybe.Option ℕ → Update
moved s n p maybe.none = More (key_of p s) n
moved s n p (maybe.some q) = Moved (key_of q s) (key_of p s) n

-- the row of the pid that the name had goes
abbrev pub taken : ℕ → maybe.Option ℕ → Option Update
taken s maybe.none = None
taken s (maybe.some q) = Some (Less (key_of q s))

-- every node
abbrev pub everywhere : ℕ
everywhere = roster node_limit

-- whose names leave when the members in the set leave the s_group: theirs, or all where none is left
abbrev pub leaving : ℕ → maybe.Option Group → ℕ
leaving set maybe.none = 0
leaving set (maybe.some g) = cond (empty (diff g.members set)) everywhere (inter g.members set)

-- what the command makes of the rows where it is done
unfoldable pub update_of : Command → List Group → Option Update
update_of (RegisterName s n p) gs = Some (More (key_of p s) n)
update_of (ReRegisterName s n p) gs = Some (moved s n p (pid_in n (find s gs)))
update_of (UnregisterName s n) gs = taken s (pid_in n (find s gs))
update_of (RegisteredNames s) gs = None
update_of (WhereisName s n) gs = None
update_of (NewSGroup s set) gs = None
update_of (AddNodes s set) gs = None
update_of (WhereisNameAt j s n) gs = None
update_of (SendAt j s n) gs = None
update_of (Send p) gs = None
update_of (SendName s n) gs = None
update_of (RemoveNodes s set) gs = Some (Gone s (leaving set (find s gs)))
update_of (DeleteSGroup s) gs = Some (Gone s everywhere)
update_of OwnNodes gs = None
update_of OwnSGroups gs = None
