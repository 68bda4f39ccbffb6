-- What a step makes of the rows of all registered names, ascending: the update of its command where it is done, and nothing otherwise.
-- Assumes nothing.
use Rattle.std.proofs.Math.Option as maybe
use Rattle.std.specs.Prelude.{◌≡◌, refl, Bool, true, false, not, ◌&&◌, ◌||◌, cond, List, [], ℕ, ◌*◌, ◌≤◌, eqb, leb, ltb, length, Option, Some, None}
use Rattle.std.proofs.Math.Path.{ap}
use Rattle.std.proofs.Common.{◌∙◌, ⊎_elim}
use Rattle.std.proofs.lemmas.Bool.{false≢true}
use Rattle.nodes.specs.Sets.{has, empty, union, inter, diff, beyond}
use Rattle.nodes.specs.Bools.{by_test}
use Rattle.entries.specs.Entries.{host, insert, remove, lookup, holds_pid}
use Rattle.entries.specs.EntryLaws.{remove_absent}
use Rattle.commands.specs.declared.Command.{Command}
use Rattle.commands.specs.declared.Command.TheVariants.{RegisterName, ReRegisterName, UnregisterName, RegisteredNames, WhereisName, WhereisNameAt, Send, SendName, SendAt, NewSGroup, AddNodes, RemoveNodes, DeleteSGroup, OwnNodes, OwnSGroups}
use Rattle.answers.specs.Answers.{number}
use Rattle.answers.specs.declared.Value.{Value}
use Rattle.semantics.specs.Sizes.{group_limit, names_per_group, group_names}
use Rattle.semantics.specs.State.{Group, State, free_of, find, put}
use Rattle.semantics.specs.GroupCommands.{GroupCommand, register_name, re_register_name, unregister_name, whereis_name, registered_names, add_nodes, new_s_group, within}
use Rattle.semantics.specs.Ranges.{held, bad_group}
use Rattle.semantics.specs.Steps.{Outcome, Result, target, as_member, full, name_words, inside, outcome, apply, settle, group_step, link, merge, connect, become_free, ask, send_on, for_member, left_in, rule, step}
use Rattle.semantics.specs.Regular.{Regular}
use Rattle.semantics.specs.Fits.{Fits}
use Rattle.semantics.specs.NamesKept.{fresh-remove}
use Rattle.semantics.proofs.StepsKeep.{keeps}
use Rattle.indexes.specs.Index.{Row, key_of, walk, put_in, sorted, keep}
use Rattle.indexes.specs.Sorting.{sorted-keep}
use Rattle.indexes.specs.WalkLaws.{length-walk-fits, walk-distinct, walk-members, walk-remove, walk-hosted, walk-drop, walk-insert, walk_more, walk-add}
use Rattle.indexes.specs.Updates.{differs, stays, everywhere, leaving, moved, taken, updated, update_of}
use Rattle.indexes.specs.declared.Update.{Update}

-- the rows of s_groups, ascending
abbrev rows_in : List Group → List Row
rows_in gs = sorted (walk gs)

-- ---- the rows after each change of the s_group s, which is g

-- rows that are kept in the walk are kept among the sorted ones
kept-rows : {st : State} → Regular names_per_group st → (p : Row → Bool) {xs : List Row} → xs ≡ keep p (walk st.groups) → sorted xs ≡ keep p (rows_in st.groups)
kept-rows {st} w p e = ap sorted e ∙ sorted-keep p (walk st.groups) (walk-distinct names_per_group st w)

module _ {st : State} (w : Regular names_per_group st) (s : ℕ) (g : Group) (f : find s st.groups ≡ maybe.some g) where
  -- the name n registered anew, with the pid p
  moved-rows : (n p : ℕ) → holds_pid p g.names ≡ false → (o : maybe.Option ℕ) → lookup n g.names ≡ o
      → rows_in (put s g.members (insert (record { name = n; pid = p }) (remove n g.names)) st.groups) ≡ updated (Some (moved s n p o)) (rows_in st.groups)
  unfolding updated
  moved-rows n p d maybe.none h = rw (remove_absent n g.names h) (walk_more w s g f g.members (record { name = n; pid = p }) d)
  moved-rows n p d (maybe.some q) h =
      walk-insert w s g f g.members (record { name = n; pid = p }) (remove n g.names) (fresh-remove n p g.names d)
      ∙ ap (put_in (record { key = key_of p s; name = n })) (kept-rows w (differs (key_of q s)) (walk-remove w s g f g.members n q h))

  -- the name n unregistered, where it is held
  taken-rows : (n : ℕ) (o : maybe.Option ℕ) → lookup n g.names ≡ o → held o ≡ true
      → rows_in (put s g.members (remove n g.names) st.groups) ≡ updated (taken s o) (rows_in st.groups)
  unfolding updated
  taken-rows n maybe.none h k = absurd (false≢true k)
  taken-rows n (maybe.some q) h k = kept-rows w (differs (key_of q s)) (walk-remove w s g f g.members n q h)

  -- the members in the set have left
  left-rows : (set : ℕ) → rows_in (left_in s set g st.groups) ≡ keep (stays s (leaving set (maybe.some g))) (rows_in st.groups)
  left-rows set =
      ⊎_elim
      (λ (t : empty (diff g.members set) ≡ true). rw t (kept-rows w (stays s everywhere) (walk-drop w s g f)))
      (λ (t : empty (diff g.members set) ≡ false).
      rw t (kept-rows w (stays s (inter g.members set)) (walk-hosted w s g f (diff g.members set) (inter g.members set))))
      (by_test (empty (diff g.members set)))

-- ---- by the cases of a rule

-- the result that a stands for has the rows after the update u where it is done, and else those of st
record Follows {A : Type 0} (result : A → Result) (st : State) (u : Option Update) (a : A) : Type 0 where
  rows : rows_in (result a).next.groups ≡ cond (eqb (number (result a).answer.reason) 0) (updated u (rows_in st.groups)) (rows_in st.groups)

by-case : {A : Type 0} {result : A → Result} {st : State} {u : Option Update} (x : Bool) {a b : A}
    → (x ≡ true → Follows result st u a) → (x ≡ false → Follows result st u b) → Follows result st u (cond x a b)
by-case true f g = f refl
by-case false f g = g refl

-- where nothing becomes of the rows it matters not whether it is done
quiet : {A : Type 0} (result : A → Result) (st : State) (a : A) → rows_in (result a).next.groups ≡ rows_in st.groups → Follows result st None a
unfolding updated
quiet result st a e = record { rows = e ∙ either (eqb (number (result a).answer.reason) 0) }
  where
    either : (x : Bool) → rows_in st.groups ≡ cond x (rows_in st.groups) (rows_in st.groups)
    either true = refl
    either false = refl

-- ---- the seven that name one s_group

-- the result of an outcome for the s_group s
abbrev settled : ℕ → State → Outcome → Result
settled s st o = settle s o st

by-member : (s i : ℕ) (st : State) (u : Option Update) (v : Value) (found : maybe.Option Group) (k : Group → Outcome)
    → ((g : Group) → found ≡ maybe.some g → Follows (settled s st) st u (k g)) → Follows (settled s st) st u (as_member i v found k)
unfolding apply
by-member s i st u v maybe.none k h = record { rows = refl }
by-member s i st u v (maybe.some g) k h = by-case (has g.members i) (λ e. h g refl) (λ e. record { rows = refl })

follows-inside : (room i : ℕ) (c : GroupCommand) {st : State} → Regular names_per_group st
    → Follows (settled (target c) st) st (update_of (within c) st.groups) (inside room st.size (length st.groups) i c (find (target c) st.groups))
unfolding inside apply update_of updated
follows-inside room i (register_name s n p) {st} w =
    by-case (eqb n 0) (λ x. record { rows = refl }) λ x.
    by-case (leb st.size (host p)) (λ y. record { rows = refl }) λ y.
    by-member s i st _ _ (find s st.groups) _ λ g f.
    by-case (held (lookup n g.names)) (λ z. record { rows = refl }) λ z.
    by-case (holds_pid p g.names) (λ t. record { rows = refl }) λ t.
    by-case (full g.names) (λ v. record { rows = refl }) λ v.
    record { rows = walk_more w s g f g.members (record { name = n; pid = p }) t }
follows-inside room i (re_register_name s n p) {st} w =
    by-case (eqb n 0) (λ x. record { rows = refl }) λ x.
    by-case (leb st.size (host p)) (λ y. record { rows = refl }) λ y.
    by-member s i st _ _ (find s st.groups) _ λ g f.
    by-case (holds_pid p g.names) (λ t. record { rows = refl }) λ t.
    by-case (not (held (lookup n g.names)) && full g.names) (λ v. record { rows = refl }) λ v.
    record { rows = rw f (moved-rows w s g f n p t (lookup n g.names) refl) }
follows-inside room i (unregister_name s n) {st} w =
    by-case (eqb n 0) (λ x. record { rows = refl }) λ x.
    by-member s i st _ _ (find s st.groups) _ λ g f.
    by-case (held (lookup n g.names))
    (λ z. record { rows = rw f (taken-rows w s g f n (lookup n g.names) refl z) })
    (λ z. record { rows = refl })
follows-inside room i (whereis_name s n) {st} w =
    by-case (eqb n 0) (λ x. record { rows = refl }) λ x.
    by-member s i st _ _ (find s st.groups) _ λ g f. quiet (settled s st) st _ refl
follows-inside room i (registered_names s) {st} w =
    by-member s i st _ _ (find s st.groups) _ λ g f.
    by-case (ltb room (length (name_words s g.names))) (λ x. record { rows = refl }) (λ x. record { rows = refl })
follows-inside room i (add_nodes s set) {st} w =
    by-case (beyond set st.size) (λ x. record { rows = refl }) λ x.
    by-member s i st _ _ (find s st.groups) _ λ g f. record { rows = ap sorted (walk-members w s g f (union g.members set)) }
follows-inside room i (new_s_group s set) {st} w =
    by-case (beyond set st.size) (λ x. record { rows = refl }) λ x.
    by-case (not (has set i)) (λ y. record { rows = refl }) λ y.
    by-case (held (find s st.groups)) (λ z. record { rows = refl }) λ z.
    by-case (leb group_limit (length st.groups)) (λ t. record { rows = refl }) λ t.
    record { rows = ap sorted (walk-add (record { name = s; members = set; names = [] }) st.groups refl) }

follows-within : (room i : ℕ) (c : GroupCommand) {st : State} → Regular names_per_group st
    → Follows (λ r. r) st (update_of (within c) st.groups) (group_step room i c st)
unfolding group_step outcome apply
follows-within room i c {st} w = record { rows = whole.rows }
  where
    whole : Follows (settled (target c) st) st (update_of (within c) st.groups) (outcome room st.size (length st.groups) i c (find (target c) st.groups))
    whole =
        by-case (leb st.size i) (λ x. record { rows = refl }) λ x.
        by-case (bad_group (target c)) (λ y. record { rows = refl }) λ y. follows-inside room i c w

-- ---- all fifteen

-- connecting two nodes leaves the s_groups
groups-connect : (a b : ℕ) (st : State) → (connect a b st).groups ≡ st.groups
unfolding connect
groups-connect a b st = go (eqb a b) (empty (free_of a st) || empty (free_of b st))
  where
    go : (x y : Bool) → (cond x st (cond y (link a b st) (merge (union (free_of a st) (free_of b st)) st))).groups ≡ st.groups
    go true y = refl
    go false true = refl
    go false false = refl

groups-sent : (i : ℕ) (found : maybe.Option ℕ) (st : State) → (send_on i found st).groups ≡ st.groups
groups-sent i maybe.none st = refl
groups-sent i (maybe.some p) st = groups-connect i (host p) st

-- a result that leaves the s_groups
quiet-result : (st : State) (r : Result) → r.next.groups ≡ st.groups → Follows (λ x. x) st None r
quiet-result st r e = quiet (λ x. x) st r (ap rows_in e)

for-one : (i : ℕ) (st : State) (u : Option Update) (found : maybe.Option Group) (k : Group → Result)
    → ((g : Group) → found ≡ maybe.some g → Follows (λ r. r) st u (k g)) → Follows (λ r. r) st u (for_member i found st k)
for-one i st u maybe.none k h = record { rows = refl }
for-one i st u (maybe.some g) k h = by-case (has g.members i) (λ e. h g refl) (λ e. record { rows = refl })

follows-rule : (room i : ℕ) (c : Command) {st : State} → Regular names_per_group st → Follows (λ r. r) st (update_of c st.groups) (rule room i c st)
unfolding rule update_of updated become_free
follows-rule room i (RegisterName s n p) w = follows-within room i (register_name s n p) w
follows-rule room i (ReRegisterName s n p) w = follows-within room i (re_register_name s n p) w
follows-rule room i (UnregisterName s n) w = follows-within room i (unregister_name s n) w
follows-rule room i (RegisteredNames s) w = follows-within room i (registered_names s) w
follows-rule room i (WhereisName s n) w = follows-within room i (whereis_name s n) w
follows-rule room i (NewSGroup s set) w = follows-within room i (new_s_group s set) w
follows-rule room i (AddNodes s set) w = follows-within room i (add_nodes s set) w
follows-rule room i (WhereisNameAt j s n) {st} w =
    by-case (leb group_names s) (λ x. record { rows = refl }) λ x.
    by-case (eqb n 0) (λ x. record { rows = refl }) λ x.
    by-case (leb st.size j) (λ x. record { rows = refl }) λ x. quiet-result st _ (groups-connect i j st)
follows-rule room i (SendAt j s n) {st} w =
    by-case (leb group_names s) (λ x. record { rows = refl }) λ x.
    by-case (eqb n 0) (λ x. record { rows = refl }) λ x.
    by-case (leb st.size j) (λ x. record { rows = refl }) λ x.
    quiet-result st _ (groups-sent i (ask j s n st).found (connect i j st) ∙ groups-connect i j st)
follows-rule room i (Send p) {st} w =
    by-case (leb st.size (host p)) (λ x. record { rows = refl }) λ x. quiet-result st _ (groups-connect i (host p) st)
follows-rule room i (SendName s n) {st} w =
    by-case (bad_group s) (λ x. record { rows = refl }) λ x.
    by-case (eqb n 0) (λ x. record { rows = refl }) λ x. quiet-result st _ (groups-sent i (ask i s n st).found st)
follows-rule room i (RemoveNodes s set) {st} w =
    by-case (bad_group s) (λ x. record { rows = refl }) λ x.
    by-case (beyond set st.size) (λ x. record { rows = refl }) λ x.
    for-one i st _ (find s st.groups) _ λ g f. record { rows = rw f (left-rows w s g f set) }
follows-rule room i (DeleteSGroup s) {st} w =
    by-case (bad_group s) (λ x. record { rows = refl }) λ x.
    for-one i st _ (find s st.groups) _ λ g f. record { rows = kept-rows w (stays s everywhere) (walk-drop w s g f) }
follows-rule room i OwnNodes {st} w = record { rows = refl }
follows-rule room i OwnSGroups {st} w = quiet-result st _ refl

-- ---- every step

pub step-rows : (room i : ℕ) (c : Command) (st : State) → Regular names_per_group st
    → sorted (walk (step room i c st).next.groups)
    ≡ cond (eqb (number (step room i c st).answer.reason) 0) (updated (update_of c st.groups) (sorted (walk st.groups))) (sorted (walk st.groups))
unfolding step
step-rows room i c st w = whole.rows
  where
    whole : Follows (λ r. r) st (update_of c st.groups) (step room i c st)
    whole = by-case (leb st.size i) (λ x. record { rows = refl }) (λ x. follows-rule room i c w)

-- they fit the index
pub step_count : (room i : ℕ) (c : Command) (st : State) → Regular names_per_group st → Fits c
    → length (walk (step room i c st).next.groups) ≤ group_limit * names_per_group
step_count room i c st w b =
    let r = keeps room i c st w b in
    length-walk-fits names_per_group (step room i c st).next.size (step room i c st).next.groups r.each r.groups_few
