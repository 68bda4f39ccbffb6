-- Connections are never taken away: what a state holds before a step it holds after, and so do the words of a table. Assumes nothing.
use Rattle.std.specs.Prelude.{◌≡◌, refl, Bool, true, false, not, ◌&&◌, ◌||◌, cond, List, [], ℕ, ◌+◌, ◌≤◌, ◌<◌, eqb, leb, ltb, length, get_or}
use Rattle.std.proofs.Common.{ap, ◌∙◌, ⊎_elim, arith}
use Rattle.std.proofs.Math.Option.{Option, none, some}
use borrow.Author.Tests.{leb-false}
use Rattle.nodes.specs.Sets.{node_limit, has, empty, single, union, inter, diff, beyond}
use Rattle.nodes.specs.Bools.{by_test}
use Rattle.entries.specs.Entries.{host, lookup, holds_pid}
use Rattle.semantics.specs.Sizes.{group_limit, names_per_group, group_names, links_at}
use Rattle.semantics.specs.State.{Group, State, with_groups, with_links, with_free, free_of, find, put, add_group, drop_group}
use Rattle.commands.specs.declared.Command.{Command}
use Rattle.commands.specs.declared.Command.TheVariants.{RegisterName, ReRegisterName, UnregisterName, RegisteredNames, WhereisName, WhereisNameAt, Send, SendName, SendAt, NewSGroup, AddNodes, RemoveNodes, DeleteSGroup, OwnNodes, OwnSGroups}
use Rattle.semantics.specs.GroupCommands.{GroupCommand, register_name, re_register_name, unregister_name, whereis_name, registered_names, add_nodes, new_s_group}
use Rattle.semantics.specs.Ranges.{held, bad_group}
use Rattle.semantics.specs.Steps.{meet, interconnect, leave_free, one_free_group, merge, connect, lot, touched, become_free, Effect, keep, hold, join, create, Outcome, Result, target, as_member, full, name_words, inside, outcome, apply, group_step, ask, send_on, asking, for_member, kept_names, left_in, rule, step}
use Rattle.semantics.specs.Table.{state_of}
use Rattle.semantics.specs.Test.{sound}
use Rattle.semantics.specs.Call.{call}
use Rattle.semantics.specs.Members.{length-interconnect, length-leave_free, length-one_free_group, getD-mapi, has_meet}
use Rattle.semantics.specs.Groups.{length-put, length-add_group, length-drop_group}
use Rattle.semantics.proofs.StateTest.{has-place}
use Rattle.semantics.specs.WordsOfState.{Sized, Laid, laid, links-word}
use Rattle.semantics.proofs.Agree.{test-laid}
use Rattle.semantics.proofs.Calls.{call-sound, call-unsound}
use Rattle.answers.specs.declared.Value.{Value}

-- ---- lists of connections

-- every connection of l is one of k
abbrev pub Grows : List ℕ → List ℕ → Type 0
Grows l k = (a b : ℕ) → has (get_or l a 0) b ≡ true → has (get_or k a 0) b ≡ true

-- nodes that meet keep their connections, whatever the set and the list
pub interconnect-grows : (m : ℕ) (l : List ℕ) → Grows l (interconnect m l)
unfolding interconnect
interconnect-grows m l a b h =
    ap (λ (w : ℕ). has w b) (getD-mapi (meet m) 0 a l (has-place l a b h)) ∙ has_meet m (0 + a) (get_or l a 0) b ∙ rw h

-- ---- states

-- the next state has every connection of st, and its lists fit their sections where those of st do
pub record Grown (st next : State) : Type 0 where
  pub more : Grows st.links next.links
  pub fits : Sized st → Sized next

-- nothing changed
same : {st : State} → Grown st st
same = record { more = λ a b h. h; fits = λ h. h }

-- one change after another
infixl 20 ◌then◌
◌then◌ : {x y z : State} → Grown x y → Grown y z → Grown x z
p then q = record { more = λ a b h. q.more a b (p.more a b h); fits = λ h. q.fits (p.fits h) }

-- the nodes of m met
met : (m : ℕ) (st : State) → Grown st (with_links (interconnect m st.links) st)
met m st = record {
  more = interconnect-grows m st.links;
  fits = λ h. record { groups_few = h.groups_few; links_long = length-interconnect m st.links ∙ h.links_long; free_long = h.free_long };
}

-- other free groups
freed : (fs : List ℕ) (st : State) → length fs ≡ length st.free → Grown st (with_free fs st)
freed fs st e = record { more = λ a b h. h; fits = λ h. record { groups_few = h.groups_few; links_long = h.links_long; free_long = e ∙ h.free_long } }

-- other s_groups, no more than fit
grouped : (gs : List Group) (st : State) → (length st.groups ≤ group_limit → length gs ≤ group_limit) → Grown st (with_groups gs st)
grouped gs st f = record { more = λ a b h. h; fits = λ h. record { groups_few = f h.groups_few; links_long = h.links_long; free_long = h.free_long } }

-- nodes that become one free group keep their connections
pub merge-grows : (m : ℕ) (st : State) → Grown st (merge m st)
merge-grows m st = met m st then freed (one_free_group m st.free) _ (length-one_free_group m st.free)

-- a state chosen by a test
either : {st : State} (x : Bool) (a b : State) → Grown st a → Grown st b → Grown st (cond x a b)
either true a b p q = p
either false a b p q = q

-- two nodes that are connected keep the connections of all
pub connect-grows : (i j : ℕ) (st : State) → Grown st (connect i j st)
unfolding connect
connect-grows i j st =
    either (eqb i j) _ _ same
    (either (empty (free_of i st) || empty (free_of j st)) _ _ (met (union (single i) (single j)) st) (merge-grows (union (free_of i st) (free_of j st)) st))

-- nodes that become free keep their connections
pub become_free-grows : (gone : ℕ) (gs : List Group) (st : State) → length gs ≤ length st.groups → Grown st (become_free gone gs st)
unfolding become_free
become_free-grows gone gs st l =
    grouped gs st (λ h. omega arith) then merge-grows (union (lot gone gs st) (touched (lot gone gs st) st)) (with_groups gs st)

-- ---- what becomes of one s_group

-- there is room among G s_groups for what becomes of one
abbrev pub Space : ℕ → Effect → Type 0
Space G keep = Unit {0}
Space G (hold m ns) = Unit {0}
Space G (join set m ns) = Unit {0}
Space G (create set) = G < group_limit

-- what becomes of an s_group takes no connection away
pub apply-grows : (s : ℕ) (e : Effect) (st : State) → Space (length st.groups) e → Grown st (apply s e st)
unfolding apply
apply-grows s keep st r = same
apply-grows s (hold m ns) st r = grouped (put s m ns st.groups) st (λ h. omega (arith, length-put s m ns st.groups))
apply-grows s (join set m ns) st r =
    (met m st then freed (leave_free set st.free) _ (length-leave_free set st.free))
    then grouped (put s m ns st.groups) _ (λ h. omega (arith, length-put s m ns st.groups))
apply-grows s (create set) st r =
    let g : Group = record { name = s; members = set; names = [] } in
    (met set st then freed (leave_free set st.free) _ (length-leave_free set st.free))
    then grouped (add_group g st.groups) _ (λ h. omega (arith, length-add_group g st.groups))

module _ (G : ℕ) where
  -- an outcome chosen by a test
  space-if : (x : Bool) (a b : Outcome) → Space G a.effect → (x ≡ false → Space G b.effect) → Space G (cond x a b).effect
  space-if true a b p q = p
  space-if false a b p q = q refl

  -- an outcome for a member
  space-member : (i : ℕ) (v : Value) (o : Option Group) (k : Group → Outcome) → ((g : Group) → Space G (k g).effect) → Space G (as_member i v o k).effect
  space-member i v none k f = tt
  space-member i v (some g) k f = space-if (has g.members i) _ _ (f g) (λ x. tt)

  -- an s_group is made only where there is room for it
  inside-space : (room N i : ℕ) (c : GroupCommand) (o : Option Group) → Space G (inside room N G i c o).effect
  unfolding inside
  inside-space room N i (register_name s n p) o =
      space-if (eqb n 0) _ _ tt λ x. space-if (leb N (host p)) _ _ tt λ x. space-member i _ o _ λ g.
      space-if (held (lookup n g.names)) _ _ tt λ x. space-if (holds_pid p g.names) _ _ tt λ x. space-if (full g.names) _ _ tt λ x. tt
  inside-space room N i (re_register_name s n p) o =
      space-if (eqb n 0) _ _ tt λ x. space-if (leb N (host p)) _ _ tt λ x. space-member i _ o _ λ g.
      space-if (holds_pid p g.names) _ _ tt λ x. space-if (not (held (lookup n g.names)) && full g.names) _ _ tt λ x. tt
  inside-space room N i (unregister_name s n) o =
      space-if (eqb n 0) _ _ tt λ x. space-member i _ o _ λ g. space-if (held (lookup n g.names)) _ _ tt λ x. tt
  inside-space room N i (whereis_name s n) o = space-if (eqb n 0) _ _ tt λ x. space-member i _ o _ λ g. tt
  inside-space room N i (registered_names s) o = space-member i _ o _ λ g. space-if (ltb room (length (name_words s g.names))) _ _ tt λ x. tt
  inside-space room N i (add_nodes s set) o = space-if (beyond set N) _ _ tt λ x. space-member i _ o _ λ g. tt
  inside-space room N i (new_s_group s set) o =
      space-if (beyond set N) _ _ tt λ x. space-if (not (has set i)) _ _ tt λ x. space-if (held o) _ _ tt λ x.
      space-if (leb group_limit G) _ _ tt λ x. leb-false group_limit G x

-- a command that names one s_group takes no connection away
pub group_step-grows : (room i : ℕ) (c : GroupCommand) (st : State) → Grown st (group_step room i c st).next
unfolding group_step outcome
group_step-grows room i c st =
    apply-grows (target c) _ st
    (space-if G (leb st.size i) _ _ tt λ x. space-if G (bad_group (target c)) _ _ tt λ y. inside-space G room st.size i c (find (target c) st.groups))
  where
    G : ℕ
    G = length st.groups

-- ---- all fifteen

-- a result chosen by a test
result-if : {st : State} (x : Bool) (a b : Result) → Grown st a.next → Grown st b.next → Grown st (cond x a b).next
result-if true a b p q = p
result-if false a b p q = q

-- a result for a member
result-member : {st : State} (i : ℕ) (o : Option Group) (k : Group → Result) → ((g : Group) → Grown st (k g).next) → Grown st (for_member i o st k).next
result-member i none k f = same
result-member i (some g) k f = result-if (has g.members i) _ _ (f g) same

-- a result after the tests of a lookup
result-asking : (j s n : ℕ) (st : State) (k : Result) → Grown st k.next → Grown st (asking j s n st k).next
result-asking j s n st k h = result-if (leb group_names s) _ _ same (result-if (eqb n 0) _ _ same (result-if (leb st.size j) _ _ same h))

-- a send to a pid, where one is found
send_on-grows : (i : ℕ) (found : Option ℕ) (st : State) → Grown st (send_on i found st)
send_on-grows i none st = same
send_on-grows i (some p) st = connect-grows i (host p) st

-- no s_group comes when members leave one
left_in-few : (s set : ℕ) (g : Group) (gs : List Group) → length (left_in s set g gs) ≤ length gs
left_in-few s set g gs = go (empty (diff g.members set))
  where
    go : (x : Bool) → length (cond x (drop_group s gs) (put s (diff g.members set) (kept_names set g) gs)) ≤ length gs
    go true = length-drop_group s gs
    go false = omega (arith, length-put s (diff g.members set) (kept_names set g) gs)

-- a rule takes no connection away
rule-grows : (room i : ℕ) (c : Command) (st : State) → Grown st (rule room i c st).next
unfolding rule
rule-grows room i (RegisterName s n p) st = group_step-grows room i (register_name s n p) st
rule-grows room i (ReRegisterName s n p) st = group_step-grows room i (re_register_name s n p) st
rule-grows room i (UnregisterName s n) st = group_step-grows room i (unregister_name s n) st
rule-grows room i (RegisteredNames s) st = group_step-grows room i (registered_names s) st
rule-grows room i (WhereisName s n) st = group_step-grows room i (whereis_name s n) st
rule-grows room i (NewSGroup s set) st = group_step-grows room i (new_s_group s set) st
rule-grows room i (AddNodes s set) st = group_step-grows room i (add_nodes s set) st
rule-grows room i (WhereisNameAt j s n) st = result-asking j s n st _ (connect-grows i j st)
rule-grows room i (SendAt j s n) st = result-asking j s n st _ (connect-grows i j st then send_on-grows i (ask j s n st).found (connect i j st))
rule-grows room i (Send p) st = result-if (leb st.size (host p)) _ _ same (connect-grows i (host p) st)
rule-grows room i (SendName s n) st = result-if (bad_group s) _ _ same (result-if (eqb n 0) _ _ same (send_on-grows i (ask i s n st).found st))
rule-grows room i (RemoveNodes s set) st =
    result-if (bad_group s) _ _ same (result-if (beyond set st.size) _ _ same (result-member i (find s st.groups) _ λ g.
    become_free-grows (inter g.members set) _ st (left_in-few s set g st.groups)))
rule-grows room i (DeleteSGroup s) st =
    result-if (bad_group s) _ _ same (result-member i (find s st.groups) _ λ g.
    become_free-grows g.members (drop_group s st.groups) st (length-drop_group s st.groups))
rule-grows room i OwnNodes st = same
rule-grows room i OwnSGroups st = same

-- a step takes no connection away, and where the lists of a state fit their sections, those of the next do
pub step-grows : (room i : ℕ) (c : Command) (st : State) → Grown st (step room i c st).next
unfolding step
step-grows room i c st = result-if (leb st.size i) _ _ same (rule-grows room i c st)

-- Connections are never taken away: a step of any command by any node leaves every connection of any state
pub links-grow : (room i : ℕ) (c : Command) (st : State) (a b : ℕ) → has (get_or st.links a 0) b ≡ true → has (get_or (step room i c st).next.links a 0) b ≡ true
links-grow room i c st = (step-grows room i c st).more

-- ---- tables

-- A connection that the words hold is held by the words that a call leaves, whatever the call and the run
pub calls-grow : (room i : ℕ) (c : Command) (t : List ℕ) (a b : ℕ) → a < node_limit
    → has (get_or t (links_at + a) 0) b ≡ true → has (get_or (call room i c t).table (links_at + a) 0) b ≡ true
calls-grow room i c t a b l h =
    ⊎_elim
    (λ (e : sound names_per_group t ≡ true).
    let st : State = state_of names_per_group t in
    let before : Laid names_per_group st t = test-laid names_per_group t e in
    let after = laid names_per_group (step room i c st).next ((step-grows room i c st).fits before.sized) in
    rw (call-sound room i c t e, links-word after a l) (links-grow room i c st a b (rw (links-word before a l) at h)))
    (λ (e : sound names_per_group t ≡ false). rw (call-unsound room i c t e) h)
    (by_test (sound names_per_group t))
