-- A refused call has an empty list and leaves every word of the table, but for the connection that a lookup or send by another node makes; a run
-- that is no sound table is refused. Assumes nothing.
use Rattle.std.specs.Prelude.{◌≡◌, refl, ◌≢◌, Bool, true, false, not, ◌&&◌, cond, List, [], ℕ, ◌<◌, eqb, leb, ltb, length}
use Rattle.std.proofs.Common.{sym, ◌∙◌, ⊎_elim, true≢false, eq-eqb, ne_eqb, leb-false}
use Rattle.std.proofs.Math.Path.{ap}
use Rattle.std.proofs.lemmas.Bool.{false≢true}
use Rattle.std.proofs.Math.Option.{Option, none, some}
use Rattle.nodes.specs.Sets.{has, beyond}
use Rattle.nodes.specs.Bools.{by_test}
use Rattle.entries.specs.Entries.{lookup, holds_pid, host}
use Rattle.answers.specs.Answers.{refuses, after_inputs, Refused}
use Rattle.semantics.specs.Sizes.{group_limit, group_names, names_per_group, table_words}
use Rattle.semantics.specs.State.{Group, State, find}
use Rattle.commands.specs.declared.Command.{Command}
use Rattle.commands.specs.declared.Command.TheVariants.{RegisterName, ReRegisterName, UnregisterName, RegisteredNames, WhereisName, WhereisNameAt, Send, SendName, SendAt, NewSGroup, AddNodes, RemoveNodes, DeleteSGroup, OwnNodes, OwnSGroups}
use Rattle.semantics.specs.GroupCommands.{GroupCommand, register_name, re_register_name, unregister_name, whereis_name, registered_names, add_nodes, new_s_group}
use Rattle.semantics.specs.Asks.{Asks, by_lookup, by_send, AsksNone}
use Rattle.semantics.specs.Ranges.{bad_group, held}
use Rattle.semantics.specs.Steps.{Outcome, Effect, keep, Result, Looked, error, as_member, for_member, full, name_words, own_list, listed, looked, look_in, ask, tell, send_on, asking, connect, inside, outcome, apply, target, group_step, rule, step}
use Rattle.semantics.proofs.Lookups.{beside-refuses}
use Rattle.semantics.specs.Table.{layout, state_of}
use Rattle.semantics.specs.Soundness.{Sound}
use Rattle.semantics.specs.Test.{sound}
use Rattle.semantics.proofs.Agree.{test-regular, sound-iff}
use Rattle.semantics.specs.Call.{refused, call, opening, why}
use Rattle.semantics.proofs.Calls.{call-sound, call-unsound}
use Rattle.answers.specs.declared.Value.{Value}
use Rattle.answers.specs.declared.Reason.{Reason}
use Rattle.answers.specs.declared.Reason.TheVariants.{TableLength, Unsound}

-- ---- commands that name one s_group

-- where it is refused, nothing becomes of the s_group, and the list is empty
abbrev IsQuiet : Outcome → Type 0
IsQuiet o = Refused o.answer → (o.effect ≡ keep) × (o.list ≡ [])

q-if : (x : Bool) (a b : Outcome) → IsQuiet a → IsQuiet b → IsQuiet (cond x a b)
q-if true a b p q = p
q-if false a b p q = q

q-member : (i : ℕ) (v : Value) (found : Option Group) (k : Group → Outcome) → ((g : Group) → IsQuiet (k g)) → IsQuiet (as_member i v found k)
q-member i v none k f = λ n. (refl, refl)
q-member i v (some g) k f = q-if (has g.members i) _ _ (f g) (λ n. (refl, refl))

q-listed : (room : ℕ) (ws : List ℕ) → IsQuiet (listed room ws)
q-listed room ws = q-if (ltb room (length ws)) _ _ (λ x. (refl, refl)) (λ x. absurd (false≢true x))

inside-quiet : (room N G i : ℕ) (c : GroupCommand) (o : Option Group) → IsQuiet (inside room N G i c o)
unfolding inside
inside-quiet room N G i (register_name s n p) o =
    q-if (eqb n 0) _ _ (λ x. (refl, refl)) (q-if (leb N (host p)) _ _ (λ x. (refl, refl)) (q-member i _ o _ (λ g.
    q-if (held (lookup n g.names)) _ _ (λ x. (refl, refl)) (q-if (holds_pid p g.names) _ _ (λ x. (refl, refl)) (q-if (full g.names) _ _ (λ x. (refl, refl)) (λ x. absurd (false≢true x)))))))
inside-quiet room N G i (re_register_name s n p) o =
    q-if (eqb n 0) _ _ (λ x. (refl, refl)) (q-if (leb N (host p)) _ _ (λ x. (refl, refl)) (q-member i _ o _ (λ g.
    q-if (holds_pid p g.names) _ _ (λ x. (refl, refl)) (q-if (not (held (lookup n g.names)) && full g.names) _ _ (λ x. (refl, refl)) (λ x. absurd (false≢true x))))))
inside-quiet room N G i (unregister_name s n) o =
    q-if (eqb n 0) _ _ (λ x. (refl, refl)) (q-member i _ o _ (λ g. q-if (held (lookup n g.names)) _ _ (λ x. absurd (false≢true x)) (λ x. (refl, refl))))
inside-quiet room N G i (whereis_name s n) o = q-if (eqb n 0) _ _ (λ x. (refl, refl)) (q-member i _ o _ (λ g x. (refl, refl)))
inside-quiet room N G i (registered_names s) o = q-member i _ o _ (λ g. q-listed room (name_words s g.names))
inside-quiet room N G i (add_nodes s set) o = q-if (beyond set N) _ _ (λ x. (refl, refl)) (q-member i _ o _ (λ g x. absurd (false≢true x)))
inside-quiet room N G i (new_s_group s set) o =
    q-if (beyond set N) _ _ (λ x. (refl, refl)) (q-if (not (has set i)) _ _ (λ x. (refl, refl)) (q-if (held o) _ _ (λ x. (refl, refl)) (q-if (leb group_limit G) _ _ (λ x. (refl, refl)) (λ x. absurd (false≢true x)))))

-- ---- all commands

-- where it is refused, the list is empty, and the state is as it was if Q
abbrev IsStill : Type 0 → State → Result → Type 0
IsStill Q st r = Refused r.answer → (r.list ≡ []) × (Q → r.next ≡ st)

-- where its reason refuses, a lookup found nothing, and the reason comes after the inputs
abbrev Silent : Looked → Type 0
Silent l = refuses l.reason ≡ true → (l.found ≡ none) × (after_inputs l.reason ≡ true)

l-if : (x : Bool) (a b : Looked) → Silent a → Silent b → Silent (cond x a b)
l-if true a b p q = p
l-if false a b p q = q

l-found : (m : ℕ) (o : Option ℕ) → Silent (looked m o)
l-found m none = λ n. (refl, refl)
l-found m (some p) = λ n. absurd (false≢true (sym (beside-refuses (has m (host p))) ∙ n))

l-in : (i n : ℕ) (o : Option Group) → Silent (look_in i n o)
l-in i n none = λ x. (refl, refl)
l-in i n (some g) = l-if (has g.members i) _ _ (l-found g.members (lookup n g.names)) (λ x. (refl, refl))

l-ask : (i s n : ℕ) (st : State) → Silent (ask i s n st)
l-ask i s n st = l-if (eqb s 0) _ _ (λ x. (refl, refl)) (l-in i n (find s st.groups))

module _ (Q : Type 0) (st : State) where
  s_if : (x : Bool) (a b : Result) → IsStill Q st a → IsStill Q st b → IsStill Q st (cond x a b)
  s_if true a b p q = p
  s_if false a b p q = q

  -- a test that refuses
  s-test : (x : Bool) (r : Reason) (b : Result) → IsStill Q st b → IsStill Q st (cond x (error r st) b)
  s-test x r b q = s_if x _ _ (λ n. (refl, λ e. refl)) q

  s-member : (i : ℕ) (o : Option Group) (k : Group → Result) → ((g : Group) → IsStill Q st (k g)) → IsStill Q st (for_member i o st k)
  s-member i none k f = λ x. (refl, λ e. refl)
  s-member i (some g) k f = s_if (has g.members i) _ _ (f g) (λ x. (refl, λ e. refl))

  s-asking : (j s n : ℕ) (k : Result) → IsStill Q st k → IsStill Q st (asking j s n st k)
  s-asking j s n k h = s-test (leb group_names s) _ _ (s-test (eqb n 0) _ _ (s-test (leb st.size j) _ _ h))

  s-group : (room i : ℕ) (c : GroupCommand) → IsStill Q st (group_step room i c st)
  unfolding group_step outcome apply
  s-group room i c x =
      let q =
      q-if (leb st.size i) _ _ (λ n. (refl, refl)) (q-if (bad_group (target c)) _ _ (λ n. (refl, refl)) (inside-quiet room st.size (length st.groups) i c (find (target c) st.groups))) x in
      (q.1, λ e. ap (λ (f : Effect). apply (target c) f st) q.0)

rule-still : (room i : ℕ) (c : Command) (st : State) → IsStill (AsksNone c) st (rule room i c st)
unfolding rule
rule-still room i (RegisterName s n p) st = s-group _ st room i (register_name s n p)
rule-still room i (ReRegisterName s n p) st = s-group _ st room i (re_register_name s n p)
rule-still room i (UnregisterName s n) st = s-group _ st room i (unregister_name s n)
rule-still room i (RegisteredNames s) st = s-group _ st room i (registered_names s)
rule-still room i (WhereisName s n) st = s-group _ st room i (whereis_name s n)
rule-still room i (NewSGroup s set) st = s-group _ st room i (new_s_group s set)
rule-still room i (AddNodes s set) st = s-group _ st room i (add_nodes s set)
rule-still room i (WhereisNameAt j s n) st = s-asking _ st j s n _ (λ x. (refl, λ e. absurd (e j by_lookup)))
rule-still room i (SendAt j s n) st = s-asking _ st j s n _ (λ x. (refl, λ e. absurd (e j by_send)))
rule-still room i (Send p) st = s-test _ st (leb st.size (host p)) _ _ (λ x. absurd (false≢true x))
rule-still room i (SendName s n) st =
    s-test _ st (bad_group s) _ _ (s-test _ st (eqb n 0) _ _ (λ x. (refl, λ e. ap (λ (f : Option ℕ). send_on i f st) (l-ask i s n st x).0)))
rule-still room i (RemoveNodes s set) st =
    s-test _ st (bad_group s) _ _ (s-test _ st (beyond set st.size) _ _ (s-member _ st i (find s st.groups) _ (λ g x. absurd (false≢true x))))
rule-still room i (DeleteSGroup s) st = s-test _ st (bad_group s) _ _ (s-member _ st i (find s st.groups) _ (λ g x. absurd (false≢true x)))
rule-still room i OwnNodes st = λ x. (refl, λ e. refl)
rule-still room i OwnSGroups st = λ x. ((q-listed room (own_list i st.groups) x).1, λ e. refl)

step-still : (room i : ℕ) (c : Command) (st : State) → IsStill (AsksNone c) st (step room i c st)
unfolding step
step-still room i c st = s-test _ st (leb st.size i) _ _ (rule-still room i c st)

-- a refused call has an empty list, so that the run for a list keeps every word
pub refused-lists : (room i : ℕ) (c : Command) (t : List ℕ) → Refused (call room i c t).answer → (call room i c t).list ≡ []
refused-lists room i c t n =
    ⊎_elim
    (λ (p : sound names_per_group t ≡ true). let q = call-sound room i c t p in rw q (step-still room i c (state_of names_per_group t) (rw q at n)).0)
    (λ (p : sound names_per_group t ≡ false). rw (call-unsound room i c t p))
    (by_test (sound names_per_group t))

-- a refused call that asks no other node leaves every word
pub refused-keeps : (room i : ℕ) (c : Command) (t : List ℕ) → AsksNone c → Refused (call room i c t).answer → (call room i c t).table ≡ t
refused-keeps room i c t e n =
    ⊎_elim
    (λ (p : sound names_per_group t ≡ true).
    let q = call-sound room i c t p in
    rw q (ap (layout names_per_group) ((step-still room i c (state_of names_per_group t) (rw q at n)).1 e) ∙ (test-regular names_per_group t p).1))
    (λ (p : sound names_per_group t ≡ false). rw (call-unsound room i c t p))
    (by_test (sound names_per_group t))

-- ---- lookups and sends by another node

-- a refusal by the input tests changes nothing; after them both nodes are on the roster, the caller i is connected with the asked j, and nothing more
abbrev linked : ℕ → ℕ → State → Result → Type 0
linked i j st r =
    Refused r.answer → (after_inputs r.answer.reason ≡ false → r.next ≡ st)
    × (after_inputs r.answer.reason ≡ true → (r.next ≡ connect i j st) × (i < st.size) × (j < st.size))

-- a test of the inputs
k-test : (i j : ℕ) (st : State) (x : Bool) (r : Reason) (b : Result) → after_inputs r ≡ false → (x ≡ false → linked i j st b) → linked i j st (cond x (error r st) b)
k-test i j st true r b e q = λ n. (λ a. refl, λ a. absurd (false≢true (sym e ∙ a)))
k-test i j st false r b e q = q refl

-- a lookup after the tests
k-asked : (i j s n : ℕ) (st next : State) → (refuses (ask j s n st).reason ≡ true → next ≡ connect i j st) → i < st.size → j < st.size
    → linked i j st (tell (ask j s n st) next)
k-asked i j s n st next f p q x = (λ a. absurd (true≢false (sym (l-ask j s n st x).1 ∙ a)), λ a. (f x, p, q))

step-linked : (room i j : ℕ) (c : Command) → Asks c j → (st : State) → linked i j st (step room i c st)
unfolding step rule
step-linked room i j c (by_lookup {s = s} {n = n}) st =
    k-test i j st (leb st.size i) _ _ refl λ p. k-test i j st (leb group_names s) _ _ refl λ u. k-test i j st (eqb n 0) _ _ refl λ v.
    k-test i j st (leb st.size j) _ _ refl λ q. k-asked i j s n st _ (λ x. refl) (leb-false st.size i p) (leb-false st.size j q)
step-linked room i j c (by_send {s = s} {n = n}) st =
    k-test i j st (leb st.size i) _ _ refl λ p. k-test i j st (leb group_names s) _ _ refl λ u. k-test i j st (eqb n 0) _ _ refl λ v.
    k-test i j st (leb st.size j) _ _ refl λ q.
    k-asked i j s n st _ (λ x. ap (λ (f : Option ℕ). send_on i f (connect i j st)) (l-ask j s n st x).0) (leb-false st.size i p) (leb-false st.size j q)

-- a run that is no sound table is refused before the inputs
low : (t : List ℕ) → after_inputs (why t) ≡ false
low t = go (eqb (length t) (table_words names_per_group))
  where
    go : (x : Bool) → after_inputs (cond x Unsound TableLength) ≡ false
    go true = refl
    go false = refl

-- a refused call of node i that asks the node j: by the input tests every word stays; after them the table is sound, both nodes are on its roster
-- and connected, and nothing else changes
pub refused_links : (room i j : ℕ) (c : Command) → Asks c j → (t : List ℕ) → Refused (call room i c t).answer
    → (after_inputs (call room i c t).answer.reason ≡ false → (call room i c t).table ≡ t)
    × (after_inputs (call room i c t).answer.reason ≡ true
    → (sound names_per_group t ≡ true) × (i < (state_of names_per_group t).size) × (j < (state_of names_per_group t).size)
    × ((call room i c t).table ≡ layout names_per_group (connect i j (state_of names_per_group t))))
refused_links room i j c k t n =
    ⊎_elim
    (λ (p : sound names_per_group t ≡ true).
    let q = call-sound room i c t p in
    let w = step-linked room i j c k (state_of names_per_group t) (rw q at n) in
    rw q (
      λ a. ap (layout names_per_group) (w.0 a) ∙ (test-regular names_per_group t p).1,
      λ a. (p, (w.1 a).1, (w.1 a).2, ap (layout names_per_group) (w.1 a).0),
    ))
    (λ (p : sound names_per_group t ≡ false). rw (call-unsound room i c t p) (λ a. refl, λ a. absurd (false≢true (sym (low t) ∙ a))))
    (by_test (sound names_per_group t))

-- ---- runs that are no sound table

-- a run of another length, for every command and for opening: Error 1, an empty list, every word as it was
pub wrong_length : (t : List ℕ) → length t ≢ table_words names_per_group
    → ((room i : ℕ) (c : Command) → call room i c t ≡ refused TableLength t) × ((N hidden : ℕ) → opening N hidden t ≡ refused TableLength t)
unfolding call opening
wrong_length t n = (λ room i c. rw (ne_eqb (length t) (table_words names_per_group) n), λ N hidden. rw (ne_eqb (length t) (table_words names_per_group) n))

-- a run of a table's length that is not sound, for every command: Error 3, an empty list, every word as it was
pub wrong-words : (t : List ℕ) → length t ≡ table_words names_per_group → (Sound names_per_group t → ⊥)
    → (room i : ℕ) (c : Command) → call room i c t ≡ refused Unsound t
wrong-words t e n room i c =
    ⊎_elim
    (λ (p : sound names_per_group t ≡ true). absurd (n ((sound-iff names_per_group t).0 p)))
    (λ (p : sound names_per_group t ≡ false). call-unsound room i c t p ∙ rw (eq-eqb (length t) (table_words names_per_group) e))
    (by_test (sound names_per_group t))
