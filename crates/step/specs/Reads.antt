-- Commands that only read leave every word of the table, and only lists feel the length of the run that is lent for them. Assumes nothing.
use Rattle.std.specs.Prelude.{◌≡◌, refl, Bool, true, false, not, cond, List, ℕ, eqb, leb, ltb, length}
use Rattle.std.proofs.Common.{ap, ◌∙◌, arith}
use Rattle.std.proofs.Math.Option.{Option, none, some}
use Rattle.nodes.specs.Sets.{has}
use Rattle.semantics.specs.Sizes.{names_per_group, table_words}
use Rattle.semantics.specs.State.{Group, State, find}
use Rattle.commands.specs.declared.Command.{Command}
use Rattle.commands.specs.declared.Command.TheVariants.{RegisterName, ReRegisterName, UnregisterName, RegisteredNames, WhereisName, WhereisNameAt, Send, SendName, SendAt, NewSGroup, AddNodes, RemoveNodes, DeleteSGroup, OwnNodes, OwnSGroups}
use Rattle.semantics.specs.GroupCommands.{GroupCommand, register_name, re_register_name, unregister_name, whereis_name, registered_names, add_nodes, new_s_group, within}
use Rattle.semantics.specs.Ranges.{bad_group}
use Rattle.semantics.specs.Steps.{Outcome, Effect, keep, error, listed, as_member, name_words, inside, outcome, apply, target, group_step, rule, step}
use Rattle.semantics.specs.Table.{layout, state_of}
use Rattle.semantics.specs.Test.{sound}
use Rattle.semantics.proofs.Agree.{test-regular}
use Rattle.semantics.specs.Call.{refused, written, call}
use Rattle.answers.specs.declared.Value.{Value}
use Rattle.answers.specs.declared.Reason.TheVariants.{TableLength, Unsound, CallerUnknown}
use Rattle.step.specs.Lists.{lists}

-- ---- the length of the run

-- a command without a list does not feel it
pub call-roomless : (room i : ℕ) (c : Command) (t : List ℕ) → lists c ≡ false → call room i c t ≡ call 0 i c t
unfolding call step rule group_step outcome inside
call-roomless room i (RegisterName s n p) t e = refl
call-roomless room i (ReRegisterName s n p) t e = refl
call-roomless room i (UnregisterName s n) t e = refl
call-roomless room i (WhereisName s n) t e = refl
call-roomless room i (RegisteredNames s) t e = absurd (let z : ◌≡◌ {A = ℕ} 0 1 = cc in omega arith)
call-roomless room i (AddNodes s set) t e = refl
call-roomless room i (NewSGroup s set) t e = refl
call-roomless room i (WhereisNameAt j s n) t e = refl
call-roomless room i (SendAt j s n) t e = refl
call-roomless room i (Send p) t e = refl
call-roomless room i (SendName s n) t e = refl
call-roomless room i (RemoveNodes s set) t e = refl
call-roomless room i (DeleteSGroup s) t e = refl
call-roomless room i OwnNodes t e = refl
call-roomless room i OwnSGroups t e = absurd (let z : ◌≡◌ {A = ℕ} 0 1 = cc in omega arith)

-- ---- what is kept

-- the commands that only read
abbrev pub only_reads : Command → Bool
only_reads (RegisterName s n p) = false
only_reads (ReRegisterName s n p) = false
only_reads (UnregisterName s n) = false
only_reads (WhereisName s n) = true
only_reads (RegisteredNames s) = true
only_reads (AddNodes s set) = false
only_reads (NewSGroup s set) = false
only_reads (WhereisNameAt j s n) = false
only_reads (SendAt j s n) = false
only_reads (Send p) = false
only_reads (SendName s n) = false
only_reads (RemoveNodes s set) = false
only_reads (DeleteSGroup s) = false
only_reads OwnNodes = true
only_reads OwnSGroups = true

effect-if : (t : Bool) (x y : Outcome) → x.effect ≡ keep → y.effect ≡ keep → (cond t x y).effect ≡ keep
effect-if true x y p q = p
effect-if false x y p q = q

effect-member : (i : ℕ) (v : Value) (found : Option Group) (k : Group → Outcome) → ((g : Group) → (k g).effect ≡ keep) → (as_member i v found k).effect ≡ keep
effect-member i v none k f = refl
effect-member i v (some g) k f = effect-if (has g.members i) _ _ (f g) refl

effect-listed : (room : ℕ) (ws : List ℕ) → (listed room ws).effect ≡ keep
effect-listed room ws = effect-if (ltb room (length ws)) _ _ refl refl

-- an s_group is kept
kept : (room N G i : ℕ) (c : GroupCommand) (found : Option Group) → only_reads (within c) ≡ true → (inside room N G i c found).effect ≡ keep
unfolding inside
kept room N G i (register_name s n p) found e = absurd (let z : ◌≡◌ {A = ℕ} 0 1 = cc in omega arith)
kept room N G i (re_register_name s n p) found e = absurd (let z : ◌≡◌ {A = ℕ} 0 1 = cc in omega arith)
kept room N G i (unregister_name s n) found e = absurd (let z : ◌≡◌ {A = ℕ} 0 1 = cc in omega arith)
kept room N G i (whereis_name s n) found e = effect-if (eqb n 0) _ _ refl (effect-member i _ found _ (λ g. refl))
kept room N G i (registered_names s) found e = effect-member i _ found _ (λ g. effect-listed room (name_words s g.names))
kept room N G i (add_nodes s set) found e = absurd (let z : ◌≡◌ {A = ℕ} 0 1 = cc in omega arith)
kept room N G i (new_s_group s set) found e = absurd (let z : ◌≡◌ {A = ℕ} 0 1 = cc in omega arith)

-- a state is kept
group-kept : (room i : ℕ) (c : GroupCommand) (st : State) → only_reads (within c) ≡ true → (group_step room i c st).next ≡ st
unfolding group_step outcome apply
group-kept room i c st e =
    ap (λ (f : Effect). apply (target c) f st)
    (effect-if (leb st.size i) _ _ refl
    (effect-if (bad_group (target c)) _ _ refl (kept room st.size (length st.groups) i c (find (target c) st.groups) e)))

rule-kept : (room i : ℕ) (c : Command) (st : State) → only_reads c ≡ true → (rule room i c st).next ≡ st
unfolding rule
rule-kept room i (RegisterName s n p) st e = group-kept room i (register_name s n p) st e
rule-kept room i (ReRegisterName s n p) st e = group-kept room i (re_register_name s n p) st e
rule-kept room i (UnregisterName s n) st e = group-kept room i (unregister_name s n) st e
rule-kept room i (RegisteredNames s) st e = group-kept room i (registered_names s) st e
rule-kept room i (WhereisName s n) st e = group-kept room i (whereis_name s n) st e
rule-kept room i (NewSGroup s set) st e = group-kept room i (new_s_group s set) st e
rule-kept room i (AddNodes s set) st e = group-kept room i (add_nodes s set) st e
rule-kept room i (WhereisNameAt j s n) st e = absurd (let z : ◌≡◌ {A = ℕ} 0 1 = cc in omega arith)
rule-kept room i (SendAt j s n) st e = absurd (let z : ◌≡◌ {A = ℕ} 0 1 = cc in omega arith)
rule-kept room i (Send p) st e = absurd (let z : ◌≡◌ {A = ℕ} 0 1 = cc in omega arith)
rule-kept room i (SendName s n) st e = absurd (let z : ◌≡◌ {A = ℕ} 0 1 = cc in omega arith)
rule-kept room i (RemoveNodes s set) st e = absurd (let z : ◌≡◌ {A = ℕ} 0 1 = cc in omega arith)
rule-kept room i (DeleteSGroup s) st e = absurd (let z : ◌≡◌ {A = ℕ} 0 1 = cc in omega arith)
rule-kept room i OwnNodes st e = refl
rule-kept room i OwnSGroups st e = refl

step_kept : (room i : ℕ) (c : Command) (st : State) → only_reads c ≡ true → (step room i c st).next ≡ st
unfolding step
step_kept room i c st e = go (leb st.size i)
  where
    go : (t : Bool) → (cond t (error CallerUnknown st) (rule room i c st)).next ≡ st
    go true = refl
    go false = rule-kept room i c st e

-- every word is kept
pub call-reads : (room i : ℕ) (c : Command) (t : List ℕ) → only_reads c ≡ true → (call room i c t).table ≡ t
unfolding call
call-reads room i c t e = go (not (eqb (length t) (table_words names_per_group))) (sound names_per_group t) refl
  where
    go : (a b : Bool) → sound names_per_group t ≡ b
        → (cond a (refused TableLength t) (cond (not b) (refused Unsound t) (written (step room i c (state_of names_per_group t))))).table ≡ t
    go true b p = refl
    go false false p = refl
    go false true p = ap (layout names_per_group) (step_kept room i c (state_of names_per_group t) e) ∙ (test-regular names_per_group t p).1
