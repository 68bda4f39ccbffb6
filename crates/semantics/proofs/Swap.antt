-- Isolation and the swap law, on any state: a line feels no s_group but its own, and two lines that do not name one s_group can change places.
-- Assumes nothing.
use Rattle.std.specs.Prelude.{◌≡◌, refl, ◌≢◌, Bool, true, false, cond, ℕ, ◌+◌, ◌≤◌, ◌<◌, leb, length}
use Rattle.std.proofs.Common.{sym, ap, ap₂, ◌∙◌, ⊎_elim, true≢false, arith}
use Rattle.std.proofs.Math.Option.{Option, none, some}
use Rattle.std.proofs.lemmas.Bool.{lt-leb}
use Rattle.nodes.specs.Sets.{has}
use Rattle.nodes.specs.Bools.{by_test}
use Rattle.semantics.specs.Sizes.{group_limit}
use Rattle.semantics.specs.State.{Group, State, find}
use Rattle.semantics.specs.GroupCommands.{GroupCommand, register_name, re_register_name, unregister_name, whereis_name, registered_names, add_nodes, new_s_group}
use Rattle.semantics.specs.Ranges.{bad_group}
use Rattle.semantics.specs.Steps.{Result, Effect, keep, Outcome, target, creates, say, as_member, inside, outcome, apply, settle, group_step}
use Rattle.semantics.specs.Effects.{apply-comm, find-apply-other, size-apply, made, made_one, length-apply}
use Rattle.semantics.specs.Within.{step-within}
use Rattle.semantics.specs.Lines.{Said, Line, key, SameGroup}
use Rattle.semantics.specs.NewLines.{cost}
use Rattle.semantics.specs.LineSteps.{said_by_step, step_of, step_say, RoomFor}
use Rattle.answers.specs.declared.Value.{Value}
use Rattle.answers.specs.declared.Value.TheVariants.{Error}
use Rattle.answers.specs.declared.Reason.TheVariants.{CallerUnknown, GroupNameRange, NotMember}

-- ---- isolation: a line that makes no s_group feels the roster's size and its own s_group alone

-- the number of s_groups is felt by new_s_group alone
outcome-any : (room N G H i : ℕ) (c : GroupCommand) (f : Option Group) → creates c ≡ false → outcome room N G i c f ≡ outcome room N H i c f
unfolding outcome inside
outcome-any room N G H i (register_name s n p) f e = refl
outcome-any room N G H i (re_register_name s n p) f e = refl
outcome-any room N G H i (unregister_name s n) f e = refl
outcome-any room N G H i (whereis_name s n) f e = refl
outcome-any room N G H i (registered_names s) f e = refl
outcome-any room N G H i (add_nodes s set) f e = refl
outcome-any room N G H i (new_s_group s set) f e = absurd (true≢false e)

-- what an outcome says
abbrev said_in : Outcome → Said
said_in o = record { answer = o.answer; list = o.list }

-- the outcome of a line, where there are G s_groups
abbrev outcome_of : ℕ → Line → State → Outcome
outcome_of G l st = outcome l.room st.size G l.caller l.command (find (key l) st.groups)

step-says : (l : Line) (st : State) → step_say l st ≡ said_in (outcome_of (length st.groups) l st)
unfolding group_step
step-says l st = ap said_by_step (step-within l.room l.caller l.command st)

pub isolation : (l : Line) (st st' : State) → creates l.command ≡ false
    → st.size ≡ st'.size → find (key l) st.groups ≡ find (key l) st'.groups
    → step_say l st ≡ step_say l st'
isolation l st st' e p q =
    step-says l st
    ∙ ap said_in (outcome-any l.room st.size (length st.groups) (length st'.groups) l.caller l.command (find (key l) st.groups) e)
    ∙ ap₂ (λ (n : ℕ) (f : Option Group). said_in (outcome l.room n (length st'.groups) l.caller l.command f)) p q
    ∙ sym (step-says l st')

-- ---- the step with no bound on the number of s_groups

-- the outcome of a line as if there were no s_groups but its own
seen : Line → State → Outcome
seen l st = outcome_of 0 l st

pub unbounded : Line → State → Result
unbounded l st = settle (key l) (seen l st) st

outcome-roomy : (room N G i : ℕ) (c : GroupCommand) (f : Option Group) → (creates c ≡ true → G < group_limit) → outcome room N G i c f ≡ outcome room N 0 i c f
unfolding outcome inside
outcome-roomy room N G i (register_name s n p) f h = refl
outcome-roomy room N G i (re_register_name s n p) f h = refl
outcome-roomy room N G i (unregister_name s n) f h = refl
outcome-roomy room N G i (whereis_name s n) f h = refl
outcome-roomy room N G i (registered_names s) f h = refl
outcome-roomy room N G i (add_nodes s set) f h = refl
outcome-roomy room N G i (new_s_group s set) f h = rw (lt-leb group_limit G (h refl))

-- where there is room for what a line makes, its step is the unbounded one
pub step-unbounded : (l : Line) (st : State) → RoomFor (cost l) st → step_of l st ≡ unbounded l st
unfolding group_step unbounded seen
step-unbounded l st h =
    step-within l.room l.caller l.command st
    ∙ ap (λ (o : Outcome). settle (key l) o st) (outcome-roomy l.room st.size (length st.groups) l.caller l.command _ few)
  where
    few : creates l.command ≡ true → length st.groups < group_limit
    few e =
        let one : cond {A = ℕ} (creates l.command) 1 0 ≡ 1 = ap (λ (x : Bool). cond {A = ℕ} x 1 0) e in
        omega (arith, h (λ z. omega arith))

-- ---- how the number of s_groups grows

-- it makes no s_group
abbrev MakesNone : Outcome → Type 0
MakesNone o = made o.effect ≡ 0

either : (x : Bool) (a b : Outcome) → MakesNone a → MakesNone b → MakesNone (cond x a b)
either true a b p q = p
either false a b p q = q

member : (i : ℕ) (v : Value) (f : Option Group) (k : Group → Outcome) → ((g : Group) → MakesNone (k g)) → MakesNone (as_member i v f k)
member i v none k h = refl
member i v (some g) k h = either (has g.members i) (k g) (say v NotMember) (h g) refl

inside-none : (room N G i : ℕ) (c : GroupCommand) (f : Option Group) → creates c ≡ false → MakesNone (inside room N G i c f)
unfolding inside
inside-none room N G i (register_name s n p) f e = search (either, member) depth 9
inside-none room N G i (re_register_name s n p) f e = search (either, member) depth 9
inside-none room N G i (unregister_name s n) f e = search (either, member) depth 9
inside-none room N G i (whereis_name s n) f e = search (either, member) depth 9
inside-none room N G i (registered_names s) f e = search (either, member) depth 9
inside-none room N G i (add_nodes s set) f e = search (either, member) depth 9
inside-none room N G i (new_s_group s set) f e = absurd (true≢false e)

outcome-none : (room N G i : ℕ) (c : GroupCommand) (f : Option Group) → creates c ≡ false → MakesNone (outcome room N G i c f)
unfolding outcome
outcome-none room N G i c f e = either (leb N i) _ _ refl (either (bad_group (target c)) _ _ refl (inside-none room N G i c f e))

-- a line makes no more s_groups than its cost
pub grows : (l : Line) (st : State) → length (unbounded l st).next.groups ≤ length st.groups + cost l
unfolding unbounded seen
grows l st = go (creates l.command) refl
  where
    go : (x : Bool) → creates l.command ≡ x → length (apply (key l) (seen l st).effect st).groups ≤ length st.groups + cond x 1 0
    go true e = omega (arith, length-apply (key l) (seen l st).effect st, made_one (seen l st).effect)
    go false e =
        omega (arith, length-apply (key l) (seen l st).effect st, outcome-none l.room st.size 0 l.caller l.command (find (key l) st.groups) e)

-- ---- the swap law

-- a line without an s_group's name sees the roster's size alone, and makes nothing
nameless : (l : Line) (st st' : State) → bad_group (key l) ≡ true → st.size ≡ st'.size → (seen l st ≡ seen l st') × ((seen l st).effect ≡ keep)
unfolding seen outcome
nameless l st st' e p = rw (e, p) (refl, go (leb st'.size l.caller))
  where
    go : (x : Bool) → (cond x (say Error CallerUnknown) (say Error GroupNameRange)).effect ≡ keep
    go true = refl
    go false = refl

-- what is said and done of the lines a and b, where a has an s_group's name and where not
by_name : (a b : Line) → (SameGroup a b → ⊥) → (P : Type 0) → (bad_group (key a) ≡ true → P) → (key a ≢ key b → P) → P
by_name a b h P bad good = ⊎_elim bad (λ (e : bad_group (key a) ≡ false). good (λ q. h (e, q))) (by_test (bad_group (key a)))

-- no effect, no change
kept : (s : ℕ) (st : State) → apply s keep st ≡ st
unfolding apply
kept s st = refl

-- an effect on another s_group changes nothing of what a line sees
unseen : (l : Line) (t : ℕ) (e : Effect) (st : State) → key l ≢ t → seen l (apply t e st) ≡ seen l st
unfolding seen
unseen l t e st h = ap₂ (λ (n : ℕ) (f : Option Group). outcome l.room n 0 l.caller l.command f) (size-apply t e st) (find-apply-other h e st)

pub swap-moves : (a b : Line) → (SameGroup a b → ⊥) → (st : State) → (unbounded a (unbounded b st).next).next ≡ (unbounded b (unbounded a st).next).next
unfolding unbounded
swap-moves a b h st =
    by_name a b h _
    (λ e.
    ap (λ (f : Effect). apply (key a) f (unbounded b st).next) (nameless a (unbounded b st).next st e (size-apply (key b) (seen b st).effect st)).1
    ∙ kept (key a) (unbounded b st).next
    ∙ sym (ap (λ (s : State). (unbounded b s).next) (ap (λ (f : Effect). apply (key a) f st) (nameless a st st e refl).1 ∙ kept (key a) st)))
    (λ n.
    ap (λ (o : Outcome). apply (key a) o.effect (apply (key b) (seen b st).effect st)) (unseen a (key b) (seen b st).effect st n)
    ∙ apply-comm n (seen a st).effect (seen b st).effect st
    ∙ sym (ap (λ (o : Outcome). apply (key b) o.effect (apply (key a) (seen a st).effect st)) (unseen b (key a) (seen a st).effect st (λ e. n (sym e)))))

pub swap-says : (a b : Line) → (SameGroup a b → ⊥) → (st : State) → said_by_step (unbounded a (unbounded b st).next) ≡ said_by_step (unbounded a st)
unfolding unbounded
swap-says a b h st =
    ap said_in
    (by_name a b h _ (λ e. (nameless a (unbounded b st).next st e (size-apply (key b) (seen b st).effect st)).0) (unseen a (key b) (seen b st).effect st))
