-- Demand 3 of document 01 and its isolation rule, over calls on tables. Assumes nothing.
use Rattle.std.specs.Prelude.{◌≡◌, refl, Bool, true, false, cond, ℕ, suc, ◌+◌, ◌≤◌, length}
use Rattle.std.proofs.Common.{sym, ap, ◌∙◌, subst, ⊎_elim, arith}
use Rattle.std.proofs.Math.Path.{fun_ext}
use Rattle.std.proofs.Math.Option.{map}
use mathlib.Core.List.{List, [], ◌∷◌, Memᴰ}
use Rattle.nodes.specs.Bools.{by_test}
use Rattle.semantics.specs.Sizes.{group_limit, names_per_group}
use Rattle.entries.specs.Entries.{lookup}
use Rattle.semantics.specs.State.{Group, State, find}
use Rattle.semantics.specs.GroupCommands.{within}
use Rattle.answers.specs.Answers.{answer_of}
use Rattle.semantics.specs.Steps.{creates}
use Rattle.semantics.specs.Table.{sections, layout, state_of}
use Rattle.semantics.specs.Soundness.{Sound, size_of, count_of, members_of, pid_named}
use Rattle.semantics.specs.Test.{sound}
use Rattle.semantics.specs.Call.{Call, why}
use Rattle.semantics.specs.Regular.{Regular}
use Rattle.semantics.proofs.StepsKeep.{keeps}
use Rattle.semantics.proofs.ReadOff.{state-means}
use Rattle.semantics.proofs.KeyPlaces.{pid-is, group-is, same-found}
use Rattle.semantics.proofs.Agree.{test-regular, sound-iff}
use Rattle.semantics.specs.Mixes.{Turn, of, Mix, Disjoint, AllLines, EachOnce, whole, Agree}
use Rattle.semantics.specs.Lines.{Said, Line, key, SameGroup, LineFits, call_move, call_say}
use Rattle.semantics.specs.NewLines.{news, all_news}
use Rattle.semantics.specs.GroupData.{GroupData, group_in}
use Rattle.semantics.specs.LineSteps.{said_by_call, step_move, step_say}
use Rattle.semantics.specs.Mixing.{of_head, of_tail, whole-mix, mixing, agree_through}
use Rattle.semantics.proofs.Swap.{isolation}
use Rattle.semantics.proofs.MixedStates.{mixed}
use Rattle.semantics.proofs.Calls.{call-sound, call-layout, call-unsound}
use Rattle.answers.specs.declared.Value.TheVariants.{Error}

-- ---- scripts on a table that passes

-- the arguments of all lines of the turns fit
abbrev TurnsFit : List (Turn Line) → Type 0
TurnsFit m = (k : ℕ) (a : Line) → Memᴰ a (of k m) → LineFits a

-- calls do on the table of a regular state what steps do on the state
does : (t : Turn Line) (m : List (Turn Line)) (st : State) → Regular names_per_group st × TurnsFit (t ∷ m)
    → (call_move t.line (layout names_per_group st) ≡ layout names_per_group (step_move t.line st))
    × (call_say t.line (layout names_per_group st) ≡ step_say t.line st)
    × (Regular names_per_group (step_move t.line st) × TurnsFit m)
does t m st h =
    let e = call-layout t.line.room t.line.caller (within t.line.command) st h.0 in (
      ap (λ (c : Call). c.table) e,
      ap said_by_call e,
      (
        keeps t.line.room t.line.caller (within t.line.command) st h.0 (h.1 t.script t.line (of_head t m)),
        λ k a p. h.1 k a (of_tail k t m a p),
      ),
    )

-- ---- scripts on a table that does not pass: every line hears the same, and nothing changes

-- what every line hears
abbrev turned_away : List ℕ → Said
turned_away t = record { answer = answer_of Error (why t); list = [] }

unmoved : (t : List ℕ) → sound names_per_group t ≡ false → (x : Turn Line) (m : List (Turn Line)) (u : Unit {0}) → Unit {0}
    → (call_move x.line t ≡ t) × (call_say x.line t ≡ turned_away t) × Unit {0}
unmoved t e x m u h =
    let r = call-unsound x.line.room x.line.caller (within x.line.command) t e in
    (ap (λ (c : Call). c.table) r, ap said_by_call r, tt)

-- ---- demand 3

-- what holds of all lines of the scripts holds of those of a mix
of-mix : (P : Line → Type 0) (scripts : List (List Line)) (m : List (Turn Line)) → AllLines P scripts → Mix scripts m → (k : ℕ) (a : Line) → Memᴰ a (of k m) → P a
of-mix P scripts m all mix k a p = all k a (rw (mix k) at p)

-- the table says how many s_groups its state has
count-layout : (st : State) → count_of (layout names_per_group st) ≡ length st.groups
unfolding layout sections
count-layout st = refl

module _ (scripts : List (List Line)) (apart : Disjoint SameGroup scripts) (m : List (Turn Line)) (mix : Mix scripts m) (order : List ℕ) (each : EachOnce scripts order) where
  -- on the table of a regular state
  on-layout : AllLines LineFits scripts → (st : State) → Regular names_per_group st → length st.groups + all_news scripts ≤ group_limit
      → Agree call_move call_say m (whole scripts order) (layout names_per_group st)
  on-layout fit st w h =
      agree_through step_move step_say call_move call_say (layout names_per_group) (λ x s. Regular names_per_group s × TurnsFit x) does m (whole scripts order) st
      (w, of-mix LineFits scripts m fit mix) (w, of-mix LineFits scripts (whole scripts order) fit (whole-mix scripts order each))
      (mixed scripts apart m mix order each st (λ z. h))

  -- on a table that is refused
  on-refused : (t : List ℕ) → sound names_per_group t ≡ false → Agree call_move call_say m (whole scripts order) t
  on-refused t e =
      agree_through (λ l u. u) (λ l u. turned_away t) call_move call_say (λ (u : Unit {0}). t) (λ x u. Unit {0}) (unmoved t e) m (whole scripts order) tt tt tt
      (mixing (λ l u. u) SameGroup (λ a b n u. refl) (λ l u. turned_away t) (λ a b n u. refl) scripts apart m (whole scripts order) mix (whole-mix scripts order each) tt)

-- Scripts of which no two name one s_group, mixed in any way that keeps the order of each: every line hears, answer and list, what it hears with the
-- scripts whole, one after another, in any order, and the last table is the same. Where the table is sound, its s_groups and all new_s_group lines
-- of the scripts are at most as many as fit; where it is not, every line is refused
pub demand-3 : (scripts : List (List Line)) → Disjoint SameGroup scripts → AllLines LineFits scripts → (m : List (Turn Line)) → Mix scripts m
    → (order : List ℕ) → EachOnce scripts order → (t : List ℕ) → (Sound names_per_group t → count_of t + all_news scripts ≤ group_limit)
    → Agree call_move call_say m (whole scripts order) t
demand-3 scripts apart fit m mix order each t h =
    ⊎_elim
    (λ (e : sound names_per_group t ≡ true).
    let q = test-regular names_per_group t e in
    let st : State = state_of names_per_group t in
    let few : length st.groups + all_news scripts ≤ group_limit = omega (arith, h ((sound-iff names_per_group t).0 e), count-layout st, ap count_of q.1) in
    subst (λ (x : List ℕ). Agree call_move call_say m (whole scripts order) x) q.1 (on-layout scripts apart m mix order each fit st q.0 few))
    (on-refused scripts apart m mix order each t)
    (by_test (sound names_per_group t))

-- where no line makes an s_group
no-news : (ls : List Line) → ((a : Line) → Memᴰ a ls → creates a.command ≡ false) → news ls ≡ 0
no-news [] h = refl
no-news (l ∷ ls) h =
    omega (arith, ap (λ (x : Bool). cond {A = ℕ} x 1 0) (h l (Memᴰ.head refl)), no-news ls (λ a p. h a (Memᴰ.tail p)))

none-new : (scripts : List (List Line)) → AllLines (λ l. creates l.command ≡ false) scripts → all_news scripts ≡ 0
none-new [] h = refl
none-new (s ∷ ss) h = omega (arith, no-news s (h 0), none-new ss (λ k. h (suc k)))

-- Without new_s_group lines nothing is asked of the table
pub demand-3-base : (scripts : List (List Line)) → Disjoint SameGroup scripts → AllLines LineFits scripts → AllLines (λ l. creates l.command ≡ false) scripts
    → (m : List (Turn Line)) → Mix scripts m → (order : List ℕ) → EachOnce scripts order → (t : List ℕ)
    → Agree call_move call_say m (whole scripts order) t
demand-3-base scripts apart fit old m mix order each t =
    demand-3 scripts apart fit m mix order each t (λ s.
    let q = test-regular names_per_group t ((sound-iff names_per_group t).1 s) in
    omega (arith, q.0.groups_few, count-layout (state_of names_per_group t), ap count_of q.1, none-new scripts old))

-- ---- who may feel what

-- what a table has of an s_group of its state
abbrev group_data : Group → GroupData
group_data g = record { members = g.members; names = λ n. lookup n g.names }

module _ (t : List ℕ) (h : Sound names_per_group t) where
  regular : Regular names_per_group (state_of names_per_group t)
  regular = (test-regular names_per_group t ((sound-iff names_per_group t).1 h)).0

  data_is : (s : ℕ) → group_in s t ≡ map group_data (find s (state_of names_per_group t).groups)
  data_is =
      group-is h (state-means h) (λ g. record { members = members_of t g; names = pid_named names_per_group t g }) group_data
      (λ g l i. record { members = (state-means h).members g l i; names = fun_ext (pid-is h (state-means h) g l) i })

-- On sound tables of one roster size, what the caller of a line hears, answer and list, depends on the line and on its own s_group alone
pub isolated : (l : Line) → creates l.command ≡ false → (t u : List ℕ) → Sound names_per_group t → Sound names_per_group u
    → size_of t ≡ size_of u → group_in (key l) t ≡ group_in (key l) u → call_say l t ≡ call_say l u
unfolding state_of
isolated l old t u p q n g =
    ap said_by_call (call-sound l.room l.caller (within l.command) t ((sound-iff names_per_group t).1 p))
    ∙ isolation l (state_of names_per_group t) (state_of names_per_group u) old n
    (same-found (regular t p) (regular u q) group_data
    (λ x y e. (ap (λ (k : GroupData). k.members) e, λ m. ap (λ (k : GroupData). k.names m) e)) (key l) (sym (data_is t p (key l)) ∙ g ∙ data_is u q (key l)))
    ∙ sym (ap said_by_call (call-sound l.room l.caller (within l.command) u ((sound-iff names_per_group u).1 q)))
