-- Demand 3 on states: scripts of the seven commands, mixed in any way, hear and do what they hear and do whole, one after another, in any order.
-- Assumes nothing.
use Rattle.std.specs.Prelude.{◌≡◌, refl, cond, List, [], ◌∷◌, ℕ, zero, suc, ◌+◌, eqb}
use Rattle.std.proofs.Common.{ap, ap₂, ◌∙◌, arith, ne_eqb}
use mathlib.Core.List.Memᴰ
use Rattle.std.proofs.Math.Dec.{eqb-suc-zero, eqb-suc-suc}
use Rattle.semantics.specs.State.{State}
use Rattle.semantics.specs.Steps.{Result}
use Rattle.semantics.specs.Mixes.{Turn, of, Mix, Disjoint, EachOnce, whole, Agree}
use Rattle.semantics.specs.Mixing.{of_head, whole-mix, mixing, agree_through}
use Rattle.semantics.specs.Lines.{Said, Line, SameGroup}
use Rattle.semantics.specs.NewLines.{cost, news, all_news}
use Rattle.semantics.specs.LineSteps.{said_by_step, step_of, step_move, step_say, RoomFor}
use Rattle.semantics.proofs.Swap.{unbounded, step-unbounded, swap-moves, swap-says, grows}

-- ---- a mix has as many new_s_group lines as its scripts

-- how many of the turns are new_s_group lines
abbrev turn_news : List (Turn Line) → ℕ
turn_news [] = 0
turn_news (t ∷ m) = cost t.line + turn_news m

-- a turn before m: none for script 0, and one script earlier for the others
abbrev sooner : ℕ → Line → List (Turn Line) → List (Turn Line)
sooner zero l m = m
sooner (suc k) l m = record { script = k; line = l } ∷ m

-- the turns without those of script 0, each one script earlier
abbrev later : List (Turn Line) → List (Turn Line)
later [] = []
later (t ∷ m) = sooner t.script t.line (later m)

of-later : (k : ℕ) (m : List (Turn Line)) → of k (later m) ≡ of (suc k) m
unfolding of
of-later k [] = refl
of-later k (t ∷ m) = go (of-later k m) t.script
  where
    go : of k (later m) ≡ of (suc k) m → (j : ℕ) → of k (sooner j t.line (later m)) ≡ cond (eqb j (suc k)) (t.line ∷ of (suc k) m) (of (suc k) m)
    go e zero = rw (ne_eqb 0 (suc k) (λ z. omega arith)) e
    go e (suc j) = rw (eqb-suc-suc j k) (ap (λ (l : List Line). cond (eqb j k) (t.line ∷ l) l) e)

news-later : (m : List (Turn Line)) → turn_news m ≡ news (of 0 m) + turn_news (later m)
unfolding of
news-later [] = refl
news-later (t ∷ m) = go (news-later m) t.script
  where
    go : turn_news m ≡ news (of 0 m) + turn_news (later m)
        → (j : ℕ) → cost t.line + turn_news m ≡ news (cond (eqb j 0) (t.line ∷ of 0 m) (of 0 m)) + turn_news (sooner j t.line (later m))
    go e zero = omega arith
    go e (suc j) = rw (eqb-suc-zero j) (omega arith)

mix-news : (scripts : List (List Line)) (m : List (Turn Line)) → Mix scripts m → turn_news m ≡ all_news scripts
mix-news [] [] mix = refl
mix-news [] (t ∷ m) mix = absurd (Memᴰ.not-nil (rw (mix t.script) at (of_head t m)))
mix-news (s ∷ ss) m mix = news-later m ∙ ap₂ ◌+◌ (ap news (mix 0)) (mix-news ss (later m) (λ k. of-later k m ∙ mix (suc k)))

-- ---- where there is room for all new s_groups, the steps are those with no bound

abbrev unbounded_move : Line → State → State
unbounded_move l st = (unbounded l st).next

abbrev unbounded_say : Line → State → Said
unbounded_say l st = said_by_step (unbounded l st)

does : (t : Turn Line) (m : List (Turn Line)) (st : State) → RoomFor (turn_news (t ∷ m)) st
    → (step_move t.line st ≡ unbounded_move t.line st) × (step_say t.line st ≡ unbounded_say t.line st)
    × RoomFor (turn_news m) (unbounded_move t.line st)
does t m st h =
    let e : step_of t.line st ≡ unbounded t.line st = step-unbounded t.line st (λ z. omega (arith, h (λ y. z (omega arith)))) in
    (ap (λ (r : Result). r.next) e, ap said_by_step e, λ z. omega (arith, h (λ y. z (omega arith)), grows t.line st))

-- ---- demand 3

pub mixed : (scripts : List (List Line)) → Disjoint SameGroup scripts → (m : List (Turn Line)) → Mix scripts m
    → (order : List ℕ) → EachOnce scripts order → (st : State) → RoomFor (all_news scripts) st
    → Agree step_move step_say m (whole scripts order) st
mixed scripts apart m mix order each st h =
    let w : Mix scripts (whole scripts order) = whole-mix scripts order each in
    let room : (x : List (Turn Line)) → Mix scripts x → RoomFor (turn_news x) st = λ x y z. omega (arith, mix-news scripts x y, h (λ e. z (mix-news scripts x y ∙ e))) in
    agree_through unbounded_move unbounded_say step_move step_say (λ st. st) (λ x s. RoomFor (turn_news x) s) does m (whole scripts order) st (room m mix)
    (room (whole scripts order) w) (mixing unbounded_move SameGroup swap-moves unbounded_say swap-says scripts apart m (whole scripts order) mix w st)
