-- The reason that is given is the lowest that holds: the tests of each command, and of opening, ascend by rank, which for 01's reasons is the
-- order of their numbers.
-- Assumes nothing.
use Rattle.std.specs.Prelude.{◌≡◌, refl, ◌↔◌, ◌⊎◌, Bool, true, false, cond, ℕ, ◌+◌, ◌≤◌, ◌<◌, ltb}
use Rattle.std.proofs.Common.{sym, ap, ◌∙◌, inl, inr, ⊎_elim, arith, ltb-true, ltb-false}
use Rattle.std.proofs.lemmas.Bool.{false≢true}
use Rattle.std.proofs.Math.Bool.{and-eq-true_iff}
use mathlib.Core.List.Memᴰ
use mathlib.Core.List.{List, [], ◌∷◌, map, Memᴰ}
use Rattle.nodes.specs.Bools.{by_lt}
use Rattle.answers.specs.Answers.{number, rank, of_01}
use Rattle.semantics.specs.Test.{ascending}
use Rattle.semantics.specs.FirstReason.{Test, first, opening_tests}
use Rattle.commands.specs.declared.Command.{Command}
use Rattle.commands.specs.declared.Command.TheVariants.{RegisterName, ReRegisterName, UnregisterName, RegisteredNames, WhereisName, WhereisNameAt, Send, SendName, SendAt, NewSGroup, AddNodes, RemoveNodes, DeleteSGroup, OwnNodes, OwnSGroups}
use Rattle.answers.specs.declared.Reason.{Reason}
use Rattle.answers.specs.declared.Reason.TheVariants.{Done, TableLength, RosterSize, Unsound, CallerUnknown, GroupNameRange, NameZero, NodeUnknown, GroupUnknown, NotMember, NameTaken, PidTaken, NotRegistered, NamespaceFull, CallerOutside, GroupTaken, GroupsFull, RunShort, NoLaunchFile, GroupsDiffer, AtomUnknown, HostOutside, IndexWrong}
use Rattle.published.specs.Published.{Published}
use Rattle.published.specs.Refusals.{Lowest, tests}

-- ---- ranks

-- how many reasons of 02 are tested before the reason of 01 with this number: that of the index, behind 3, and the three of launching, behind 7 (21 is
-- behind all)
earlier : ℕ → ℕ
earlier k = cond (ltb (number Unsound) k) 1 0 + cond (ltb (number NodeUnknown) k) 3 0

-- the rank of a reason of 01
rank_is : (r : Reason) → of_01 r ≡ true → rank r ≡ earlier (number r) + number r
unfolding earlier
rank_is Done h = refl
rank_is TableLength h = refl
rank_is RosterSize h = refl
rank_is Unsound h = refl
rank_is CallerUnknown h = refl
rank_is GroupNameRange h = refl
rank_is NameZero h = refl
rank_is NodeUnknown h = refl
rank_is GroupUnknown h = refl
rank_is NotMember h = refl
rank_is NameTaken h = refl
rank_is PidTaken h = refl
rank_is NotRegistered h = refl
rank_is NamespaceFull h = refl
rank_is CallerOutside h = refl
rank_is GroupTaken h = refl
rank_is GroupsFull h = refl
rank_is RunShort h = refl
rank_is NoLaunchFile h = absurd (false≢true h)
rank_is GroupsDiffer h = absurd (false≢true h)
rank_is AtomUnknown h = absurd (false≢true h)
rank_is HostOutside h = absurd (false≢true h)
rank_is IndexWrong h = absurd (false≢true h)

-- and it never falls
never-falls : (k a b : ℕ) (m : ℕ) → a ≤ b → cond (ltb k a) m 0 ≤ cond (ltb k b) m 0
never-falls k a b m h = go (ltb k a) refl (ltb k b) refl
  where
    go : (x : Bool) → ltb k a ≡ x → (y : Bool) → ltb k b ≡ y → cond x m 0 ≤ cond y m 0
    go true p true q = omega arith
    go true p false q = let u = ltb-true k a p in let v = ltb-false k b q in absurd (omega arith)
    go false p y q = omega arith

rises : (a b : ℕ) → (earlier a + a < earlier b + b) ↔ (a < b)
unfolding earlier
rises a b = (
  λ h. ⊎_elim (λ (p : a < b). p) (λ (p : b ≤ a). absurd (omega (arith, never-falls 3 b a 1 p, never-falls 7 b a 3 p))) (by_lt a b),
  λ h. omega (arith, never-falls 3 a b 1 (omega arith), never-falls 7 a b 3 (omega arith)),
)

-- by rank is by number, as 01 has it
pub by_number : (r q : Reason) → of_01 r ≡ true → of_01 q ≡ true → (rank r < rank q) ↔ (number r < number q)
by_number r q h k = rw (rank_is r h, rank_is q k) (rises (number r) (number q))

-- ---- the lowest

-- the ranks of the reasons
abbrev pub ranks : List Test → List ℕ
ranks ts = map (λ t. rank t.reason) ts

above : (b : ℕ) (ts : List Test) → ascending b (ranks ts) ≡ true → (t : Test) → Memᴰ t ts → b < rank t.reason
above b [] h t i = absurd (Memᴰ.not-nil i)
above b (u ∷ us) h t (Memᴰ.head e) = rw e (ltb-true b (rank u.reason) ((and-eq-true_iff (ltb b (rank u.reason)) _).0 h).0)
above b (u ∷ us) h t (Memᴰ.tail i) =
    let p = (and-eq-true_iff (ltb b (rank u.reason)) _).0 h in
    omega (arith, ltb-true b (rank u.reason) p.0, above (rank u.reason) us p.1 t i)

-- where ranks ascend, the first that holds is the lowest
pub first-lowest : (b : ℕ) (ts : List Test) → ascending b (ranks ts) ≡ true → Lowest ts (first ts)
first-lowest b [] h = record { given = inl (refl, λ t i. absurd (Memᴰ.not-nil i)); least = λ t i. absurd (Memᴰ.not-nil i) }
first-lowest b (u ∷ us) h = go u.holds refl (first-lowest (rank u.reason) us rest)
  where
    rest : ascending (rank u.reason) (ranks us) ≡ true
    rest = ((and-eq-true_iff (ltb b (rank u.reason)) _).0 h).1

    go : (x : Bool) → u.holds ≡ x → Lowest us (first us) → Lowest (u ∷ us) (cond x u.reason (first us))
    go true e ih = record { given = inr (u, Memᴰ.head refl, e, refl); least = at_least }
      where
        at_least : (t : Test) → Memᴰ t (u ∷ us) → t.holds ≡ true → rank u.reason ≤ rank t.reason
        at_least t (Memᴰ.head q) k = rw q (omega arith)
        at_least t (Memᴰ.tail i) k = omega (arith, above (rank u.reason) us rest t i)
    go false e ih = record { given = whence ih.given; least = at_least }
      where
        none : ((t : Test) → Memᴰ t us → t.holds ≡ false) → (t : Test) → Memᴰ t (u ∷ us) → t.holds ≡ false
        none f t (Memᴰ.head q) = ap (λ (v : Test). v.holds) q ∙ e
        none f t (Memᴰ.tail i) = f t i

        whence : ((first us ≡ Done) × ((t : Test) → Memᴰ t us → t.holds ≡ false)) ⊎ ((t : Test) × Memᴰ t us × (t.holds ≡ true) × (first us ≡ t.reason))
            → ((first us ≡ Done) × ((t : Test) → Memᴰ t (u ∷ us) → t.holds ≡ false)) ⊎ ((t : Test) × Memᴰ t (u ∷ us) × (t.holds ≡ true) × (first us ≡ t.reason))
        whence (inl p) = inl (p.0, none p.1)
        whence (inr p) = inr (p.0, Memᴰ.tail p.1, p.2, p.3)

        at_least : (t : Test) → Memᴰ t (u ∷ us) → t.holds ≡ true → rank (first us) ≤ rank t.reason
        at_least t (Memᴰ.head q) k = absurd (false≢true (sym e ∙ ap (λ (v : Test). v.holds) (sym q) ∙ k))
        at_least t (Memᴰ.tail i) k = ih.least t i k

pub tests-ascend : (room : ℕ) (c : Command) (ni : ℕ) (X : Published) → ascending 0 (ranks (tests room c ni X)) ≡ true
unfolding tests
tests-ascend room (RegisterName s n p) ni X = refl
tests-ascend room (ReRegisterName s n p) ni X = refl
tests-ascend room (UnregisterName s n) ni X = refl
tests-ascend room (WhereisName s n) ni X = refl
tests-ascend room (RegisteredNames s) ni X = refl
tests-ascend room (AddNodes s set) ni X = refl
tests-ascend room (NewSGroup s set) ni X = refl
tests-ascend room (WhereisNameAt ni' s n) ni X = refl
tests-ascend room (SendAt ni' s n) ni X = refl
tests-ascend room (Send p) ni X = refl
tests-ascend room (SendName s n) ni X = refl
tests-ascend room (RemoveNodes s set) ni X = refl
tests-ascend room (DeleteSGroup s) ni X = refl
tests-ascend room OwnNodes ni X = refl
tests-ascend room OwnSGroups ni X = refl

pub lowest : (room : ℕ) (c : Command) (ni : ℕ) (X : Published) → Lowest (tests room c ni X) (first (tests room c ni X))
lowest room c ni X = first-lowest 0 (tests room c ni X) (tests-ascend room c ni X)

pub opening-lowest : (run N hidden : ℕ) → Lowest (opening_tests run N hidden) (first (opening_tests run N hidden))
opening-lowest run N hidden = first-lowest 0 (opening_tests run N hidden) refl
