-- How many words are read by a pid: two for each s_group at most, since a pid stands once in an s_group. Assumes nothing.
use Rattle.std.specs.Prelude.{◌≡◌, Bool, false, ℕ, ◌*◌, ◌/◌, ◌≤◌, ◌<◌, eqb, length}
use Rattle.std.proofs.Math.Path.{refl}
use Rattle.std.proofs.Math.Logic.{⊎_elim}
use Rattle.std.proofs.Common.{true≢false, length-append, eq-eqb, ne_eqb}
use mathlib.Core.List.{List, [], ◌∷◌}
use native.Mathlib.Omega.{arith}
use Rattle.nodes.specs.Bools.{by_eq}
use Rattle.entries.specs.Entries.{Entry, half_word, holds_pid}
use Rattle.entries.specs.NamespaceSound as Namespace
use Rattle.semantics.specs.Sizes.{group_limit, group_names, row_words}
use Rattle.semantics.specs.State.{Group, State}
use Rattle.semantics.specs.Regular.{Every, RegularGroup, Regular}
use Rattle.indexes.specs.Index.{Row, key_of, pid_of, rows, walk, sorted, keep, names_of}
use Rattle.indexes.specs.Sorting.{length-sorted, sorted-keep}
use Rattle.indexes.specs.Flat.{length-named}
use Rattle.indexes.specs.WalkLaws.{walk-distinct, keep_append}
use Rattle.indexes.specs.IndexCalls.{names_in}

-- whether a row is of the pid
abbrev of_pid : ℕ → Row → Bool
of_pid p x = eqb (pid_of x) p

module _ (p s : ℕ) (h : s < group_names) where
  -- an s_group that has not the pid has no row of it
  none_of : (es : List Entry) → holds_pid p es ≡ false → length (keep (of_pid p) (rows s es)) ≡ 0
  unfolding keep rows holds_pid
  none_of [] e = refl
  none_of (x ∷ es) e =
      ⊎_elim
      (λ (t : x.pid ≡ p). absurd (true≢false (rw (eq-eqb x.pid p t) at e)))
      (λ (t : x.pid ≡ p → ⊥). rw (ne_eqb (key_of x.pid s / half_word) p (λ q. t (omega (arith, q)))) (none_of es (rw (ne_eqb x.pid p t) at e)))
      (by_eq x.pid p)

  -- any has one at most
  one_of : (es : List Entry) → Namespace.Distinct es → length (keep (of_pid p) (rows s es)) ≤ 1
  unfolding keep rows Namespace.Distinct
  one_of [] d = omega arith
  one_of (x ∷ es) d =
      ⊎_elim
      (λ (t : x.pid ≡ p). rw (eq-eqb (key_of x.pid s / half_word) p (omega arith)) (omega (arith, none_of es (rw t at d.0))))
      (λ (t : x.pid ≡ p → ⊥). rw (ne_eqb (key_of x.pid s / half_word) p (λ q. t (omega (arith, q)))) (one_of es d.1))
      (by_eq x.pid p)

-- so the rows of a pid are no more than the s_groups
walk-few : (p cap N : ℕ) (gs : List Group) → Every (RegularGroup cap N) gs → length (keep (of_pid p) (walk gs)) ≤ length gs
unfolding keep walk
walk-few p cap N [] e = omega arith
walk-few p cap N (g ∷ gs) e =
    rw (keep_append (of_pid p) (rows g.name g.names) (walk gs), length-append)
    (omega (arith, one_of p g.name e.0.small g.names e.0.names_sound.pids, walk-few p cap N gs e.1))

-- two words for each of them
pub names_few : (p cap : ℕ) (st : State) → Regular cap st → length (names_in p st) ≤ row_words * group_limit
unfolding names_of
names_few p cap st w =
    let k : length (keep (of_pid p) (sorted (walk st.groups))) ≤ group_limit =
    rw (← (sorted-keep (of_pid p) (walk st.groups) (walk-distinct cap st w)), length-sorted) (omega (arith, walk-few p cap st.size st.groups w.each, w.groups_few)) in
    omega (arith, length-named (keep (of_pid p) (sorted (walk st.groups))))
