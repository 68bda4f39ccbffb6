-- The rows of the index are exactly the registered names: none is missing, and none stands there that is not registered. Assumes nothing.
use Rattle.std.specs.Prelude.{◌≡◌, refl, ◌↔◌, true, List, [], ◌∷◌, ℕ, ◌<◌}
use Rattle.std.proofs.Common.{sym, ◌∙◌, ⊎_elim, arith, eq-eqb, ne_eqb}
use Rattle.std.proofs.lemmas.Bool.{false≢true}
use Rattle.std.proofs.Math.Bool.{and-false, or-false}
use Rattle.std.proofs.Math.Option.{some}
use Rattle.nodes.specs.Bools.{by_eq}
use Rattle.entries.specs.Entries.{Entry, half_word, lookup}
use Rattle.entries.specs.EntryLaws.{held_or_not, lookup-low}
use Rattle.entries.specs.NamespaceSound as Namespace
use Rattle.semantics.specs.Sizes.{names_per_group}
use Rattle.semantics.specs.State.{Group, State, find}
use Rattle.semantics.specs.Table.{state_of}
use Rattle.semantics.specs.Test.{sound}
use Rattle.semantics.specs.Regular.{Every, Rising, RegularGroup, Regular}
use Rattle.semantics.proofs.Agree.{test-regular}
use Rattle.indexes.specs.Index.{Row, key_of, group_of, rows, walk, sorted}
use Rattle.indexes.specs.Ascending.{holds}
use Rattle.indexes.specs.Updates.{pid_in}
use Rattle.indexes.specs.TestLaws.{holds-append, holds-other, none_below, holds-none, holds-sorted}

-- the row of the name n, which stands for the pid p in the s_group s
abbrev row_of : ℕ → ℕ → ℕ → Row
row_of s n p = record { key = key_of p s; name = n }

-- the rows of an s_group hold it where a lookup of the name finds the pid
holds_rows : (s n p b : ℕ) (es : List Entry) → Namespace.Ascending b es → (holds (row_of s n p) (rows s es) ≡ true) ↔ (lookup n es ≡ some p)
unfolding holds rows lookup Namespace.Ascending
holds_rows s n p b [] a = (λ h. absurd (false≢true h), λ h. held_or_not h)
holds_rows s n p b (e ∷ es) a =
    let rest = holds_rows s n p e.name es a.3 in
    ⊎_elim
    (λ (t : e.name ≡ n).
    ⊎_elim
    (λ (u : e.pid ≡ p). rw (eq-eqb e.name n t, eq-eqb (key_of e.pid s) (key_of p s) (omega arith), u) (λ h. refl, λ h. refl))
    (λ (u : e.pid ≡ p → ⊥).
    rw (eq-eqb e.name n t, ne_eqb (key_of e.pid s) (key_of p s) (λ q. u (omega (arith, q))))
    (λ h. held_or_not (sym (lookup-low e.name n es a.3 (omega arith)) ∙ rest.0 h), λ (h : some e.pid ≡ some p). absurd (u cc)))
    (by_eq e.pid p))
    (λ (t : e.name ≡ n → ⊥). rw (ne_eqb e.name n t, and-false) rest)
    (by_eq e.name n)

-- the rows of all s_groups hold it where the pid is found in the s_group under the name
holds-walk : (cap N s n p b : ℕ) → s < half_word → (gs : List Group) → Rising b gs → Every (RegularGroup cap N) gs
    → (holds (row_of s n p) (walk gs) ≡ true) ↔ (pid_in n (find s gs) ≡ some p)
unfolding holds walk find
holds-walk cap N s n p b l [] i e = (λ h. absurd (false≢true h), λ h. held_or_not h)
holds-walk cap N s n p b l (g ∷ gs) i e =
    let own : group_of (row_of s n p) ≡ s = omega arith in
    ⊎_elim
    (λ (t : g.name ≡ s).
    rw (
      holds-append (row_of s n p) (rows g.name g.names) (walk gs),
      holds-none cap N (row_of s n p) gs e.1 (none_below (group_of (row_of s n p)) g.name gs i.1 (omega arith)),
      or-false (holds (row_of s n p) (rows g.name g.names)),
      eq-eqb g.name s t,
      t,
    )
    (holds_rows s n p 0 g.names e.0.names_sound.names))
    (λ (t : g.name ≡ s → ⊥).
    rw (
      holds-append (row_of s n p) (rows g.name g.names) (walk gs),
      holds-other (row_of s n p) g.name g.names e.0.small (λ q. t (q ∙ own)),
      ne_eqb g.name s t,
    )
    (holds-walk cap N s n p g.name l gs i.1 e.1))
    (by_eq g.name s)

-- the index of a regular state has the row of pid, s_group and name where the s_group has the name for the pid, and only there
pub every-name : {cap : ℕ} {st : State} → Regular cap st → (s n p : ℕ) → s < half_word
    → (holds (record { key = key_of p s; name = n }) (sorted (walk st.groups)) ≡ true) ↔ (pid_in n (find s st.groups) ≡ some p)
every-name {cap} {st} r s n p l =
    rw (holds-sorted (row_of s n p) (walk st.groups)) (holds-walk cap st.size s n p 0 l st.groups r.rising r.each)

-- the same of a table that passes the test
pub every-name_of-table : (t : List ℕ) → sound names_per_group t ≡ true → (s n p : ℕ) → s < half_word
    → (holds (record { key = key_of p s; name = n }) (sorted (walk (state_of names_per_group t).groups)) ≡ true)
    ↔ (pid_in n (find s (state_of names_per_group t).groups) ≡ some p)
every-name_of-table t h s n p l = every-name (test-regular names_per_group t h).0 s n p l
