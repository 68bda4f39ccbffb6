-- After every call that is not refused under 1, 3 or 22, and after every opening that is not refused, the index is that of the table that is left.
-- Assumes nothing.
use Rattle.std.specs.Prelude.{◌≡◌, refl, Bool, true, false, not, ◌||◌, cond, List, ℕ, ◌^◌, ◌≤◌, eqb, ltb, length, replicate}
use Rattle.std.proofs.Common.{sym, ap, ◌∙◌, true≢false, arith, ltb-false, leb-false}
use Rattle.std.proofs.lemmas.Bool.{eqb-false}
use Rattle.nodes.specs.Sets.{node_limit, beyond}
use Rattle.answers.specs.Answers.{refuses}
use Rattle.commands.specs.declared.Command.{Command}
use Rattle.semantics.specs.Sizes.{names_per_group, table_words, index_words}
use Rattle.semantics.specs.Steps as Steps
use Rattle.semantics.proofs.RoundTrip.{round_trip}
use Rattle.semantics.specs.OpenedRegular.{opened-regular}
use Rattle.semantics.specs.Truth.{neither}
use Rattle.semantics.specs.FirstReason.{first}
use Rattle.semantics.specs.Call.{call, opening}
use Rattle.answers.specs.declared.Reason.TheVariants.{Done, TableLength, RosterSize, NodeUnknown, IndexWrong}
use Rattle.indexes.specs.Index.{walk, sorted, flat, index_of, index_of_table}
use Rattle.indexes.specs.IndexCalls.{no_index, indexed, opening_tests, opened}

-- a call gives what it gives without an index, and leaves the index of its table
pub as_without : (room i : ℕ) (c : Command) (t x : List ℕ) → refuses (first (no_index t x)) ≡ false
    → ((indexed room i c t x).given ≡ call room i c t) × ((indexed room i c t x).index ≡ index_of_table names_per_group (call room i c t).table)
unfolding indexed
as_without room i c t x e = rw e (refl, refl)

-- zeros are the index of a state without s_groups
no_rows : (N hidden : ℕ) → index_of names_per_group (Steps.opened N hidden) ≡ replicate (index_words names_per_group) 0
unfolding index_of Steps.opened walk sorted flat
no_rows N hidden = refl

-- an opening that is not refused passed all four tests
passed : (a b m d : Bool) → refuses (cond a TableLength (cond b RosterSize (cond m IndexWrong (cond d NodeUnknown Done)))) ≡ false
    → (a ≡ false) × (b ≡ false) × (m ≡ false) × (d ≡ false)
passed true b m d e = absurd (true≢false e)
passed false true m d e = absurd (true≢false e)
passed false false true d e = absurd (true≢false e)
passed false false false true e = absurd (true≢false e)
passed false false false false e = (refl, refl, refl, refl)

pub opened_left : (N hidden : ℕ) (t x : List ℕ) → refuses (first (opening_tests N hidden t x)) ≡ false
    → ((opened N hidden t x).given ≡ opening N hidden t) × ((opened N hidden t x).index ≡ index_of_table names_per_group (opening N hidden t).table)
unfolding opened opening
opened_left N hidden t x e =
    let q = passed (not (eqb (length t) (table_words names_per_group))) (eqb N 0 || ltb node_limit N) (not (eqb (length x) (index_words names_per_group))) (beyond hidden N) e in
    let n = neither (eqb N 0) (ltb node_limit N) q.1 in
    let low : 1 ≤ N = omega (arith, eqb-false N 0 n.0) in
    let w = opened-regular N hidden low (ltb-false node_limit N n.1) (leb-false (2 ^ N) hidden q.3) names_per_group in
    rw (q.0, q.1, q.2, q.3)
    (refl, sym (ap (index_of names_per_group) (round_trip names_per_group (Steps.opened N hidden) w) ∙ no_rows N hidden))
