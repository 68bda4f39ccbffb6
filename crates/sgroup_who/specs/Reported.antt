-- Laws of `told` and `table_of`: the index that is written is the table's, the list in the run, runs of a script, which refusals there are, and how much is
-- said. Assumes nothing.
use Rattle.std.specs.Prelude.{◌≡◌, refl, ◌⊎◌, Bool, true, false, not, cond, eqb, leb, ltb, length, drop, replicate}
use Rattle.std.proofs.Common.{sym, ◌∙◌, inl, inr, ⊎_elim, true≢false, arith, length-append, eq-eqb, le-ltb, ltb-false}
use Rattle.std.proofs.Math.Path.{ap}
use mathlib.Core.List.{List, [], ◌∷◌}
use Prim.Native.Nat.{ℕ, ◌≤◌, ◌<◌}
use Rattle.std.proofs.Math.ListN.{take}
use Rattle.std.proofs.lemmas.List.{length-replicate}
use Rattle.std.proofs.Math.Seq.{take_at}
use Rattle.nodes.specs.Bools.{by_test}
use Rattle.entries.specs.Entries.{host}
use Rattle.answers.specs.Answers.{refuses}
use Rattle.answers.specs.declared.Answer.{Answer}
use Rattle.answers.specs.declared.Reason.TheVariants.{Done, TableLength, Unsound, NodeUnknown, RunShort, IndexWrong}
use Rattle.semantics.specs.Sizes.{names_per_group, table_words, index_words}
use Rattle.semantics.proofs.Agree.{test-regular}
use Rattle.semantics.specs.Table.{state_of}
use Rattle.semantics.specs.Test.{same, sound}
use Rattle.semantics.specs.TestLaws.{same-iff}
use Rattle.semantics.specs.FirstReason.{◌when◌, first}
use Rattle.semantics.specs.Call.{Call, listed_over}
use Rattle.step.specs.Lists.{count_of}
use Rattle.indexes.specs.Index.{index_of_table}
use Rattle.indexes.specs.IndexCalls.{written, names_in, read}
use Rattle.indexes.specs.Room.{names_few}
use Rattle.script.specs.Scripts.{lines_from, left, line_room, stop, runs}
use Rattle.script.specs.FirstLines.{lines-over}
use Rattle.script.specs.Whole.{run-told}
use Rattle.print.specs.Sheets.{sheet}
use Rattle.who_report.specs.Who.{who_lines}
use Rattle.who_report.specs.Length.{who-few}
use Rattle.sgroup_who.specs.Report.{list_room, reading, told, table_of, report}

-- ---- the index

-- a run that is no sound table is refused before its index is looked at
unread : (room p : ℕ) (t x y : List ℕ) → sound names_per_group t ≡ false → read room p t x ≡ read room p t y
unfolding read
unread room p t x y h =
    ⊎_elim
    (λ (e : eqb (length t) (table_words names_per_group) ≡ true). rw (e, h))
    (λ (e : eqb (length t) (table_words names_per_group) ≡ false). rw e)
    (by_test (eqb (length t) (table_words names_per_group)))

-- where it is one, the index that is written is its own
wrote : (t x : List ℕ) → length x ≡ index_words names_per_group → sound names_per_group t ≡ true → (written t x).index ≡ index_of_table names_per_group t
unfolding written
wrote t x n h = rw (eq-eqb (length t) (table_words names_per_group) (test-regular names_per_group t h).2, h, eq-eqb (length x) (index_words names_per_group) n)

-- so reading beside what was written is reading beside the table's index
pub read-written : (room p : ℕ) (t x : List ℕ) → length x ≡ index_words names_per_group
    → read room p t (written t x).index ≡ read room p t (index_of_table names_per_group t)
read-written room p t x n =
    ⊎_elim
    (λ (h : sound names_per_group t ≡ true). ap (read room p t) (wrote t x n h))
    (λ (h : sound names_per_group t ≡ false). unread room p t _ _ h)
    (by_test (sound names_per_group t))

-- ---- the list

-- the answer says how many words it has, and they fit the run
pub record Lists (room : ℕ) (c : Call) : Type 0 where
  pub count : count_of c.answer.value ≡ length c.list
  pub fits : length c.list ≤ room

either : {room : ℕ} (b : Bool) {x y : Call} → Lists room x → (b ≡ false → Lists room y) → Lists room (cond b x y)
either true h k = h
either false h k = k refl

-- a list that does not fit is refused
fitting : (a b d n s : Bool) → refuses (first (TableLength when a ∷ Unsound when b ∷ IndexWrong when d ∷ NodeUnknown when n ∷ RunShort when s ∷ [])) ≡ false → s ≡ false
fitting true b d n s e = absurd (true≢false e)
fitting false true d n s e = absurd (true≢false e)
fitting false false true n s e = absurd (true≢false e)
fitting false false false true s e = absurd (true≢false e)
fitting false false false false true e = absurd (true≢false e)
fitting false false false false false e = refl

pub read-lists : (room p : ℕ) (t x : List ℕ) → Lists room (read room p t x)
unfolding read
read-lists room p t x =
    either _ (record { count = refl; fits = omega arith })
    (λ e. record { count = refl; fits = ltb-false _ _ (fitting (not (eqb (length t) (table_words names_per_group))) (not (sound names_per_group t)) (not (same x (index_of_table names_per_group t))) (leb (state_of names_per_group t).size (host p)) (ltb room (length (names_in p (state_of names_per_group t)))) e) })

-- the index i of the table t is written over zeros; reading by p beside it answers a, and leaves its list at the front of v, where zeros stood: as many words
-- as a says
module _ (p : ℕ) (t i v : List ℕ) (a : Answer) (n : ℕ) (h : i ≡ (written t (replicate (index_words names_per_group) 0)).index)
    (e : a ≡ (read list_room p t i).answer) (f : v ≡ listed_over (read list_room p t i).list (replicate list_room 0)) (k : n ≡ count_of a.value) where
  many : n ≡ length (read list_room p t i).list
  many = k ∙ ap (λ (b : Answer). count_of b.value) e ∙ (read-lists list_room p t i).count

  pub list-within : n ≤ length v
  list-within = omega (arith, many, simp length-append at (ap length f))

  pub told-by : who_lines p (take n v) a ≡ told p t
  unfolding told
  told-by =
      let l : List ℕ = (read list_room p t i).list in
      let m : take n v ≡ l = ap (take n) f ∙ take_at l (drop (length l) (replicate list_room 0)) n (sym many) in
      let q : read list_room p t i ≡ reading p t = rw h (read-written list_room p t (replicate (index_words names_per_group) 0) (length-replicate {A = ℕ} _ 0)) in
      rw (m, e, q)

-- ---- the script

-- a run goes on by a line, and what all lines leave is what those that are left leave
pub ran_on : (script : List ℕ) (i : ℕ) (t out : List ℕ) (next len : ℕ) (u made : List ℕ)
    → stop next u (sheet made len) ≡ runs (lines_from script i) i t (sheet out 0) → i < length script → line_room ≤ length out
    → (left u (lines_from script next) ≡ left t (lines_from script i)) × (i < next)
unfolding sheet stop
ran_on script i t out next len u made e h m = let w = run-told script i t out next len u made e in (w.table, w.moves h m)

pub ran_out : (script : List ℕ) (i : ℕ) (t : List ℕ) → length script ≤ i → left t (lines_from script i) ≡ t
unfolding left
ran_out script i t h = rw (lines-over script i h)

pub after-script : (p : ℕ) (script t : List ℕ) → t ≡ left (replicate (table_words names_per_group) 0) (lines_from script 0) → told p t ≡ report p script
unfolding table_of
after-script p script t e = ap (told p) e

-- ---- which refusals there are

-- no list is too long for the room, so that a run of a table's length is refused under 3 and 7 alone
pub refused_under : (p : ℕ) (t : List ℕ) → length t ≡ table_words names_per_group
    → ((reading p t).answer.reason ≡ Done) ⊎ (((reading p t).answer.reason ≡ Unsound) ⊎ ((reading p t).answer.reason ≡ NodeUnknown))
unfolding read
refused_under p t n =
    ⊎_elim
    (λ (h : sound names_per_group t ≡ true).
    let few = names_few p names_per_group (state_of names_per_group t) (test-regular names_per_group t h).0 in
    let own : same (index_of_table names_per_group t) (index_of_table names_per_group t) ≡ true = (same-iff (index_of_table names_per_group t) (index_of_table names_per_group t)).1 refl in
    ⊎_elim
    (λ (k : leb (state_of names_per_group t).size (host p) ≡ true). inr (inr (rw (eq-eqb (length t) (table_words names_per_group) n, h, own, k))))
    (λ (k : leb (state_of names_per_group t).size (host p) ≡ false).
    inl (rw (eq-eqb (length t) (table_words names_per_group) n, h, own, k, le-ltb list_room (length (names_in p (state_of names_per_group t))) few)))
    (by_test (leb (state_of names_per_group t).size (host p))))
    (λ (h : sound names_per_group t ≡ false). inr (inl (rw (eq-eqb (length t) (table_words names_per_group) n, h))))
    (by_test (sound names_per_group t))

-- ---- how much is said

-- all of it fits in so many bytes
pub told-few : (p : ℕ) (t : List ℕ) → length (told p t) ≤ 4096
unfolding told
told-few p t = omega (arith, who-few p (reading p t).list (reading p t).answer, (read-lists list_room p t (index_of_table names_per_group t)).fits)
