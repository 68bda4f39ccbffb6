-- What an opening with an index gives, by the length of its run. Assumes nothing.
use Rattle.std.specs.Prelude.{◌≡◌, Bool, not, ◌||◌, List, [], ℕ, eqb, length}
use Rattle.std.proofs.Math.Path.{refl}
use Rattle.std.proofs.Common.{sym, ap, ◌∙◌, eq-eqb, ne_eqb}
use Rattle.std.proofs.Math.Bool.{true, false, cond}
use Rattle.std.proofs.Math.Dec.{ltb}
use Rattle.std.proofs.Math.ListN.{replicate}
use Rattle.nodes.specs.Sets.{node_limit, beyond}
use Rattle.answers.specs.Answers.{number, refuses, answer_of}
use Rattle.semantics.specs.Sizes.{names_per_group, table_words, index_words}
use Rattle.semantics.specs.Call.{Call, refused, opening}
use Rattle.semantics.specs.Steps as Steps
use Rattle.inputs.specs.Judge.{is_done}
use Rattle.semantics.specs.Table.{layout}
use Rattle.answers.specs.declared.Answer.{Answer}
use Rattle.answers.specs.declared.Value.TheVariants.{Ok}
use Rattle.answers.specs.declared.Reason.{Reason}
use Rattle.answers.specs.declared.Reason.TheVariants.{Done, TableLength, RosterSize, NodeUnknown, IndexWrong}
use Rattle.indexes.specs.IndexCalls.{left, opened}

module _ (N hidden : ℕ) (t x : List ℕ) where
  -- an index of the right length: it is the opening, and the index becomes zero where that is done
  opened-fitting : length x ≡ index_words names_per_group
      → opened N hidden t x ≡ record { given = opening N hidden t; index = cond (eqb (number (opening N hidden t).answer.reason) 0) (replicate (index_words names_per_group) 0) x }
  unfolding opened opening
  opened-fitting e =
      rw (eq-eqb (length x) (index_words names_per_group))
      (go (not (eqb (length t) (table_words names_per_group))) (eqb N 0 || ltb node_limit N) (beyond hidden N))
    where
      given : Call
      given = record { answer = answer_of Ok Done; list = []; table = layout names_per_group (Steps.opened N hidden) }

      zeros : List ℕ
      zeros = replicate (index_words names_per_group) 0

      go : (a b d : Bool) → let r : Reason = cond a TableLength (cond b RosterSize (cond d NodeUnknown Done)) in
          let c : Call = cond (refuses r) (refused r t) given in
          cond (refuses r) (left r t x) (record { given = c; index = zeros }) ≡ record { given = c; index = cond (eqb (number c.answer.reason) 0) zeros x }
      go true b d = refl
      go false true d = refl
      go false false true = refl
      go false false false = refl

  -- an index of another length: why it is refused
  abbrev why : Reason
  why = cond (not (eqb (length t) (table_words names_per_group))) TableLength (cond (eqb N 0 || ltb node_limit N) RosterSize IndexWrong)

  pub opened-misfit : (length x ≡ index_words names_per_group → ⊥) → opened N hidden t x ≡ left why t x
  unfolding opened
  opened-misfit e =
      rw (ne_eqb (length x) (index_words names_per_group) e)
      (go (not (eqb (length t) (table_words names_per_group))) (eqb N 0 || ltb node_limit N))
    where
      go : (a b : Bool) → let r : Reason = cond a TableLength (cond b RosterSize IndexWrong) in
          cond (refuses r) (left r t x) (record { given = opening N hidden t; index = replicate (index_words names_per_group) 0 }) ≡ left r t x
      go true b = refl
      go false true = refl
      go false false = refl

  -- ---- as the opening answers

  module _ (e : length x ≡ index_words names_per_group) {a : Answer} (gives : a ≡ (opening N hidden t).answer) where
    by-answer : {b : Bool} → is_done a.reason ≡ b → opened N hidden t x ≡ record { given = opening N hidden t; index = cond b (replicate (index_words names_per_group) 0) x }
    by-answer {b} h =
        opened-fitting e
        ∙ ap (λ (d : Bool). record { given = opening N hidden t; index = cond d (replicate (index_words names_per_group) 0) x }) (ap (λ (d : Answer). is_done d.reason) (sym gives) ∙ h)

    -- an opening that is done
    pub opened-zeroed : is_done a.reason ≡ true → opened N hidden t x ≡ record { given = opening N hidden t; index = replicate (index_words names_per_group) 0 }
    opened-zeroed = by-answer

    -- one that is refused
    pub opened_left : is_done a.reason ≡ false → opened N hidden t x ≡ record { given = opening N hidden t; index = x }
    opened_left = by-answer
