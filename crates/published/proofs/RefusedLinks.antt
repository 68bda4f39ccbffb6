-- What a refused lookup or send by another node does to the published state of a sound table. Assumes nothing.
use Rattle.std.specs.Prelude.{◌≡◌, true, false, List, ℕ}
use Rattle.std.proofs.Common.{sym, ap, ◌∙◌}
use Rattle.answers.specs.Answers.{after_inputs, Refused}
use Rattle.commands.specs.declared.Command.{Command}
use Rattle.semantics.specs.Sizes.{names_per_group}
use Rattle.semantics.specs.State.{State}
use Rattle.semantics.specs.Steps.{connect}
use Rattle.semantics.specs.Table.{state_of}
use Rattle.semantics.specs.Soundness.{Sound}
use Rattle.semantics.specs.Call.{call}
use Rattle.semantics.specs.Regular.{Regular}
use Rattle.semantics.specs.Connected.{regular-connect}
use Rattle.semantics.proofs.Agree.{test-regular, regular-test, sound-iff}
use Rattle.semantics.specs.Asks.{Asks}
use Rattle.semantics.proofs.Refused.{refused_links}
use Rattle.published.specs.Published.{AddConnections}
use Rattle.published.proofs.SeenState.{seen_table, seen-sound, layout-seen}
use Rattle.published.proofs.ConnectRule.{connects}

-- A refused call of node i that asks the node j: under the reasons of the input tests every word stays; under the later ones the table is sound, and
-- its published state is the one before with the connection of i and j
pub refused_connects : (room i j : ℕ) (c : Command) → Asks c j → (t : List ℕ) → Sound names_per_group t → Refused (call room i c t).answer
    → (after_inputs (call room i c t).answer.reason ≡ false → (call room i c t).table ≡ t)
    × (after_inputs (call room i c t).answer.reason ≡ true
    → Sound names_per_group (call room i c t).table × (seen_table (call room i c t).table ≡ AddConnections i j (seen_table t)))
refused_connects room i j c k t h n =
    let p = refused_links room i j c k t n in
    let st : State = state_of names_per_group t in
    let w : Regular names_per_group st = (test-regular names_per_group t ((sound-iff names_per_group t).1 h)).0 in (
      p.0,
      λ a.
          let q = p.1 a in
          let v : Regular names_per_group (connect i j st) = regular-connect w i j q.1 q.2 in
          rw q.3 (
            (sound-iff names_per_group _).0 (regular-test names_per_group (connect i j st) v),
            layout-seen (connect i j st) v ∙ connects st w i j q.1 q.2 ∙ ap (AddConnections i j) (sym (seen-sound t h)),
          ),
    )
