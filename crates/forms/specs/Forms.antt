-- The fifteen commands as a script writes them, and the number of each: its place in this list, from 1. Assumes nothing.
use Rattle.std.specs.Prelude.{Bool, true, false, ◌&&◌, cond, List, [], ◌∷◌, ℕ, suc, eqb}
use Rattle.std.specs.Prelude as Prelude
use Rattle.std.proofs.Math.Option.{Option, none, some}
use Rattle.commands.specs.declared.Command.{Command}
use Rattle.commands.specs.declared.Command.TheVariants.{RegisterName, ReRegisterName, UnregisterName, RegisteredNames, WhereisName, WhereisNameAt, Send, SendName, SendAt, NewSGroup, AddNodes, RemoveNodes, DeleteSGroup, OwnNodes, OwnSGroups}
use Rattle.semantics.specs.Test.{same}
use Rattle.text.specs.Text.{bytes}

-- a command word with a number of arguments; whether the second is a set of nodes, of 64 bits; the command that it is: its arguments of 32 bits
-- are a, b and c in their order, and set is the set of nodes
pub record Form : Type 0 where
  pub word : List ℕ
  pub arguments : ℕ
  pub takes_set : Bool
  pub command : (a b c set : ℕ) → Command

-- a form whose arguments all have 32 bits
abbrev pub narrow_form : List ℕ → ℕ → (ℕ → ℕ → ℕ → Command) → Form
narrow_form w n f = record { word = w; arguments = n; takes_set = false; command = λ a b c set. f a b c }

-- a form that takes an s_group and a set of nodes
abbrev pub set_form : List ℕ → (ℕ → ℕ → Command) → Form
set_form w f = record { word = w; arguments = 2; takes_set = true; command = λ a b c set. f a set }

-- the fifteen commands in 01's order
unfoldable pub forms : List Form
forms =
    narrow_form (bytes "register_name") 3 (λ s n p. RegisterName s n p)
    ∷ narrow_form (bytes "re_register_name") 3 (λ s n p. ReRegisterName s n p)
    ∷ narrow_form (bytes "unregister_name") 2 (λ s n c. UnregisterName s n)
    ∷ narrow_form (bytes "registered_names") 1 (λ s b c. RegisteredNames s)
    ∷ narrow_form (bytes "whereis_name") 2 (λ s n c. WhereisName s n)
    ∷ narrow_form (bytes "whereis_name") 3 (λ j s n. WhereisNameAt j s n)
    ∷ narrow_form (bytes "send") 1 (λ p b c. Send p)
    ∷ narrow_form (bytes "send") 2 (λ s n c. SendName s n)
    ∷ narrow_form (bytes "send") 3 (λ j s n. SendAt j s n)
    ∷ set_form (bytes "new_s_group") (λ s set. NewSGroup s set)
    ∷ set_form (bytes "add_nodes") (λ s set. AddNodes s set)
    ∷ set_form (bytes "remove_nodes") (λ s set. RemoveNodes s set)
    ∷ narrow_form (bytes "delete_s_group") 1 (λ s b c. DeleteSGroup s)
    ∷ narrow_form (bytes "own_nodes") 0 (λ a b c. OwnNodes)
    ∷ narrow_form (bytes "own_s_groups") 0 (λ a b c. OwnSGroups)
    ∷ []

-- the number of the form with this word and so many arguments, counted from k, or 0 where there is none
unfoldable pub number_from : ℕ → List ℕ → ℕ → List Form → ℕ
number_from k w n [] = 0
number_from k w n (f ∷ fs) = cond (same w f.word && eqb n f.arguments) k (number_from (suc k) w n fs)

-- the number of the command with this word and so many arguments
unfoldable pub number_of : List ℕ → ℕ → ℕ
number_of w n = number_from 1 w n forms

-- the form of a number, counted from k, where there is one
unfoldable pub form_from : ℕ → ℕ → List Form → Option Form
form_from k number [] = none
form_from k number (f ∷ fs) = cond (eqb number k) (some f) (form_from (suc k) number fs)

unfoldable pub form_of : ℕ → Option Form
form_of number = form_from 1 number forms

-- a form's command with its arguments
abbrev pub filled : Option Form → (a b c set : ℕ) → Prelude.Option Command
filled none a b c set = Prelude.None
filled (some f) a b c set = Prelude.Some (f.command a b c set)

-- the command of a number with its arguments
unfoldable pub command_of : (number a b c set : ℕ) → Prelude.Option Command
command_of number = filled (form_of number)

-- whether a form takes a set of nodes
abbrev pub with_set : Option Form → Bool
with_set none = false
with_set (some f) = f.takes_set

-- whether the command of a number does
unfoldable pub takes_set : ℕ → Bool
takes_set number = with_set (form_of number)
