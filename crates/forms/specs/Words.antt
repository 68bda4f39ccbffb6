-- The command words by name, and laws of comparing bytes with them. Assumes nothing.
use Rattle.std.specs.Prelude.{◌≡◌, refl, Bool, true, false, List, ℕ, eqb, Option, Some, None}
use Rattle.std.specs.Cmp.Lexicographic.{pointwise}
use Rattle.std.proofs.Common.{ap, sym, ◌∙◌}
use Rattle.std.proofs.lemmas.Slice.Eq.{bytes_eq-Decides}
use Rattle.semantics.specs.Test.{same}
use Rattle.semantics.specs.TestLaws.{same-iff}
use Rattle.text.specs.Text.{bytes}
use Rattle.forms.specs.Forms.{number_of}
use Rattle.forms.specs.declared.Word.{Word}
use Rattle.forms.specs.declared.Word.TheVariants.{RegisterName, ReRegisterName, UnregisterName, RegisteredNames, WhereisName, Send, NewSGroup, AddNodes, RemoveNodes, DeleteSGroup, OwnNodes, OwnSGroups}

-- the bytes of a command word
abbrev pub spelt : Word → List ℕ
spelt RegisterName = bytes "register_name"
spelt ReRegisterName = bytes "re_register_name"
spelt UnregisterName = bytes "unregister_name"
spelt RegisteredNames = bytes "registered_names"
spelt WhereisName = bytes "whereis_name"
spelt Send = bytes "send"
spelt NewSGroup = bytes "new_s_group"
spelt AddNodes = bytes "add_nodes"
spelt RemoveNodes = bytes "remove_nodes"
spelt DeleteSGroup = bytes "delete_s_group"
spelt OwnNodes = bytes "own_nodes"
spelt OwnSGroups = bytes "own_s_groups"

-- the number of the command with a word, where there is one, and so many arguments
abbrev pub number_with : Option Word → ℕ → ℕ
number_with None n = 0
number_with (Some w) n = number_of (spelt w) n

-- a comparison that fails, by what it says of equal words
pub differs : (s w : List ℕ) (r : Bool) → r ≡ false → (s ≡ w → r ≡ true) → same s w ≡ false
differs s w r e f = go (same s w) refl
  where
    go : (t : Bool) → same s w ≡ t → t ≡ false
    go true q = sym (f ((same-iff s w).0 q)) ∙ e
    go false q = refl

-- ---- bytes s are compared with v, which holds a word

-- they are that word
pub named : (s w v : List ℕ) (r : Bool) (n : ℕ) → v ≡ w → r ≡ pointwise eqb s v → r ≡ true → number_of s n ≡ number_of w n
named s w v r n e f h = ap (λ (x : List ℕ). number_of x n) ((bytes_eq-Decides s v).0 (sym f ∙ h) ∙ e)

-- they are not
pub unnamed : (s w v : List ℕ) (r : Bool) → v ≡ w → r ≡ pointwise eqb s v → r ≡ false → same s w ≡ false
unnamed s w v r e f h = differs s w r h (λ q. f ∙ (bytes_eq-Decides s v).1 (q ∙ sym e))
