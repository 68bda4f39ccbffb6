-- Laws of `number`: it tells reasons apart, as `==` does. Assumes nothing.
use Rattle.std.specs.Prelude.{◌≡◌, refl, Bool, false, eqb}
use Rattle.std.proofs.Common.{sym, ◌∙◌}
use denote.Enum.Declared.{tag_of}
use denote.Enum.Bare.{sameb, false_same}
use Rattle.answers.specs.Answers.{number}
use Rattle.answers.specs.declared.Reason.{Reason}
use Rattle.answers.specs.declared.Reason.TheVariants.{Done, TableLength, RosterSize, Unsound, CallerUnknown, GroupNameRange, NameZero, NodeUnknown, GroupUnknown, NotMember, NameTaken, PidTaken, NotRegistered, NamespaceFull, CallerOutside, GroupTaken, GroupsFull, RunShort, NoLaunchFile, GroupsDiffer, AtomUnknown, HostOutside, IndexWrong}
use Rattle.answers.specs.contracts.Reason.{the_type}

-- the number is the place in the enum
number-tag : (r : Reason) → number r ≡ tag_of the_type r
number-tag Done = refl
number-tag TableLength = refl
number-tag RosterSize = refl
number-tag Unsound = refl
number-tag CallerUnknown = refl
number-tag GroupNameRange = refl
number-tag NameZero = refl
number-tag NodeUnknown = refl
number-tag GroupUnknown = refl
number-tag NotMember = refl
number-tag NameTaken = refl
number-tag PidTaken = refl
number-tag NotRegistered = refl
number-tag NamespaceFull = refl
number-tag CallerOutside = refl
number-tag GroupTaken = refl
number-tag GroupsFull = refl
number-tag RunShort = refl
number-tag NoLaunchFile = refl
number-tag GroupsDiffer = refl
number-tag AtomUnknown = refl
number-tag HostOutside = refl
number-tag IndexWrong = refl

-- what `==` answers
pub same-number : (r q : Reason) → sameb the_type r q ≡ eqb (number r) (number q)
same-number r q = rw (number-tag r, number-tag q)

-- other reasons have other numbers
pub other-number : (r q : Reason) → (r ≡ q → ⊥) → eqb (number r) (number q) ≡ false
other-number r q f = sym (same-number r q) ∙ false_same the_type tt r q f
