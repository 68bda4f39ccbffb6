-- The answers of the namespace functions as the code takes them apart. Assumes nothing.
use Rattle.std.proofs.Common.{◌≡◌, refl, sym, ap, ◌∙◌, List, Bool, true, false, cond, ℕ, ◌+◌, ◌-◌, ◌*◌, take, drop}
use Rattle.std.proofs.Math.Option.{Option, none, some}
use Rattle.std.specs.Prelude.{is_ok, Result, Ok}
use Rattle.nodes.specs.Sets.{has}
use Rattle.entries.specs.Entries.{host, lookup}
use Rattle.entries.specs.Raw.{Found, found, answer_at, change_of, lookup_seen}
use Rattle.entries.specs.declared.Refusal.{Refusal}
use Rattle.entries.specs.declared.Seen.{Seen}
use Rattle.entries.specs.declared.Seen.TheVariants.{Inside, Outside}
use Rattle.semantics.specs.Sizes.{names_per_group, bodies_at}
use Rattle.semantics.specs.State.{State}
use Rattle.semantics.specs.Ranges.{held}
use Rattle.semantics.specs.Steps.{beside, looked}
use Rattle.semantics.specs.WordsOfState.{Laid}
use Rattle.names.specs.NamesAt.{Standing, counted, names_at}
use Rattle.names.specs.NamesHere.{changed, changed-here}
use Rattle.names.specs.Looked.{pid_with, looked_in}

-- a change is made where the name is held
pub changed-held : (x : Result Unit Refusal) (o : Option ℕ) → x ≡ changed o → is_ok x ≡ held o
changed-held x none e = rw e
changed-held x (some p) e = rw e

-- so whether it is made tells whether the name was held
pub told-held : {st : State} {t : List ℕ} (l : Laid names_per_group st t) (k : ℕ) (w : Standing k st) (b e : ℕ) → b ≡ bodies_at + names_per_group * k → e ≡ b + names_per_group
    → (count n : ℕ) → count ≡ counted k t → (x : Result Unit Refusal) → x ≡ change_of (found count n (take (e - b) (drop b t))) → is_ok x ≡ held (lookup n (names_at k st))
told-held {st} l k w b e eb ee count n many x told = changed-held x (lookup n (names_at k st)) (told ∙ rw many (changed-here l k w b e eb ee n))

-- a search finds the name where it is held
pub found-held : (i : ℕ) (x : Found) (o : Option ℕ) → x ≡ answer_at i o → is_ok x ≡ held o
found-held i x none e = rw e
found-held i x (some p) e = rw e

-- what the namespace tells by the members is what the lookup finds
pub seen-looked : (members : ℕ) (x : Result Seen Refusal) (o : Option ℕ) → x ≡ lookup_seen members o → looked members o ≡ looked_in x
seen-looked members x none e = ap looked_in (sym e)
seen-looked members x (some p) e = go (has members (host p)) ∙ ap looked_in (sym e)
  where
    go : (b : Bool) → pid_with p (beside b) ≡ looked_in (Ok (cond b (Inside p) (Outside p)))
    go true = refl
    go false = refl
