-- Which bytes can follow the text in front of a place, so that some launch file begins with both. Definitions only. Assumes nothing.
use Rattle.std.specs.Prelude.{◌≡◌, Bool, true, ◌&&◌, cond, List, [], ◌∷◌, ◌++◌, ℕ, zero, suc, ◌-◌, leb, length, get_or, take}
use Rattle.nodes.specs.Sets.{with_node}
use Rattle.grammar.specs.File.{Outcome, taken, refused, outcome}
use Rattle.launch_expected.specs.declared.Trial.{Trial}

-- not refused in front of an end
abbrev pub unrefused : ℕ → Outcome → Bool
unrefused end (taken gs) = true
unrefused end (refused p) = leb end p

-- whether some launch file begins with a text: it is one, or only more bytes are missing
unfoldable pub begins : List ℕ → Bool
begins t = unrefused (length t) (outcome t)

-- whether bytes can follow what stands in a run in front of p; those for which the run has no room are not tried
unfoldable pub follows : List ℕ → ℕ → List ℕ → Bool
follows room p b = leb p (length room) && begins (take p room ++ take (length room - p) b)

-- of the first k of some bytes, the numbers of those that can follow, as a set
unfoldable pub following : List ℕ → ℕ → List ℕ → ℕ → ℕ
following room p bs zero = 0
following room p bs (suc k) = cond (follows room p (get_or bs k 0 ∷ [])) (with_node (following room p bs k) k) (following room p bs k)

-- the text is tried at the same place, behind the same bytes, with as much room
pub record Kept (old new : Trial) : Type 0 where
  pub place : new.place ≡ old.place
  pub length : length new.room.now ≡ length old.room.now
  pub front : take old.place new.room.now ≡ take old.place old.room.now
