-- What leaves a function at a `?` is the refusal that was met there. Assumes nothing.
use Rattle.std.specs.Prelude.{◌≡◌, Result, Ok, Err, IsErrAnd, ℕ}
use Rattle.std.proofs.Common.{ap}

pub handed_on : {T : Type 0} {p : ℕ} (r : Result T ℕ) → IsErrAnd r (λ q. q ≡ p) → r ≡ Err p
handed_on (Ok x) h = absurd h
handed_on (Err q) h = ap Err h
