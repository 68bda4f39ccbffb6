-- What was read, where an answer is kept as an option. Assumes nothing.
use Rattle.std.specs.Prelude.{◌≡◌, ℕ, Option, Some, Result, Ok, Err}
use Rattle.std.specs.Result.{result_ok}

-- where the option holds a value, that was read
pub was_read : {T : Type 0} (r : Result T ℕ) (x : T) {o : Option T} → o ≡ result_ok r → o ≡ Some x → r ≡ Ok x
was_read (Ok y) x e h = cc
was_read (Err p) x e h = cc
