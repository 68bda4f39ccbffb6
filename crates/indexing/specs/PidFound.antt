-- What a search for a name tells of its pid. Assumes nothing.
use Rattle.std.proofs.Math.Option as maybe
use Rattle.std.specs.Prelude.{◌≡◌, refl, ℕ, Option, Some, None, Ok, Err}
use Rattle.std.specs.Result.{result_ok}
use Rattle.entries.specs.Raw.{Found}

-- the pid where one is told
abbrev pub pid_found : Option ℕ → maybe.Option ℕ
pid_found (Some p) = maybe.some p
pid_found None = maybe.none

-- the pid beside an index, where one is told
abbrev pub pid_beside : Option (ℕ × ℕ) → maybe.Option ℕ
pid_beside (Some f) = maybe.some f.1
pid_beside None = maybe.none

-- the pid that a search found
abbrev pub found_pid : Found → maybe.Option ℕ
found_pid (Ok f) = maybe.some f.1
found_pid (Err r) = maybe.none

pub beside-found : (f : Found) → pid_beside (result_ok f) ≡ found_pid f
beside-found (Ok f) = refl
beside-found (Err r) = refl
