-- What the functions' proofs rest on: a run goes on or ends with each byte. Assumes nothing.
use Rattle.tokens.specs.Within.{run_past, run_ends, run-goes_on, run-within, passes-four}
use Rattle.tokens.specs.Words.{none-ends-so, none-so-long}

-- the byte at a place
pub ruleset run_steps = (run_past, run_ends, run-goes_on)

-- where a run ends
pub ruleset run_ahead = run-within

-- four bytes of a run
pub ruleset four_steps = passes-four

-- which words are not reserved
pub ruleset unreserved = (none-ends-so, none-so-long)
