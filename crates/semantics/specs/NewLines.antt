-- How many s_groups script lines can make. Definitions only. Assumes nothing.
use Rattle.std.specs.Prelude.{cond, List, [], ◌∷◌, ℕ, ◌+◌}
use Rattle.semantics.specs.GroupCommands.{creates}
use Rattle.semantics.specs.Lines.{Line}

-- how many s_groups a line can make
abbrev pub cost : Line → ℕ
cost l = cond (creates l.command) 1 0

-- how many of the lines are new_s_group
abbrev pub news : List Line → ℕ
news [] = 0
news (l ∷ ls) = cost l + news ls

-- how many lines of the scripts are new_s_group, refused ones too
abbrev pub all_news : List (List Line) → ℕ
all_news [] = 0
all_news (s ∷ ss) = news s + all_news ss
