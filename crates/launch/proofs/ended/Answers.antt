-- `launch::ended` meets its contract: what is known of the file, or how it ends. Assumes nothing.
use mathlib.Core.Path.{◌∙◌}
use Rattle.launch.proofs.ended.Goals as goal

pub returns-then-whole : goal.returns-then-whole
returns-then-whole c = λ g p B e. B.is_file c.if-whole.true

pub returns : goal.returns
returns c = λ g p B e. B.goes_on ∙ c.ends.ensures g p e
