-- What document 01 writes for a value: its output word, the place of that word and the numbers after it. Definitions only. Assumes nothing.
use Rattle.std.specs.Prelude.{List, [], ◌∷◌, ℕ}
use Rattle.answers.specs.declared.Value.{Value}
use Rattle.answers.specs.declared.Value.TheVariants.{Ok, True, False, Error, Undefined, Pid, Grouped, Nodes, Listed}

-- the place of a value's output word, from 1
abbrev pub kind : Value → ℕ
kind Ok = 1
kind True = 2
kind False = 3
kind Error = 4
kind Undefined = 5
kind (Pid p) = 6
kind (Grouped s set) = 7
kind (Nodes set k) = 8
kind (Listed k) = 9

-- the output word of a value, in ASCII: ok, true, false, error, undefined, pid, group, nodes, list
abbrev pub output_word : Value → List ℕ
output_word Ok = 111 ∷ 107 ∷ []
output_word True = 116 ∷ 114 ∷ 117 ∷ 101 ∷ []
output_word False = 102 ∷ 97 ∷ 108 ∷ 115 ∷ 101 ∷ []
output_word Error = 101 ∷ 114 ∷ 114 ∷ 111 ∷ 114 ∷ []
output_word Undefined = 117 ∷ 110 ∷ 100 ∷ 101 ∷ 102 ∷ 105 ∷ 110 ∷ 101 ∷ 100 ∷ []
output_word (Pid p) = 112 ∷ 105 ∷ 100 ∷ []
output_word (Grouped s set) = 103 ∷ 114 ∷ 111 ∷ 117 ∷ 112 ∷ []
output_word (Nodes set k) = 110 ∷ 111 ∷ 100 ∷ 101 ∷ 115 ∷ []
output_word (Listed k) = 108 ∷ 105 ∷ 115 ∷ 116 ∷ []

-- the numbers that follow the output word; a list's own words come after them
abbrev pub numbers : Value → List ℕ
numbers Ok = []
numbers True = []
numbers False = []
numbers Error = []
numbers Undefined = []
numbers (Pid p) = p ∷ []
numbers (Grouped s set) = s ∷ set ∷ []
numbers (Nodes set k) = set ∷ k ∷ []
numbers (Listed k) = k ∷ []
