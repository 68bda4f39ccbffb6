-- How large everything is, and where each part of the table begins; `node_limit` is the size of a roster. Nothing else spells these numbers. Assumes nothing.
use Rattle.std.specs.Prelude.{◌≡◌, refl, ℕ, ◌+◌, ◌*◌}
use Rattle.nodes.specs.NodeSets.{node_limit}

-- there are at most this many s_groups
abbrev pub group_limit : ℕ
group_limit = 32

-- an s_group holds at most this many names
abbrev pub names_per_group : ℕ
names_per_group = 32

-- s_group names lie below this; a contents word holds the count above the name
abbrev pub group_names : ℕ
group_names = 65536

-- where the contents words begin, one an s_group; before them: roster size, hidden nodes, number of s_groups, zero
abbrev pub contents_at : ℕ
contents_at = 4

-- where the members begin, one word an s_group
abbrev pub members_at : ℕ
members_at = contents_at + group_limit

-- where the connections begin, one word a node
abbrev pub links_at : ℕ
links_at = members_at + group_limit

-- where the free normal groups begin, one word a node
abbrev pub free_at : ℕ
free_at = links_at + node_limit

-- where the bodies begin: the words of the names, cap words an s_group
abbrev pub bodies_at : ℕ
bodies_at = free_at + node_limit

-- how many words a table has, with cap names an s_group
abbrev pub table_words : ℕ → ℕ
table_words cap = bodies_at + group_limit * cap

-- how many words a row of the index has
abbrev pub row_words : ℕ
row_words = 2

-- how many words an index has, with cap names an s_group: a row for each name that a table can hold
abbrev pub index_words : ℕ → ℕ
index_words cap = row_words * (group_limit * cap)

-- these are 01's figures, and 02's for the index
pub figures : (contents_at ≡ 4) × (members_at ≡ 36) × (links_at ≡ 68) × (free_at ≡ 132) × (bodies_at ≡ 196) × (table_words names_per_group ≡ 1220)
    × (index_words names_per_group ≡ 2048)
figures = (refl, refl, refl, refl, refl, refl, refl)
