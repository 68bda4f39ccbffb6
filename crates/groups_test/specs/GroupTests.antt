-- What the soundness test computes, part by part. Assumes nothing.
use Rattle.std.specs.Prelude.{Bool, not, ◌&&◌, Option, List, ℕ, zero, suc, ◌+◌, ◌-◌, ◌*◌, min, eqb, leb, ltb, take, drop}
use Rattle.std.specs.Bool.{then_some}
use Rattle.nodes.specs.Sets.{node_limit, empty, roster, diff, beyond, union_all}
use Rattle.entries.specs.NamespaceSound.{sound_words}
use Rattle.semantics.specs.Sizes.{group_limit, contents_at, members_at, links_at, free_at, bodies_at, table_words}
use Rattle.semantics.specs.Soundness.{hidden_of, name_of, names_of, members_of}
use Rattle.free_test.specs.WireTests.{all_below, all_zero, links_sound, members_met, free_sound}

-- the name of the s_group before group g, and 0 before the first
abbrev pub name_before : List ℕ → ℕ → ℕ
name_before t zero = 0
name_before t (suc g) = name_of t g

-- group g's name is above the one before it, and it has at most cap names
abbrev pub contents_right : ℕ → List ℕ → ℕ → Bool
contents_right cap t g = ltb (name_before t g) (name_of t g) && leb (names_of t g) cap

-- group g has a member, and its members are among the first n nodes
abbrev pub members_right : List ℕ → ℕ → ℕ → Bool
members_right t n g = not (empty (members_of t g)) && not (beyond (members_of t g) n)

-- ---- the parts of the table

-- the words from a up to b
abbrev pub part : List ℕ → ℕ → ℕ → List ℕ
part t a b = take (b - a) (drop a t)

-- the members of all s_groups that there can be
abbrev pub members_part : List ℕ → List ℕ
members_part t = part t members_at links_at

-- the connections of all nodes
abbrev pub links_part : List ℕ → List ℕ
links_part t = part t links_at free_at

-- the free normal groups of all nodes
abbrev pub free_part : List ℕ → List ℕ
free_part t = part t free_at bodies_at

-- the members of group g are all connected
abbrev pub met_right : List ℕ → ℕ → Bool
met_right t g = members_met (links_part t) (members_of t g)

-- the words of group g's names
abbrev pub body : ℕ → List ℕ → ℕ → List ℕ
body cap t g = take cap (drop (bodies_at + cap * g) t)

-- the names of group g are a sound namespace with hosts among the first n nodes
abbrev pub names_right : ℕ → List ℕ → ℕ → ℕ → Bool
names_right cap t n g = sound_words n (names_of t g) (body cap t g)

-- ---- the whole

-- the head: roster size, hidden nodes on the roster, number of s_groups, zero
abbrev pub head_right : ℕ → ℕ → ℕ → ℕ → Bool
head_right N hidden G spare = leb 1 N && (leb N node_limit && (leb G group_limit && (eqb spare 0 && not (beyond hidden N))))

-- contents, members and names past the first G s_groups are zero
abbrev pub unused_zero : ℕ → List ℕ → ℕ → Bool
unused_zero cap t G =
    all_zero (part t (contents_at + G) members_at)
    && (all_zero (part t (members_at + G) links_at) && all_zero (part t (bodies_at + cap * G) (table_words cap)))

-- the nodes in one of the first G s_groups
abbrev pub grouped_in : List ℕ → ℕ → ℕ
grouped_in t G = union_all (take G (members_part t))

-- what contents and members come to: the nodes in an s_group where all is right with them
abbrev pub grouped_of : ℕ → List ℕ → ℕ → ℕ → Option ℕ
grouped_of cap t G n = then_some (all_below G (contents_right cap t) && all_below G (members_right t n)) (grouped_in t G)

-- of the first n nodes, those that are neither hidden nor among those in an s_group
abbrev pub loose_in : List ℕ → ℕ → ℕ → ℕ
loose_in t in_group n = diff (diff (roster (min n node_limit)) (hidden_of t)) in_group

-- all that follows contents and members, for G s_groups, n nodes, and those of them in an s_group
abbrev pub rest_right : ℕ → List ℕ → ℕ → ℕ → ℕ → Bool
rest_right cap t G n in_group =
    links_sound (links_part t) n
    && (all_below G (met_right t)
    && (free_sound (links_part t) (free_part t) (loose_in t in_group n) n && (unused_zero cap t G && all_below G (names_right cap t n))))

-- all that follows the head, for G s_groups and n nodes
abbrev pub parts_right : ℕ → List ℕ → ℕ → ℕ → Bool
parts_right cap t G n =
    all_below G (contents_right cap t) && all_below G (members_right t n) && rest_right cap t G n (grouped_in t G)
