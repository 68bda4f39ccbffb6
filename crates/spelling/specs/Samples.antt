-- Launch files as terms: their texts, and which terms are none. Assumes nothing.
use Rattle.std.specs.Prelude.{◌≡◌, refl, Bool, true, false, List, [], ◌∷◌, ◌++◌, ℕ, zero, suc, get_or, replicate}
use Rattle.tokens.specs.Bytes.{name_byte}
use Rattle.tokens.specs.Reserved.{bytes, is_reserved, among, reserved_words}
use Rattle.grammar.specs.File.{list, tuple}
use Rattle.spelling.specs.Spelling.{Form, bare, in_quotes, Atom, Value, atomic, numeric, nested, no_more, item, Pair, Entry, Around, LaunchFile, groups_of, all, well_named, good_number, good_value, depth, good_pair, some_node, good_entry, good_around, well_formed, value_tokens, leading, trailing, separated, pair_tokens, entry_tokens, entries_tokens, around_tokens, file_tokens, token_bytes, spaced, spell}

-- no other pairs
abbrev alone : Around
alone = record { before = []; form = bare; behind = [] }

-- one other pair in front
abbrev beside : Pair → Around
beside p = record { before = p ∷ []; form = bare; behind = [] }

-- a file with these groups and no other pairs
abbrev file_of : List Entry → LaunchFile
file_of es = record { outer = alone; inner = alone; entries = es }

-- no white space
abbrev tight : ℕ → List ℕ
tight n = []

-- ---- the least file

the-least : spell tight (file_of []) ≡ bytes "[{kernel,[{s_groups,[]}]}]."
unfolding spell spaced token_bytes file_tokens around_tokens entries_tokens leading trailing separated
the-least = refl

-- ---- the first listing of 000, section 4.1, with its brackets as Erlang has them

-- a node of that listing
abbrev at_glasgow : List ℕ → Atom
at_glasgow n = record { form = in_quotes; name = n ++ bytes "@glasgow.ac.uk" }

abbrev group : List ℕ → List Atom → Entry
group n nodes = record { name = record { form = bare; name = n }; normal = bare; nodes = nodes }

abbrev three_groups : LaunchFile
three_groups =
    file_of
    (group (bytes "group1") (at_glasgow (bytes "node1") ∷ at_glasgow (bytes "node2") ∷ at_glasgow (bytes "node3") ∷ at_glasgow (bytes "node4") ∷ [])
    ∷ group (bytes "group2") (at_glasgow (bytes "node3") ∷ at_glasgow (bytes "node5") ∷ at_glasgow (bytes "node6") ∷ [])
    ∷ group (bytes "group3") (at_glasgow (bytes "node4") ∷ at_glasgow (bytes "node7") ∷ at_glasgow (bytes "node8") ∷ [])
    ∷ [])

-- its white space: a list of what stands in front of each token, and then none
abbrev laid_out : List (List ℕ) → ℕ → List ℕ
laid_out gaps n = get_or gaps n []

abbrev three_lines : List (List ℕ)
three_lines =
    (replicate 4 [] ++ (bytes " " ∷ (replicate 3 [] ++ (bytes "\n  " ∷ replicate 3 []))))
    ++ (bytes " " ∷ [] ∷ bytes " " ∷ [] ∷ [] ∷ bytes " " ∷ [] ∷ bytes "\n    " ∷ [] ∷ bytes " " ∷ replicate 3 [])
    ++ (bytes "\n  " ∷ [] ∷ [] ∷ bytes " " ∷ [] ∷ bytes " " ∷ [] ∷ [] ∷ bytes " " ∷ [] ∷ bytes "\n    " ∷ replicate 3 [])
    ++ (bytes "\n  " ∷ [] ∷ [] ∷ bytes " " ∷ [] ∷ bytes " " ∷ [] ∷ [] ∷ bytes " " ∷ [] ∷ bytes "\n    " ∷ replicate 8 [])
    ++ (bytes "\n" ∷ [])

the-listing :
    spell (laid_out three_lines) three_groups
    ≡ bytes "[{kernel, [{s_groups,\n  [{group1, normal, ['node1@glasgow.ac.uk', 'node2@glasgow.ac.uk',\n    'node3@glasgow.ac.uk', 'node4@glasgow.ac.uk']},\n  {group2, normal, ['node3@glasgow.ac.uk', 'node5@glasgow.ac.uk',\n    'node6@glasgow.ac.uk']},\n  {group3, normal, ['node4@glasgow.ac.uk', 'node7@glasgow.ac.uk',\n    'node8@glasgow.ac.uk']}]}]}].\n"
unfolding spell spaced token_bytes file_tokens around_tokens entries_tokens entry_tokens leading trailing separated
the-listing = refl

its-form : well_formed three_groups ≡ true
unfolding well_formed good_around good_entry some_node well_named all name_byte is_reserved among reserved_words
its-form = refl

its-groups :
    groups_of three_groups
    ≡ record { name = bytes "group1"; nodes = bytes "node1@glasgow.ac.uk" ∷ bytes "node2@glasgow.ac.uk" ∷ bytes "node3@glasgow.ac.uk" ∷ bytes "node4@glasgow.ac.uk" ∷ [] }
    ∷ record { name = bytes "group2"; nodes = bytes "node3@glasgow.ac.uk" ∷ bytes "node5@glasgow.ac.uk" ∷ bytes "node6@glasgow.ac.uk" ∷ [] }
    ∷ record { name = bytes "group3"; nodes = bytes "node4@glasgow.ac.uk" ∷ bytes "node7@glasgow.ac.uk" ∷ bytes "node8@glasgow.ac.uk" ∷ [] }
    ∷ []
its-groups = refl

-- ---- other pairs on both levels, and quotes

abbrev plainly : List ℕ → Atom
plainly n = record { form = bare; name = n }

abbrev with_others : LaunchFile
with_others = record {
  outer = record {
    before = record { key = plainly (bytes "sasl"); value = nested list (item (nested tuple (item (numeric (bytes "10")) (item (nested list no_more) no_more))) no_more) } ∷ [];
    form = in_quotes;
    behind = [];
  };
  inner = record { before = []; form = bare; behind = record { key = record { form = in_quotes; name = bytes "a b" }; value = atomic (plainly (bytes "x@y")) } ∷ [] };
  entries = record { name = plainly (bytes "g"); normal = in_quotes; nodes = plainly (bytes "n") ∷ [] } ∷ [];
}

the_others : spell tight with_others ≡ bytes "[{sasl,[{10,[]}]},{'kernel',[{s_groups,[{g,'normal',[n]}]},{'a b',x@y}]}]."
unfolding spell spaced token_bytes file_tokens around_tokens entries_tokens entry_tokens pair_tokens value_tokens leading trailing separated
the_others = refl

their-form : well_formed with_others ≡ true
unfolding well_formed good_around good_pair good_entry good_value good_number some_node well_named depth all name_byte is_reserved among reserved_words
their-form = refl

-- ---- terms that are no such file

-- a group without nodes
no-nodes : well_formed (file_of (group (bytes "g") [] ∷ [])) ≡ false
unfolding well_formed good_around good_entry some_node well_named all name_byte is_reserved among reserved_words
no-nodes = refl

-- a second kernel entry
kernel-twice : well_formed (record { outer = beside (record { key = plainly (bytes "kernel"); value = nested list no_more }); inner = alone; entries = [] }) ≡ false
unfolding well_formed good_around good_pair good_value well_named depth all name_byte is_reserved among reserved_words
kernel-twice = refl

-- a reserved word as a key; in quotes it is none
keyed : Form → Bool
keyed q = well_formed (record { outer = beside (record { key = record { form = q; name = bytes "end" }; value = nested list no_more }); inner = alone; entries = [] })

reserved-key : keyed bare ≡ false
unfolding keyed well_formed good_around good_pair good_value well_named depth all name_byte is_reserved among reserved_words
reserved-key = refl

quoted-key : keyed in_quotes ≡ true
unfolding keyed well_formed good_around good_pair good_value well_named depth all name_byte is_reserved among reserved_words
quoted-key = refl

-- sixteen brackets and seventeen
brackets : ℕ → Value
brackets zero = nested list no_more
brackets (suc n) = nested tuple (item (brackets n) no_more)

as_deep : ℕ → Bool
as_deep n = well_formed (record { outer = beside (record { key = plainly (bytes "a"); value = brackets n }); inner = alone; entries = [] })

sixteen : as_deep 15 ≡ true
unfolding as_deep brackets well_formed good_around good_pair good_value well_named depth all name_byte is_reserved among reserved_words
sixteen = refl

seventeen : as_deep 16 ≡ false
unfolding as_deep brackets well_formed good_around good_pair good_value well_named depth all name_byte is_reserved among reserved_words
seventeen = refl
