-- The course of a file token by token: what the machine does at each, whatever white space stands between them. Assumes nothing.
use Rattle.std.specs.Prelude.{◌≡◌, Bool, true, List, [], ◌∷◌, map, ℕ, ◌<◌, length}
use Rattle.tokens.specs.Reserved.{bytes}
use Rattle.grammar.specs.File.{Group, Level, kernel, Here, Sign, comma, close_list, open_tuple, close_tuple, Bracket, depth_limit, Use, key, name, node, Phase, sign, atom, first_pair, next_pair, first_group, next_group, kind, next_node, value, first, after, full_stop, goes, with_group, behind_kind, ended_pairs, to_sign, to_node, named}
use Rattle.spelling.specs.Spelling.{Form, Atom, Token, a_sign, an_atom, a_number, the_stop, good_atom, good_number, opener, closer, word}

abbrev pub here : Level → Bool → List Group → Here
here lv found gs = record { level = lv; found = found; groups = gs }

-- the names of a group's nodes
abbrev pub names : List Atom → List (List ℕ)
names nodes = map (λ a. a.name) nodes

-- behind the list of groups the kernel list has its own entry
abbrev pub with_entry : Here → Here
with_entry h = here kernel true h.groups

-- from this state the tokens lead to the groups gs
pub data Course (gs : List Group) : Here → List Bracket → Phase → List Token → Type 0 where
  at_sign : {h : Here} {c : Sign} {ph : Phase} {ts : List Token} → Course gs h [] ph ts → Course gs h [] (sign c ph) (a_sign c ∷ ts)
  -- an atom that leads to a sign, and one that leads behind a node
  at_atom : {h g : Here} {u : Use} {c : Sign} {ph : Phase} {ts : List Token} (a : Atom) → good_atom a ≡ true → named h u a.name ≡ to_sign g c ph → Course gs g [] (sign c ph) ts
      → Course gs h [] (atom u) (an_atom a ∷ ts)
  at_node : {h g : Here} {u : Use} {n : List ℕ} {ns : List (List ℕ)} {ts : List Token} (a : Atom) → good_atom a ≡ true → named h u a.name ≡ to_node g n ns → Course gs g [] (next_node n ns) ts
      → Course gs h [] (atom u) (an_atom a ∷ ts)
  -- pairs
  one_pair : {h : Here} {ts : List Token} → Course gs h [] (atom key) ts → Course gs h [] first_pair (a_sign open_tuple ∷ ts)
  no_pair : {h g : Here} {ph : Phase} {ts : List Token} → h.found ≡ true → ended_pairs h.level h.groups ≡ goes g [] ph → Course gs g [] ph ts → Course gs h [] first_pair (a_sign close_list ∷ ts)
  more_pairs : {h : Here} {ts : List Token} → Course gs h [] (sign open_tuple (atom key)) ts → Course gs h [] next_pair (a_sign comma ∷ ts)
  end_pairs : {h g : Here} {ph : Phase} {ts : List Token} → h.found ≡ true → ended_pairs h.level h.groups ≡ goes g [] ph → Course gs g [] ph ts → Course gs h [] next_pair (a_sign close_list ∷ ts)
  -- groups
  one_group : {h : Here} {ts : List Token} → Course gs h [] (atom name) ts → Course gs h [] first_group (a_sign open_tuple ∷ ts)
  no_group : {h : Here} {ts : List Token} → Course gs (with_entry h) [] (sign close_tuple next_pair) ts → Course gs h [] first_group (a_sign close_list ∷ ts)
  more_groups : {h : Here} {ts : List Token} → Course gs h [] (sign open_tuple (atom name)) ts → Course gs h [] next_group (a_sign comma ∷ ts)
  end_groups : {h : Here} {ts : List Token} → Course gs (with_entry h) [] (sign close_tuple next_pair) ts → Course gs h [] next_group (a_sign close_list ∷ ts)
  at_kind : {h : Here} {n : List ℕ} {ts : List Token} (q : Form) → Course gs h [] (behind_kind n) ts → Course gs h [] (kind n) (word q (bytes "normal") ∷ ts)
  more_nodes : {h : Here} {n : List ℕ} {ns : List (List ℕ)} {ts : List Token} → Course gs h [] (atom (node n ns)) ts → Course gs h [] (next_node n ns) (a_sign comma ∷ ts)
  end_nodes : {h : Here} {n : List ℕ} {ns : List (List ℕ)} {ts : List Token} → Course gs (with_group h n ns) [] (sign close_tuple next_group) ts → Course gs h [] (next_node n ns) (a_sign close_list ∷ ts)
  -- skipped values
  value_atom : {h : Here} {due : List Bracket} {ts : List Token} (a : Atom) → good_atom a ≡ true → Course gs h due after ts → Course gs h due value (an_atom a ∷ ts)
  value_number : {h : Here} {due : List Bracket} {ts : List Token} (ds : List ℕ) → good_number ds ≡ true → Course gs h due after ts → Course gs h due value (a_number ds ∷ ts)
  value_opens : {h : Here} {due : List Bracket} {ts : List Token} (k : Bracket) → length due < depth_limit → Course gs h (k ∷ due) first ts → Course gs h due value (a_sign (opener k) ∷ ts)
  first_value : {h : Here} {due : List Bracket} {ts : List Token} → Course gs h due value ts → Course gs h due first ts
  first_closes : {h : Here} {k : Bracket} {due : List Bracket} {ts : List Token} → Course gs h due after ts → Course gs h (k ∷ due) first (a_sign (closer k) ∷ ts)
  more_values : {h : Here} {k : Bracket} {due : List Bracket} {ts : List Token} → Course gs h (k ∷ due) value ts → Course gs h (k ∷ due) after (a_sign comma ∷ ts)
  value_closes : {h : Here} {k : Bracket} {due : List Bracket} {ts : List Token} → Course gs h due after ts → Course gs h (k ∷ due) after (a_sign (closer k) ∷ ts)
  pair_closes : {h : Here} {ts : List Token} → Course gs h [] next_pair ts → Course gs h [] after (a_sign close_tuple ∷ ts)
  -- the end
  at_stop : {h : Here} → h.groups ≡ gs → Course gs h [] full_stop (the_stop ∷ [])
