-- Launch files as Erlang terms, and their spelling: token behind token, with white space in front of each. Assumes nothing.
use Rattle.std.specs.Prelude.{◌≡◌, Bool, true, false, not, ◌&&◌, List, [], ◌∷◌, ◌++◌, map, ℕ, suc, max, leb}
use Rattle.tokens.specs.Bytes.{quote, white, digit, small, name_byte, plain_byte}
use Rattle.tokens.specs.Reserved.{bytes, same, is_reserved}
use Rattle.grammar.specs.File.{Group, Sign, comma, open_list, close_list, open_tuple, close_tuple, ascii, Bracket, list, tuple, depth_limit}

-- ---- terms

-- how an atom is written: as it is, or in quotes
pub data Form : Type 0 where
  bare in_quotes : Form

-- an atom, with the bytes of its name
pub record Atom : Type 0 where
  pub form : Form
  pub name : List ℕ

-- a value that is skipped: an atom, a number with these digits, or a list or tuple of values
mutual
  pub data Value : Type 0 where
    atomic : Atom → Value
    numeric : List ℕ → Value
    nested : Bracket → Values → Value

  pub data Values : Type 0 where
    no_more : Values
    item : Value → Values → Values

-- a pair that is skipped: {Key, Value}
pub record Pair : Type 0 where
  pub key : Atom
  pub value : Value

-- a group: {Name, normal, [Node, ..]}, where `normal` may be in quotes too
pub record Entry : Type 0 where
  pub name : Atom
  pub normal : Form
  pub nodes : List Atom

-- a list of pairs: those in front of the one whose value is read, how the key of that one is written, and those behind it
pub record Around : Type 0 where
  pub before : List Pair
  pub form : Form
  pub behind : List Pair

-- a file: [.., {kernel, [.., {s_groups, [Entry, ..]}, ..]}, ..].
pub record LaunchFile : Type 0 where
  pub outer : Around
  pub inner : Around
  pub entries : List Entry

-- the groups of a file, by their names
abbrev pub group_of : Entry → Group
group_of e = record { name = e.name.name; nodes = map (λ a. a.name) e.nodes }

abbrev pub groups_of : LaunchFile → List Group
groups_of f = map group_of f.entries

-- ---- which terms are such a file

-- all of a list pass a test
unfoldable pub all {ℓ} : {A : Type ℓ} → (A → Bool) → List A → Bool
all f [] = true
all f (x ∷ xs) = f x && all f xs

-- without quotes a name begins with a small letter, goes on with letters, digits, _ and @, and is no reserved word; in quotes it is any bytes but ' and \
unfoldable pub well_named : Form → List ℕ → Bool
well_named bare [] = false
well_named bare (b ∷ bs) = small b && (all name_byte bs && not (is_reserved (b ∷ bs)))
well_named in_quotes bs = all plain_byte bs

abbrev pub good_atom : Atom → Bool
good_atom a = well_named a.form a.name

-- one digit or more
unfoldable pub good_number : List ℕ → Bool
good_number [] = false
good_number (d ∷ ds) = digit d && all digit ds

-- the atoms and numbers of a value are good
unfoldable mutual
  pub good_value : Value → Bool
  good_value (atomic a) = good_atom a
  good_value (numeric ds) = good_number ds
  good_value (nested k vs) = good_values vs

  pub good_values : Values → Bool
  good_values no_more = true
  good_values (item v vs) = good_value v && good_values vs

-- how deep lists and tuples nest: [] and {} are 1 deep
unfoldable mutual
  pub depth : Value → ℕ
  depth (atomic a) = 0
  depth (numeric ds) = 0
  depth (nested k vs) = suc (most_deep vs)

  pub most_deep : Values → ℕ
  most_deep no_more = 0
  most_deep (item v vs) = max (depth v) (most_deep vs)

-- a pair that is skipped has another key than the one that is read, and a value no deeper than the limit
unfoldable pub good_pair : List ℕ → Pair → Bool
good_pair own p = (good_atom p.key && not (same p.key.name own)) && (good_value p.value && leb (depth p.value) depth_limit)

-- a group has a node
unfoldable pub some_node : List Atom → Bool
some_node [] = false
some_node (a ∷ rest) = true

-- a group: its name and its nodes
unfoldable pub good_entry : Entry → Bool
good_entry e = good_atom e.name && (some_node e.nodes && all good_atom e.nodes)

-- a list of pairs, of which the one with this key is read
unfoldable pub good_around : List ℕ → Around → Bool
good_around own l = all (good_pair own) l.before && all (good_pair own) l.behind

-- a launch file: the key of each list stands once
unfoldable pub well_formed : LaunchFile → Bool
well_formed f = good_around (bytes "kernel") f.outer && (good_around (bytes "s_groups") f.inner && all good_entry f.entries)

-- ---- tokens: those of each part, and ts behind them

-- a token: a sign, an atom, a number with these digits, or the full stop
pub data Token : Type 0 where
  a_sign : Sign → Token
  an_atom : Atom → Token
  a_number : List ℕ → Token
  the_stop : Token

-- the brackets of a list or tuple
abbrev pub opener : Bracket → Sign
opener list = open_list
opener tuple = open_tuple

abbrev pub closer : Bracket → Sign
closer list = close_list
closer tuple = close_tuple

-- an atom, a number, [V, ..] or {V, ..}
unfoldable mutual
  pub value_tokens : Value → List Token → List Token
  value_tokens (atomic a) ts = an_atom a ∷ ts
  value_tokens (numeric ds) ts = a_number ds ∷ ts
  value_tokens (nested k vs) ts = a_sign (opener k) ∷ first_tokens vs (a_sign (closer k) ∷ ts)

  -- values with a comma between each two
  pub first_tokens : Values → List Token → List Token
  first_tokens no_more ts = ts
  first_tokens (item v vs) ts = value_tokens v (next_tokens vs ts)

  -- values with a comma in front of each
  pub next_tokens : Values → List Token → List Token
  next_tokens no_more ts = ts
  next_tokens (item v vs) ts = a_sign comma ∷ value_tokens v (next_tokens vs ts)

-- parts with a comma behind each, with one in front of each, and with one between each two
module _ {A : Type 0} (part : A → List Token → List Token) where
  unfoldable pub leading : List A → List Token → List Token
  leading [] ts = ts
  leading (x ∷ xs) ts = part x (a_sign comma ∷ leading xs ts)

  unfoldable pub trailing : List A → List Token → List Token
  trailing [] ts = ts
  trailing (x ∷ xs) ts = a_sign comma ∷ part x (trailing xs ts)

  unfoldable pub separated : List A → List Token → List Token
  separated [] ts = ts
  separated (x ∷ xs) ts = part x (trailing xs ts)

-- an atom of this name
abbrev pub word : Form → List ℕ → Token
word q n = an_atom (record { form = q; name = n })

-- Node
abbrev pub node_tokens : Atom → List Token → List Token
node_tokens a ts = an_atom a ∷ ts

-- {Key, Value}
unfoldable pub pair_tokens : Pair → List Token → List Token
pair_tokens p ts = a_sign open_tuple ∷ an_atom p.key ∷ a_sign comma ∷ value_tokens p.value (a_sign close_tuple ∷ ts)

-- {Name, normal, [Node, ..]}
unfoldable pub entry_tokens : Entry → List Token → List Token
entry_tokens e ts =
    a_sign open_tuple ∷ an_atom e.name ∷ a_sign comma ∷ word e.normal (bytes "normal") ∷ a_sign comma
    ∷ a_sign open_list ∷ separated node_tokens e.nodes (a_sign close_list ∷ a_sign close_tuple ∷ ts)

-- [Entry, ..]
unfoldable pub entries_tokens : List Entry → List Token → List Token
entries_tokens es ts = a_sign open_list ∷ separated entry_tokens es (a_sign close_list ∷ ts)

-- [Pair, .., {own, V}, Pair, ..], where V has the tokens that are given
unfoldable pub around_tokens : List ℕ → Around → (List Token → List Token) → List Token → List Token
around_tokens own l value ts =
    a_sign open_list ∷ leading pair_tokens l.before
    (a_sign open_tuple ∷ word l.form own ∷ a_sign comma ∷ value
    (a_sign close_tuple ∷ trailing pair_tokens l.behind (a_sign close_list ∷ ts)))

-- the whole file, with its full stop
unfoldable pub file_tokens : LaunchFile → List Token
file_tokens f = around_tokens (bytes "kernel") f.outer (around_tokens (bytes "s_groups") f.inner (entries_tokens f.entries)) (the_stop ∷ [])

-- ---- bytes

-- an atom: Name or 'Name'
abbrev pub atom_bytes : Form → List ℕ → List ℕ
atom_bytes bare n = n
atom_bytes in_quotes n = quote ∷ (n ++ (quote ∷ []))

-- a token
unfoldable pub token_bytes : Token → List ℕ
token_bytes (a_sign c) = ascii c ∷ []
token_bytes (an_atom a) = atom_bytes a.form a.name
token_bytes (a_number ds) = ds
token_bytes the_stop = 46 ∷ []

-- what stands in front of each token is white space
abbrev pub Blank : (ℕ → List ℕ) → Type 0
Blank gap = (n : ℕ) → all white (gap n) ≡ true

-- tokens, with white space in front of each, and behind the last: gap n is in front of the token n, counted from 0
unfoldable pub spaced : (ℕ → List ℕ) → List Token → List ℕ
spaced gap [] = gap 0
spaced gap (t ∷ ts) = gap 0 ++ (token_bytes t ++ spaced (λ n. gap (suc n)) ts)

-- the text of a file
unfoldable pub spell : (ℕ → List ℕ) → LaunchFile → List ℕ
spell gap f = spaced gap (file_tokens f)
