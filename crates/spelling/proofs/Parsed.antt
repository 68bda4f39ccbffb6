-- The tokens of a course are those of a launch file. Assumes nothing.
use Rattle.std.specs.Prelude.{◌≡◌, Bool, cond, ℕ, suc, ◌-◌, ◌≤◌, ◌<◌, length}
use Rattle.std.proofs.Math.Path.{refl}
use Rattle.std.proofs.Math.Bool.{true, false}
use mathlib.Core.List.{List, [], ◌∷◌, ◌++◌, append_assoc, append-nil, map}
use native.Mathlib.Omega.{arith}
use Rattle.std.proofs.Common.{le-leb}
use Rattle.tokens.specs.Reserved.{bytes, same}
use Rattle.tokens.specs.Words.{same_eq}
use Rattle.grammar.specs.File.{Group, Level, file, kernel, Here, comma, open_list, close_list, open_tuple, close_tuple, Bracket, depth_limit, Use, key, name, node, Phase, sign, letters, atom, plain, quoted, first_pair, next_pair, first_group, next_group, kind, next_node, value, first, after, word, other, digits, full_stop, Move, goes, stops, dead, with_group, behind_kind, ended_pairs, keyed, named, Lead, to_sign, to_node, nowhere, enters, own_key}
use Rattle.spelling.specs.Tests.{also}
use Rattle.spelling.specs.Spelling.{Form, Atom, Value, atomic, numeric, nested, Values, no_more, item, Pair, Entry, LaunchFile, group_of, groups_of, all, good_atom, good_value, good_values, depth, most_deep, good_pair, some_node, good_entry, good_around, well_formed, Token, a_sign, an_atom, the_stop, opener, closer, value_tokens, first_tokens, next_tokens, leading, trailing, separated, node_tokens, pair_tokens, entry_tokens, entries_tokens, around_tokens, file_tokens}
use Rattle.spelling.specs.Spelling as Spelling
use Rattle.spelling.specs.Course.{here, with_entry, names, Course, at_sign, at_atom, at_node, one_pair, no_pair, more_pairs, end_pairs, one_group, no_group, more_groups, end_groups, at_kind, more_nodes, end_nodes, value_atom, value_number, value_opens, first_value, first_closes, more_values, value_closes, pair_closes, at_stop}

module _ (gs : List Group) where
  -- ---- what is left of a file

  -- the full stop
  abbrev Stop : List Group → List Token → Type 0
  Stop hs ts = (ts ≡ the_stop ∷ []) × (hs ≡ gs)

  -- pairs that are skipped, the bracket behind them, and what follows it
  abbrev Trail : List ℕ → (List Token → Type 0) → List Token → Type 0
  Trail own K ts = (ps : List Pair) × (us : List Token) × (all (good_pair own) ps ≡ true) × (ts ≡ trailing pair_tokens ps (a_sign close_list ∷ us)) × K us

  -- what follows the bracket of the pairs of a level
  abbrev Closed : Level → List Group → List Token → Type 0
  Closed file hs ts = Stop hs ts
  Closed kernel hs ts = (us : List Token) × (ts ≡ a_sign close_tuple ∷ us) × Trail (own_key file) (Stop hs) us

  -- what follows the pair that is read
  abbrev Passed : Level → List Group → List Token → Type 0
  Passed lv hs ts = Trail (own_key lv) (Closed lv hs) ts

  -- groups behind a group, or behind their bracket
  abbrev Groups : (List Entry → List Token → List Token) → List Group → List Token → Type 0
  Groups spread hs ts =
      (es : List Entry) × (us : List Token) × (all good_entry es ≡ true) × (ts ≡ spread es (a_sign close_list ∷ (a_sign close_tuple ∷ us))) × Passed kernel (hs ++ map group_of es) us

  -- pairs that are skipped, the one that is read up to the bracket of its value, and what follows that
  abbrev LeadIn : List ℕ → (List Token → Type 0) → List Token → Type 0
  LeadIn own K ts =
      (ps : List Pair) × (q : Form) × (us : List Token) × (all (good_pair own) ps ≡ true)
      × (ts ≡ leading pair_tokens ps (a_sign open_tuple ∷ (Spelling.word q own ∷ (a_sign comma ∷ (a_sign open_list ∷ us)))))
      × K us

  -- what follows the bracket of the value that is read at a level
  abbrev Entered : Level → List Group → List Token → Type 0
  Entered kernel hs ts = Groups (separated entry_tokens) hs ts
  Entered file hs ts = LeadIn (own_key kernel) (Groups (separated entry_tokens) hs) ts

  abbrev Ahead : Level → List Group → List Token → Type 0
  Ahead lv hs ts = LeadIn (own_key lv) (Entered lv hs) ts

  -- behind a pair, behind the bracket of the pairs, and before a key
  abbrev Next : Level → Bool → List Group → List Token → Type 0
  Next lv true hs ts = Passed lv hs ts
  Next lv false hs ts = (us : List Token) × (ts ≡ a_sign comma ∷ us) × Ahead lv hs us

  abbrev First : Level → Bool → List Group → List Token → Type 0
  First lv true hs ts = Unit
  First lv false hs ts = Ahead lv hs ts

  abbrev AtKey : Level → Bool → List Group → List Token → Type 0
  AtKey lv true hs ts = Passed lv hs (a_sign comma ∷ (a_sign open_tuple ∷ ts))
  AtKey lv false hs ts = Ahead lv hs (a_sign open_tuple ∷ ts)

  -- before the name of a group, and before and behind a node
  abbrev AtName : List Group → List Token → Type 0
  AtName hs ts = (e : Entry) × (us : List Token) × (good_entry e ≡ true) × (a_sign open_tuple ∷ ts ≡ entry_tokens e us) × Groups (trailing entry_tokens) (hs ++ (group_of e ∷ [])) us

  abbrev Nodes : (List Atom → List Token → List Token) → List Group → List ℕ → List (List ℕ) → List Token → Type 0
  Nodes spread hs n ns ts =
      (nodes : List Atom) × (us : List Token) × (all good_atom nodes ≡ true) × (ts ≡ spread nodes (a_sign close_list ∷ (a_sign close_tuple ∷ us)))
      × Groups (trailing entry_tokens) (hs ++ (record { name = n; nodes = ns ++ names nodes } ∷ [])) us

  abbrev AtNode : List Group → List ℕ → List (List ℕ) → List Token → Type 0
  AtNode hs n ns ts = (a : Atom) × (us : List Token) × (good_atom a ≡ true) × (ts ≡ an_atom a ∷ us) × Nodes (trailing node_tokens) hs n (ns ++ (a.name ∷ [])) us

  -- behind a skipped value, between the brackets that are due
  abbrev After : Here → List Bracket → List Token → Type 0
  After h [] ts = (us : List Token) × (ts ≡ a_sign close_tuple ∷ us) × Next h.level h.found h.groups us
  After h (k ∷ due) ts =
      (vs : Values) × (us : List Token) × (good_values vs ≡ true) × (most_deep vs ≤ depth_limit - suc (length due)) × (ts ≡ next_tokens vs (a_sign (closer k) ∷ us)) × After h due us

  abbrev Before : Here → List Bracket → List Token → Type 0
  Before h due ts = (v : Value) × (us : List Token) × (good_value v ≡ true) × (depth v ≤ depth_limit - length due) × (ts ≡ value_tokens v us) × After h due us

  abbrev Inside : Here → List Bracket → List Token → Type 0
  Inside h [] ts = Before h [] ts
  Inside h (k ∷ due) ts =
      (vs : Values) × (us : List Token) × (good_values vs ≡ true) × (most_deep vs ≤ depth_limit - suc (length due)) × (ts ≡ first_tokens vs (a_sign (closer k) ∷ us)) × After h due us

  abbrev AtAtom : Here → Use → List Token → Type 0
  AtAtom h key ts = AtKey h.level h.found h.groups ts
  AtAtom h name ts = AtName h.groups ts
  AtAtom h (node n ns) ts = AtNode h.groups n ns ts

  abbrev Parsed : Here → List Bracket → Phase → List Token → Type 0
  Parsed h due (sign c ph) ts = (us : List Token) × (ts ≡ a_sign c ∷ us) × Parsed h [] ph us
  Parsed h due (letters c cs ph) ts = Unit
  Parsed h due (atom u) ts = AtAtom h u ts
  Parsed h due (plain u w) ts = Unit
  Parsed h due (quoted u w) ts = Unit
  Parsed h due first_pair ts = First h.level h.found h.groups ts
  Parsed h due next_pair ts = Next h.level h.found h.groups ts
  Parsed h due first_group ts = Groups (separated entry_tokens) h.groups ts
  Parsed h due next_group ts = Groups (trailing entry_tokens) h.groups ts
  Parsed h due (kind n) ts =
      (q : Form) × (us : List Token) × (ts ≡ Spelling.word q (bytes "normal") ∷ (a_sign comma ∷ (a_sign open_list ∷ us))) × AtNode h.groups n [] us
  Parsed h due (next_node n ns) ts = Nodes (trailing node_tokens) h.groups n ns ts
  Parsed h due value ts = Before h due ts
  Parsed h due first ts = Inside h due ts
  Parsed h due after ts = After h due ts
  Parsed h due (word w) ts = Unit
  Parsed h due other ts = Unit
  Parsed h due digits ts = Unit
  Parsed h due full_stop ts = Stop h.groups ts

  -- where an atom leads, and a byte
  abbrev LedTo : Lead → List Token → Type 0
  LedTo (to_sign h c ph) ts = Parsed h [] (sign c ph) ts
  LedTo (to_node h n ns) ts = Parsed h [] (next_node n ns) ts
  LedTo nowhere ts = ⊥

  abbrev Moved : Move → List Token → Type 0
  Moved (goes h due ph) ts = Parsed h due ph ts
  Moved (stops hs) ts = ⊥
  Moved dead ts = ⊥

  -- ---- atoms

  pair_is : (own : List ℕ) (a : Atom) (v : Value) → good_atom a ≡ true → same a.name own ≡ false → good_value v ≡ true → depth v ≤ depth_limit - 0 → good_pair own (record { key = a; value = v }) ≡ true
  unfolding good_pair
  pair_is own a v f s g d = also (also f (rw s)) (also g (le-leb (depth v) depth_limit (omega arith)))

  -- a key whose value is skipped
  skips : (lv : Level) (fd : Bool) (hs : List Group) (a : Atom) (ts : List Token) → good_atom a ≡ true → same a.name (own_key lv) ≡ false → Parsed (here lv fd hs) [] (sign comma value) ts
      → AtKey lv fd hs (an_atom a ∷ ts)
  unfolding pair_tokens all trailing leading
  skips lv true hs a ts f s (us, e, (v, vs, g, d, e₁, (ws, e₂, (ps, xs, al, e₃, k)))) =
      (record { key = a; value = v } ∷ ps, xs, also (pair_is (own_key lv) a v f s g d) al, rw (e, e₁, e₂, e₃), k)
  skips lv false hs a ts f s (us, e, (v, vs, g, d, e₁, (ws, e₂, (xs, e₃, (ps, q, ys, al, e₄, k))))) =
      (record { key = a; value = v } ∷ ps, q, ys, also (pair_is (own_key lv) a v f s g d) al, rw (e, e₁, e₂, e₃, e₄), k)

  -- the key whose value is read
  own : (lv : Level) (fd : Bool) (hs : List Group) (a : Atom) (ts : List Token) → a.name ≡ own_key lv → LedTo (cond fd nowhere (enters lv hs)) ts → AtKey lv fd hs (an_atom a ∷ ts)
  unfolding all leading
  own lv true hs a ts s k = absurd k
  own file false hs a ts s (us, e, (vs, e₁, k)) = ([], a.form, vs, refl, rw (e, e₁, ← s), k)
  own kernel false hs a ts s (us, e, (vs, e₁, k)) = ([], a.form, vs, refl, rw (e, e₁, ← s), k)

  at_key : (h : Here) (a : Atom) (ts : List Token) (own-one : Bool) → same a.name (own_key h.level) ≡ own-one → good_atom a ≡ true → LedTo (keyed h own-one) ts → AtAtom h key (an_atom a ∷ ts)
  unfolding keyed
  at_key h a ts true s f k = own h.level h.found h.groups a ts (same_eq a.name (own_key h.level) s) k
  at_key h a ts false s f k = skips h.level h.found h.groups a ts f s k

  -- a group from its name on
  at_name : (h : Here) (a : Atom) (ts : List Token) → good_atom a ≡ true → Parsed h [] (sign comma (kind a.name)) ts → AtName h.groups (an_atom a ∷ ts)
  unfolding good_entry some_node all entry_tokens separated
  at_name h a ts f (us, e, (q, vs, e₁, (b, ws, g, e₂, (nodes, xs, al, e₃, k)))) =
      (record { name = a; normal = q; nodes = b ∷ nodes }, xs, also f (also g al), rw (e, e₁, e₂, e₃), k)

  by-use : (h : Here) (u : Use) (a : Atom) (ts : List Token) → good_atom a ≡ true → LedTo (named h u a.name) ts → AtAtom h u (an_atom a ∷ ts)
  unfolding named
  by-use h key a ts f k = at_key h a ts (same a.name (own_key h.level)) refl f k
  by-use h name a ts f k = at_name h a ts f k
  by-use h (node n ns) a ts f k = (a, ts, f, refl, k)

  -- ---- pairs

  pairs_end : (lv : Level) (hs : List Group) (ts : List Token) → Moved (ended_pairs lv hs) ts → Passed lv hs (a_sign close_list ∷ ts)
  unfolding all trailing
  pairs_end file hs ts k = ([], ts, refl, refl, k)
  pairs_end kernel hs ts k = ([], ts, refl, refl, k)

  pairs-go-on : (lv : Level) (fd : Bool) (hs : List Group) (ts us : List Token) → ts ≡ a_sign open_tuple ∷ us → AtKey lv fd hs us → Next lv fd hs (a_sign comma ∷ ts)
  pairs-go-on lv true hs ts us e k = rw e k
  pairs-go-on lv false hs ts us e k = (ts, refl, rw e k)

  pairs-begin : (lv : Level) (fd : Bool) (hs : List Group) (ts : List Token) → AtKey lv fd hs ts → First lv fd hs (a_sign open_tuple ∷ ts)
  pairs-begin lv true hs ts k = tt
  pairs-begin lv false hs ts k = k

  -- ---- groups and nodes

  at-normal : (h : Here) (n : List ℕ) (q : Form) (ts : List Token) → Parsed h [] (behind_kind n) ts → Parsed h [] (kind n) (Spelling.word q (bytes "normal") ∷ ts)
  at-normal h n q ts (us, e, (vs, e₁, k)) = (q, vs, rw (e, e₁), k)

  nodes-end : (h : Here) (n : List ℕ) (ns : List (List ℕ)) (ts : List Token) → Parsed (with_group h n ns) [] (sign close_tuple next_group) ts → Nodes (trailing node_tokens) h.groups n ns (a_sign close_list ∷ ts)
  unfolding all trailing
  nodes-end h n ns ts (us, e, k) = ([], us, refl, rw e, rw append-nil k)

  nodes-go-on : (hs : List Group) (n : List ℕ) (ns : List (List ℕ)) (ts : List Token) → AtNode hs n ns ts → Nodes (trailing node_tokens) hs n ns (a_sign comma ∷ ts)
  unfolding all trailing
  nodes-go-on hs n ns ts (a, us, f, e, (nodes, vs, al, e₁, k)) = (a ∷ nodes, vs, also f al, rw (e, e₁), rw (append_assoc ns (a.name ∷ []) (names nodes)) at k)

  groups-end : (h : Here) (ts : List Token) → Parsed (with_entry h) [] (sign close_tuple next_pair) ts → Groups (trailing entry_tokens) h.groups (a_sign close_list ∷ ts)
  unfolding all trailing
  groups-end h ts (us, e, k) = ([], us, refl, rw e, rw append-nil k)

  no-groups : (h : Here) (ts : List Token) → Parsed (with_entry h) [] (sign close_tuple next_pair) ts → Groups (separated entry_tokens) h.groups (a_sign close_list ∷ ts)
  unfolding all separated
  no-groups h ts (us, e, k) = ([], us, refl, rw e, rw append-nil k)

  groups-go-on : (hs : List Group) (ts us : List Token) → ts ≡ a_sign open_tuple ∷ us → AtName hs us → Groups (trailing entry_tokens) hs (a_sign comma ∷ ts)
  unfolding all trailing
  groups-go-on hs ts us e (x, vs, g, e₁, (es, ws, al, e₂, k)) = (x ∷ es, ws, also g al, rw (e, e₁, e₂), rw (append_assoc hs (group_of x ∷ []) (map group_of es)) at k)

  groups-begin : (hs : List Group) (ts : List Token) → AtName hs ts → Groups (separated entry_tokens) hs (a_sign open_tuple ∷ ts)
  unfolding all separated
  groups-begin hs ts (x, vs, g, e₁, (es, ws, al, e₂, k)) = (x ∷ es, ws, also g al, rw (e₁, e₂), rw (append_assoc hs (group_of x ∷ []) (map group_of es)) at k)

  -- ---- skipped values

  opened : (h : Here) (due : List Bracket) (k : Bracket) (ts : List Token) → length due < depth_limit → Inside h (k ∷ due) ts → Before h due (a_sign (opener k) ∷ ts)
  unfolding good_value depth value_tokens
  opened h due k ts l (vs, us, g, d, e, r) = (nested k vs, us, g, omega arith, rw e, r)

  begun : (h : Here) (due : List Bracket) (ts : List Token) → Before h due ts → Inside h due ts
  unfolding good_value depth value_tokens
  begun h [] ts k = k
  begun h (c ∷ due) ts (v, us, g, d, e, (vs, ws, g₁, d₁, e₁, r)) = (item v vs, ws, also g g₁, omega arith, rw (e, e₁), r)

  went_on : (h : Here) (c : Bracket) (due : List Bracket) (ts : List Token) → Before h (c ∷ due) ts → After h (c ∷ due) (a_sign comma ∷ ts)
  unfolding good_value depth value_tokens
  went_on h c due ts (v, us, g, d, e, (vs, ws, g₁, d₁, e₁, r)) = (item v vs, ws, also g g₁, omega arith, rw (e, e₁), r)

  -- ---- every course

  parsed : {h : Here} {due : List Bracket} {ph : Phase} {ts : List Token} → Course gs h due ph ts → Parsed h due ph ts
  unfolding good_value depth value_tokens
  parsed (at_sign {ts = ts} r) = (ts, refl, parsed r)
  parsed (at_atom {h = h} {u = u} {ts = ts} a f l r) = by-use h u a ts f (rw l (parsed r))
  parsed (at_node {h = h} {u = u} {ts = ts} a f l r) = by-use h u a ts f (rw l (parsed r))
  parsed (one_pair {h = h} {ts = ts} r) = pairs-begin h.level h.found h.groups ts (parsed r)
  parsed (no_pair f l r) = rw f tt
  parsed (more_pairs {h = h} {ts = ts} r) = let (us, e, k) = parsed r in pairs-go-on h.level h.found h.groups ts us e k
  parsed (end_pairs {h = h} {ts = ts} f l r) = rw f (pairs_end h.level h.groups ts (rw l (parsed r)))
  parsed (one_group {h = h} {ts = ts} r) = groups-begin h.groups ts (parsed r)
  parsed (no_group {h = h} {ts = ts} r) = no-groups h ts (parsed r)
  parsed (more_groups {h = h} {ts = ts} r) = let (us, e, k) = parsed r in groups-go-on h.groups ts us e k
  parsed (end_groups {h = h} {ts = ts} r) = groups-end h ts (parsed r)
  parsed (at_kind {h = h} {n = n} {ts = ts} q r) = at-normal h n q ts (parsed r)
  parsed (more_nodes {h = h} {n = n} {ns = ns} {ts = ts} r) = nodes-go-on h.groups n ns ts (parsed r)
  parsed (end_nodes {h = h} {n = n} {ns = ns} {ts = ts} r) = nodes-end h n ns ts (parsed r)
  parsed (value_atom {ts = ts} a f r) = (atomic a, ts, f, omega arith, refl, parsed r)
  parsed (value_number {ts = ts} ds f r) = (numeric ds, ts, f, omega arith, refl, parsed r)
  parsed (value_opens {h = h} {due = due} {ts = ts} k l r) = opened h due k ts l (parsed r)
  parsed (first_value {h = h} {due = due} {ts = ts} r) = begun h due ts (parsed r)
  parsed (first_closes {ts = ts} r) = (no_more, ts, refl, omega arith, refl, parsed r)
  parsed (more_values {h = h} {k = k} {due = due} {ts = ts} r) = went_on h k due ts (parsed r)
  parsed (value_closes {ts = ts} r) = (no_more, ts, refl, omega arith, refl, parsed r)
  parsed (pair_closes {ts = ts} r) = (ts, refl, parsed r)
  parsed (at_stop f) = (refl, f)

  -- ---- a whole file

  pub course_parsed : (ts : List Token) → Course gs (here file false []) [] (sign open_list first_pair) ts → (f : LaunchFile) × (well_formed f ≡ true) × (ts ≡ file_tokens f) × (groups_of f ≡ gs)
  unfolding well_formed good_around file_tokens around_tokens entries_tokens
  course_parsed ts r = whole (parsed r)
    where
      whole : Parsed (here file false []) [] (sign open_list first_pair) ts → (f : LaunchFile) × (well_formed f ≡ true) × (ts ≡ file_tokens f) × (groups_of f ≡ gs)
      whole (us, e, (ps, q, vs, f, e₁, (ps₁, q₁, ws, f₁, e₂, (es, xs, f₂, e₃, (ps₂, ys, f₃, e₄, (zs, e₅, (ps₃, as₁, f₄, e₆, (e₇, g)))))))) = (
        record { outer = record { before = ps; form = q; behind = ps₃ }; inner = record { before = ps₁; form = q₁; behind = ps₂ }; entries = es },
        also (also f f₄) (also (also f₁ f₃) f₂),
        rw (e, e₁, e₂, e₃, e₄, e₅, e₆, e₇),
        g,
      )
