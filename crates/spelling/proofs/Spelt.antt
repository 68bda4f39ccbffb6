-- Every spelling of a launch file is taken, with the file's groups. Assumes nothing.
use Rattle.std.proofs.Math.Path.{◌≡◌, refl}
use Rattle.std.proofs.Common.{sym, arith}
use Rattle.std.proofs.Math.Bool.{true, false, not}
use Rattle.std.specs.Prelude.{◌&&◌, ℕ, suc, ◌+◌, ◌≤◌, length}
use mathlib.Core.List.{List, [], ◌∷◌, ◌++◌, append_assoc, append-nil, map}
use borrow.Author.Tests.{leb-true, lt-leb, ne_eqb}
use Rattle.std.proofs.Math.Dec.{leb}
use Rattle.tokens.specs.Bytes.{white, name_byte}
use Rattle.tokens.specs.Reserved.{bytes, same, is_reserved, among, reserved_words}
use Rattle.grammar.specs.File.{Group, Level, file, kernel, Here, Sign, comma, open_list, close_list, open_tuple, close_tuple, ascii, Bracket, list, tuple, depth_limit, key, name, node, Phase, sign, atom, first_pair, next_pair, first_group, next_group, next_node, value, first, after, full_stop, with_group, goes, reads, ended_pairs, ends_pairs, keyed, named, node_next, closes, separates, follows, to_sign, own_key, step, taken, ends, rest, outcome}
use Rattle.grammar.specs.File as File
use Rattle.spelling.specs.Tests.{both, unless}
use Rattle.spelling.specs.Spelling.{Form, bare, in_quotes, Atom, Value, atomic, numeric, nested, Values, no_more, item, Pair, Entry, Around, LaunchFile, group_of, groups_of, all, well_named, good_atom, good_value, good_values, depth, most_deep, good_pair, some_node, good_entry, good_around, well_formed, Token, a_sign, the_stop, closer, value_tokens, first_tokens, next_tokens, leading, trailing, separated, node_tokens, pair_tokens, entry_tokens, entries_tokens, around_tokens, file_tokens, token_bytes, Blank, spaced, spell}
use Rattle.spelling.specs.Course.{here, with_entry, names, Course, at_sign, at_atom, at_node, one_pair, no_pair, more_pairs, end_pairs, one_group, no_group, more_groups, end_groups, at_kind, more_nodes, end_nodes, value_atom, value_number, value_opens, first_value, first_closes, more_values, value_closes, pair_closes, at_stop}
use Rattle.spelling.specs.Takes.{Takes, past-white, past-sign, apart, past-atom, past-kind, past-value_atom, past-number, past-opener, past-closer, first-closer, as_first}

-- ---- a course is taken, whatever white space stands between its tokens

stays : {gs : List Group} {h : Here} {due : List Bracket} {ph : Phase} {ts : List Token} → Course gs h due ph ts → (b : ℕ) → white b ≡ true → step h due ph b ≡ goes h due ph
unfolding step reads File.spaced node_next follows
stays (at_sign r) b e = rw e
stays (at_atom a f l r) b e = rw e
stays (at_node a f l r) b e = rw e
stays (one_pair r) b e = rw e
stays (no_pair f l r) b e = rw e
stays (more_pairs r) b e = rw e
stays (end_pairs f l r) b e = rw e
stays (one_group r) b e = rw e
stays (no_group r) b e = rw e
stays (more_groups r) b e = rw e
stays (end_groups r) b e = rw e
stays (at_kind q r) b e = rw e
stays (more_nodes r) b e = rw e
stays (end_nodes r) b e = rw e
stays (value_atom a f r) b e = rw e
stays (value_number ds f r) b e = rw e
stays (value_opens k l r) b e = rw e
stays (first_value r) b e = rw e
stays (first_closes r) b e = rw e
stays (more_values r) b e = rw e
stays (value_closes r) b e = rw e
stays (pair_closes r) b e = rw e
stays (at_stop f) b e = rw e

-- the text without the white space in front
close_up : (ℕ → List ℕ) → List Token → List ℕ
close_up gap [] = []
close_up gap (t ∷ ts) = token_bytes t ++ spaced (λ n. gap (suc n)) ts

-- the machine takes the tokens, whatever white space stands between them
abbrev Reads : List Group → Here → List Bracket → Phase → List Token → Type 0
Reads gs h due ph ts = (gap : ℕ → List ℕ) → Blank gap → Takes gs h due ph (close_up gap ts)

spaced-out : {gs : List Group} {h : Here} {due : List Bracket} {ph : Phase} {ts : List Token} → Course gs h due ph ts → Reads gs h due ph ts → (gap : ℕ → List ℕ) → Blank gap → Takes gs h due ph (spaced gap ts)
unfolding close_up spaced
spaced-out {gs} {h} {due} {ph} {ts} r k gap bl p = rw (split ts) (past-white gs h due ph (stays r) (gap 0) (close_up gap ts) (bl 0) (k gap bl) p)
  where
    split : (us : List Token) → spaced gap us ≡ gap 0 ++ close_up gap us
    split [] = sym (append-nil (gap 0))
    split (t ∷ us) = refl

-- the white space behind the first token
abbrev later : (ℕ → List ℕ) → ℕ → List ℕ
later gap n = gap (suc n)

behind : {gs : List Group} {h : Here} {due : List Bracket} {ph : Phase} {ts : List Token} → Course gs h due ph ts → Reads gs h due ph ts → (gap : ℕ → List ℕ) → Blank gap → Takes gs h due ph (spaced (later gap) ts)
behind r k gap bl = spaced-out r k (later gap) (λ n. bl (suc n))

-- no token that follows an atom or a number goes on with it
blank-apart : (b : ℕ) → white b ≡ true → name_byte b ≡ false
unfolding name_byte
blank-apart b e =
    let l : b ≤ 32 = leb-true b 32 e in
    rw (lt-leb 48 b (omega arith), lt-leb 64 b (omega arith), ne_eqb b 95 (λ z. absurd (omega arith)), lt-leb 97 b (omega arith))

signs_apart : (w : List ℕ) (c : Sign) (s : List ℕ) → all white w ≡ true → apart (w ++ (ascii c ∷ s)) ≡ true
unfolding all apart name_byte
signs_apart [] comma s f = refl
signs_apart [] open_list s f = refl
signs_apart [] close_list s f = refl
signs_apart [] open_tuple s f = refl
signs_apart [] close_tuple s f = refl
signs_apart (b ∷ w) c s f = let (x, y) = both (white b) (all white w) f in rw (blank-apart b x)

sign-apart : {gs : List Group} {h : Here} {c : Sign} {ph : Phase} {ts : List Token} → Course gs h [] (sign c ph) ts → (gap : ℕ → List ℕ) → Blank gap → apart (spaced gap ts) ≡ true
unfolding spaced token_bytes
sign-apart (at_sign {c = c} r) gap bl = signs_apart (gap 0) c _ (bl 0)

node-apart : {gs : List Group} {h : Here} {n : List ℕ} {ns : List (List ℕ)} {ts : List Token} → Course gs h [] (next_node n ns) ts → (gap : ℕ → List ℕ) → Blank gap → apart (spaced gap ts) ≡ true
unfolding spaced token_bytes
node-apart (more_nodes r) gap bl = signs_apart (gap 0) comma _ (bl 0)
node-apart (end_nodes r) gap bl = signs_apart (gap 0) close_list _ (bl 0)

value-apart : {gs : List Group} {h : Here} {due : List Bracket} {ts : List Token} → Course gs h due after ts → (gap : ℕ → List ℕ) → Blank gap → apart (spaced gap ts) ≡ true
unfolding spaced token_bytes
value-apart (more_values r) gap bl = signs_apart (gap 0) comma _ (bl 0)
value-apart (value_closes {k = k} r) gap bl = signs_apart (gap 0) (closer k) _ (bl 0)
value-apart (pair_closes r) gap bl = signs_apart (gap 0) close_tuple _ (bl 0)

-- behind the full stop there is white space alone
all-ends : (gs : List Group) (p : ℕ) (w : List ℕ) → all white w ≡ true → ends gs p w ≡ taken gs
unfolding ends all
all-ends gs p [] f = refl
all-ends gs p (b ∷ w) f = let (x, y) = both (white b) (all white w) f in rw x (all-ends gs (suc p) w y)

stopped : {gs : List Group} (h : Here) → h.groups ≡ gs → (w : List ℕ) → all white w ≡ true → Takes gs h [] full_stop (46 ∷ w)
unfolding rest step File.spaced
stopped {gs} h f w b p = rw f (all-ends gs (suc p) w b)

next-value : (h : Here) (due : List Bracket) (k : Bracket) → step h (k ∷ due) after (ascii comma) ≡ goes h (k ∷ due) value
unfolding step follows File.spaced closes separates
next-value h due list = refl
next-value h due tuple = refl

-- one byte
one_byte : {gs : List Group} {g : Here} {d : List Bracket} {f : Phase} (h : Here) (due : List Bracket) (ph : Phase) (b : ℕ) (s : List ℕ) → step h due ph b ≡ goes g d f → Takes gs g d f s → Takes gs h due ph (b ∷ s)
unfolding rest
one_byte h due ph b s e k p = rw e (k (suc p))

taken-close : {gs : List Group} {h : Here} {due : List Bracket} {ph : Phase} {ts : List Token} → Course gs h due ph ts → Reads gs h due ph ts
unfolding close_up spaced token_bytes step reads File.spaced ends_pairs node_next follows separates closes
taken-close (at_sign {h = h} {c = c} {ph = ph} r) gap bl = past-sign _ h c ph _ (behind r (λ w b p. taken-close r w b p) gap bl)
taken-close (at_atom {h = h} {u = u} a f l r) gap bl =
    past-atom _ h u a.form a.name _ f (sign-apart r (later gap) (λ n. bl (suc n))) (rw l (behind r (λ w b p. taken-close r w b p) gap bl))
taken-close (at_node {h = h} {u = u} a f l r) gap bl =
    past-atom _ h u a.form a.name _ f (node-apart r (later gap) (λ n. bl (suc n))) (rw l (behind r (λ w b p. taken-close r w b p) gap bl))
taken-close (one_pair r) gap bl = one_byte _ _ _ _ _ refl (behind r (λ w b p. taken-close r w b p) gap bl)
taken-close (no_pair f l r) gap bl = one_byte _ _ _ _ _ (rw (f, l)) (behind r (λ w b p. taken-close r w b p) gap bl)
taken-close (more_pairs r) gap bl = one_byte _ _ _ _ _ refl (behind r (λ w b p. taken-close r w b p) gap bl)
taken-close (end_pairs f l r) gap bl = one_byte _ _ _ _ _ (rw (f, l)) (behind r (λ w b p. taken-close r w b p) gap bl)
taken-close (one_group r) gap bl = one_byte _ _ _ _ _ refl (behind r (λ w b p. taken-close r w b p) gap bl)
taken-close (no_group r) gap bl = one_byte _ _ _ _ _ refl (behind r (λ w b p. taken-close r w b p) gap bl)
taken-close (more_groups r) gap bl = one_byte _ _ _ _ _ refl (behind r (λ w b p. taken-close r w b p) gap bl)
taken-close (end_groups r) gap bl = one_byte _ _ _ _ _ refl (behind r (λ w b p. taken-close r w b p) gap bl)
taken-close (at_kind {h = h} {n = n} q r) gap bl = past-kind _ h n q _ (behind r (λ w b p. taken-close r w b p) gap bl)
taken-close (more_nodes r) gap bl = one_byte _ _ _ _ _ refl (behind r (λ w b p. taken-close r w b p) gap bl)
taken-close (end_nodes r) gap bl = one_byte _ _ _ _ _ refl (behind r (λ w b p. taken-close r w b p) gap bl)
taken-close (value_atom {h = h} {due = due} a f r) gap bl =
    past-value_atom _ h due a.form a.name _ f (value-apart r (later gap) (λ n. bl (suc n))) (behind r (λ w b p. taken-close r w b p) gap bl)
taken-close (value_number {h = h} {due = due} ds f r) gap bl =
    past-number _ h due ds _ f (value-apart r (later gap) (λ n. bl (suc n))) (behind r (λ w b p. taken-close r w b p) gap bl)
taken-close (value_opens {h = h} {due = due} k l r) gap bl = past-opener _ h due k _ l (behind r (λ w b p. taken-close r w b p) gap bl)
taken-close (first_value {h = h} {due = due} r) gap bl = λ p. as_first _ h due _ p (taken-close r gap bl p)
taken-close (first_closes {h = h} {k = k} {due = due} r) gap bl = first-closer _ h due k _ (behind r (λ w b p. taken-close r w b p) gap bl)
taken-close (more_values {k = k} r) gap bl = one_byte _ _ _ _ _ (next-value _ _ k) (behind r (λ w b p. taken-close r w b p) gap bl)
taken-close (value_closes {h = h} {k = k} {due = due} r) gap bl = past-closer _ h due k _ (behind r (λ w b p. taken-close r w b p) gap bl)
taken-close (pair_closes r) gap bl = one_byte _ _ _ _ _ refl (behind r (λ w b p. taken-close r w b p) gap bl)
taken-close (at_stop {h = h} f) gap bl = stopped h f (gap 1) (bl 1)

-- ---- a term's tokens have a course

mutual
  unfolding good_value depth value_tokens

  value-course : (v : Value) (gs : List Group) (h : Here) (due : List Bracket) (ts : List Token) → good_value v ≡ true → length due + depth v ≤ depth_limit → Course gs h due after ts
      → Course gs h due value (value_tokens v ts)
  value-course (atomic a) gs h due ts f l r = value_atom a f r
  value-course (numeric ds) gs h due ts f l r = value_number ds f r
  value-course (nested k vs) gs h due ts f l r = value_opens {due = due} k (omega arith) (first-course vs gs h k due ts f (omega arith) r)

  first-course : (vs : Values) (gs : List Group) (h : Here) (k : Bracket) (due : List Bracket) (ts : List Token) → good_values vs ≡ true → suc (length due) + most_deep vs ≤ depth_limit → Course gs h due after ts
      → Course gs h (k ∷ due) first (first_tokens vs (a_sign (closer k) ∷ ts))
  first-course no_more gs h k due ts f l r = first_closes r
  first-course (item v vs) gs h k due ts f l r =
      let (x, y) = both (good_value v) (good_values vs) f in
      first_value (value-course v gs h (k ∷ due) (next_tokens vs (a_sign (closer k) ∷ ts)) x (omega arith) (next-course vs gs h k due ts y (omega arith) r))

  next-course : (vs : Values) (gs : List Group) (h : Here) (k : Bracket) (due : List Bracket) (ts : List Token) → good_values vs ≡ true → suc (length due) + most_deep vs ≤ depth_limit → Course gs h due after ts
      → Course gs h (k ∷ due) after (next_tokens vs (a_sign (closer k) ∷ ts))
  next-course no_more gs h k due ts f l r = value_closes r
  next-course (item v vs) gs h k due ts f l r =
      let (x, y) = both (good_value v) (good_values vs) f in
      more_values (value-course v gs h (k ∷ due) (next_tokens vs (a_sign (closer k) ∷ ts)) x (omega arith) (next-course vs gs h k due ts y (omega arith) r))

-- the first pair or group of a list is read as each further one behind its comma
first_of-pairs : {gs : List Group} {h : Here} {ts : List Token} → Course gs h [] (sign open_tuple (atom key)) ts → Course gs h [] first_pair ts
first_of-pairs (at_sign r) = one_pair r

first_of-groups : {gs : List Group} {h : Here} {ts : List Token} → Course gs h [] (sign open_tuple (atom name)) ts → Course gs h [] first_group ts
first_of-groups (at_sign r) = one_group r

-- pairs that are skipped, behind the one that is read and in front of it
module _ (gs : List Group) (h : Here) where
  pair-course : (p : Pair) (ts : List Token) → good_pair (own_key h.level) p ≡ true → Course gs h [] next_pair ts → Course gs h [] (sign open_tuple (atom key)) (pair_tokens p ts)
  unfolding good_pair pair_tokens named keyed
  pair-course p ts f r =
      let (x, y) = both (good_atom p.key && not (same p.key.name (own_key h.level))) (good_value p.value && leb (depth p.value) depth_limit) f in
      let (x₁, x₂) = both (good_atom p.key) (not (same p.key.name (own_key h.level))) x in
      let (y₁, y₂) = both (good_value p.value) (leb (depth p.value) depth_limit) y in
      let skips : named h key p.key.name ≡ to_sign h comma value = rw (unless (same p.key.name (own_key h.level)) x₂) in
      let inside = value-course p.value gs h [] (a_sign close_tuple ∷ ts) y₁ (omega (arith, leb-true (depth p.value) depth_limit y₂)) (pair_closes r) in
      at_sign (at_atom p.key x₁ skips (at_sign inside))

  behind-course : (ps : List Pair) (ts : List Token) → all (good_pair (own_key h.level)) ps ≡ true → Course gs h [] next_pair ts → Course gs h [] next_pair (trailing pair_tokens ps ts)
  unfolding all trailing
  behind-course [] ts f r = r
  behind-course (p ∷ ps) ts f r =
      let (x, y) = both (good_pair (own_key h.level) p) (all (good_pair (own_key h.level)) ps) f in
      more_pairs (pair-course p (trailing pair_tokens ps ts) x (behind-course ps ts y r))

  before-course : (ps : List Pair) (ts : List Token) → all (good_pair (own_key h.level)) ps ≡ true → Course gs h [] (sign open_tuple (atom key)) ts
      → Course gs h [] (sign open_tuple (atom key)) (leading pair_tokens ps ts)
  unfolding all leading
  before-course [] ts f r = r
  before-course (p ∷ ps) ts f r =
      let (x, y) = both (good_pair (own_key h.level) p) (all (good_pair (own_key h.level)) ps) f in
      pair-course p (a_sign comma ∷ leading pair_tokens ps ts) x (more_pairs (before-course ps ts y r))

-- the nodes of a group
module _ (gs : List Group) (h : Here) (n : List ℕ) where
  nodes-next : (ns : List (List ℕ)) (nodes : List Atom) (ts : List Token) → all good_atom nodes ≡ true → Course gs (with_group h n (ns ++ names nodes)) [] next_group ts
      → Course gs h [] (next_node n ns) (trailing node_tokens nodes (a_sign close_list ∷ (a_sign close_tuple ∷ ts)))
  unfolding all trailing named
  nodes-next ns [] ts f r = end_nodes (at_sign (rw append-nil at r))
  nodes-next ns (a ∷ nodes) ts f r =
      let (x, y) = both (good_atom a) (all good_atom nodes) f in
      let j : (ns ++ (a.name ∷ [])) ++ names nodes ≡ ns ++ (a.name ∷ names nodes) = append_assoc ns (a.name ∷ []) (names nodes) in
      more_nodes (at_node a x refl (nodes-next (ns ++ (a.name ∷ [])) nodes ts y (rw j r)))

  nodes-course : (nodes : List Atom) (ts : List Token) → some_node nodes ≡ true → all good_atom nodes ≡ true → Course gs (with_group h n (names nodes)) [] next_group ts
      → Course gs h [] (atom (node n [])) (separated node_tokens nodes (a_sign close_list ∷ (a_sign close_tuple ∷ ts)))
  unfolding all some_node separated named
  nodes-course [] ts e f r = absurd (let z : ◌≡◌ {A = ℕ} 0 1 = cc in omega arith)
  nodes-course (a ∷ nodes) ts e f r = let (x, y) = both (good_atom a) (all good_atom nodes) f in at_node a x refl (nodes-next (a.name ∷ []) nodes ts y r)

-- groups behind the ones that are read
abbrev grouped : Here → List Entry → Here
grouped h es = record { level = h.level; found = h.found; groups = h.groups ++ map group_of es }

module _ (gs : List Group) where
  entry-course : (h : Here) (e : Entry) (ts : List Token) → good_entry e ≡ true → Course gs (grouped h (e ∷ [])) [] next_group ts → Course gs h [] (sign open_tuple (atom name)) (entry_tokens e ts)
  unfolding good_entry entry_tokens named
  entry-course h e ts f r =
      let (x, y) = both (good_atom e.name) (some_node e.nodes && all good_atom e.nodes) f in
      let (y₁, y₂) = both (some_node e.nodes) (all good_atom e.nodes) y in
      at_sign (at_atom e.name x refl (at_sign (at_kind e.normal (at_sign (at_sign (nodes-course gs h e.name.name e.nodes ts y₁ y₂ r))))))

  entries_next : (h : Here) (es : List Entry) (ts : List Token) → all good_entry es ≡ true → Course gs (with_entry (grouped h es)) [] (sign close_tuple next_pair) ts
      → Course gs h [] next_group (trailing entry_tokens es (a_sign close_list ∷ ts))
  unfolding all trailing
  entries_next h [] ts f r = end_groups (rw append-nil at r)
  entries_next h (e ∷ es) ts f r =
      let (x, y) = both (good_entry e) (all good_entry es) f in
      let j : (h.groups ++ (group_of e ∷ [])) ++ map group_of es ≡ h.groups ++ (group_of e ∷ map group_of es) = append_assoc h.groups (group_of e ∷ []) (map group_of es) in
      more_groups (entry-course h e (trailing entry_tokens es (a_sign close_list ∷ ts)) x (entries_next (grouped h (e ∷ [])) es ts y (rw j r)))

  entries-course : (h : Here) (es : List Entry) (ts : List Token) → all good_entry es ≡ true → Course gs (with_entry (grouped h es)) [] (sign close_tuple next_pair) ts
      → Course gs h [] (sign open_list first_group) (entries_tokens es ts)
  unfolding all separated entries_tokens
  entries-course h [] ts f r = at_sign (no_group (rw append-nil at r))
  entries-course h (e ∷ es) ts f r =
      let (x, y) = both (good_entry e) (all good_entry es) f in
      let j : (h.groups ++ (group_of e ∷ [])) ++ map group_of es ≡ h.groups ++ (group_of e ∷ map group_of es) = append_assoc h.groups (group_of e ∷ []) (map group_of es) in
      at_sign (first_of-groups (entry-course h e (trailing entry_tokens es (a_sign close_list ∷ ts)) x (entries_next (grouped h (e ∷ [])) es ts y (rw j r))))

-- ---- the two lists of pairs

own-good : (q : Form) (lv : Level) → well_named q (own_key lv) ≡ true
unfolding well_named all name_byte is_reserved among reserved_words
own-good bare file = refl
own-good bare kernel = refl
own-good in_quotes file = refl
own-good in_quotes kernel = refl

-- the list of pairs of a level, given the course of the value that is read
module _ (gs : List Group) (lv : Level) (l : Around) (value : List Token → List Token) where
  around-course : (was now : List Group) (g : Here) (ph next : Phase) (ts : List Token) → good_around (own_key lv) l ≡ true → named (here lv false was) key (own_key lv) ≡ to_sign g comma next
      → ((us : List Token) → Course gs (here lv true now) [] (sign close_tuple next_pair) us → Course gs g [] next (value us))
      → ended_pairs lv now ≡ goes (here file true now) [] ph → Course gs (here file true now) [] ph ts
      → Course gs (here lv false was) [] (sign open_list first_pair) (around_tokens (own_key lv) l value ts)
  unfolding good_around around_tokens
  around-course was now g ph next ts f e k d r =
      let (x, y) = both (all (good_pair (own_key lv)) l.before) (all (good_pair (own_key lv)) l.behind) f in
      at_sign (first_of-pairs (before-course gs (here lv false was) l.before _ x
      (at_sign (at_atom _ (own-good l.form lv) e (at_sign (k _ (at_sign (behind-course gs (here lv true now) l.behind _ y (end_pairs refl d r)))))))))

file-course : (f : LaunchFile) → well_formed f ≡ true → Course (groups_of f) (here file false []) [] (sign open_list first_pair) (file_tokens f)
unfolding well_formed file_tokens named keyed
file-course f e =
    let (x, y) = both (good_around (bytes "kernel") f.outer) (good_around (bytes "s_groups") f.inner && all good_entry f.entries) e in
    let (y₁, y₂) = both (good_around (bytes "s_groups") f.inner) (all good_entry f.entries) y in
    let gs = groups_of f in
    around-course gs file f.outer _ [] gs (here kernel false []) full_stop (sign open_list first_pair) (the_stop ∷ []) x refl
    (λ us r. around-course gs kernel f.inner _ [] gs (here kernel false []) (sign close_tuple next_pair) (sign open_list first_group) us y₁ refl
    (λ vs q. entries-course gs (here kernel false []) f.entries vs y₂ q) refl r)
    refl (at_stop refl)

-- ---- the theorem

pub spelt : (f : LaunchFile) (gap : ℕ → List ℕ) → well_formed f ≡ true → Blank gap → outcome (spell gap f) ≡ taken (groups_of f)
unfolding spell
spelt f gap e bl = let r = file-course f e in spaced-out r (taken-close r) gap bl 0
