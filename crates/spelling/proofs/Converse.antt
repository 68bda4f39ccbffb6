-- Every text that is taken is a spelling of a launch file. Assumes nothing.
use Rattle.std.specs.Prelude.{◌≡◌, Bool, ◌&&◌, cond, ℕ, zero, suc, eqb, ltb, length}
use Rattle.std.proofs.Math.Path.{refl, ap}
use Rattle.std.proofs.Common.{sym, ◌∙◌, arith}
use Rattle.std.proofs.Math.Bool.{true, false}
use mathlib.Core.List.{List, [], ◌∷◌, ◌++◌, append_assoc, append-nil}
use borrow.Author.Tests.{eqb-true, ltb-true}
use Rattle.tokens.specs.Bytes.{quote, white, digit, small, name_byte, plain_byte}
use Rattle.tokens.specs.Reserved.{bytes, same, is_reserved}
use Rattle.grammar.specs.File.{Group, Level, file, kernel, Here, Sign, comma, open_list, close_list, open_tuple, close_tuple, ascii, Bracket, list, tuple, closing, depth_limit, Use, key, name, node, Phase, sign, letters, atom, plain, quoted, first_pair, next_pair, first_group, next_group, kind, next_node, value, first, after, word, other, digits, full_stop, Move, goes, stops, dead, reads, ends_pairs, ended_pairs, ended_groups, with_group, behind_kind, behind_word, behind_quote, keyed, named, node_next, opens, begins, closes, separates, follows, Lead, to_sign, to_node, nowhere, enters, own_key, step, taken, refused, ends, onward, rest, outcome}
use Rattle.grammar.specs.File as File
use Rattle.spelling.specs.Spelling.{bare, in_quotes, Atom, LaunchFile, groups_of, all, well_named, good_atom, good_number, well_formed, Token, a_sign, an_atom, a_number, the_stop, opener, closer, atom_bytes, token_bytes, Blank, spaced, spell}
use Rattle.spelling.specs.Spelling as Spelling
use Rattle.spelling.specs.Course.{with_entry, Course, at_sign, at_atom, at_node, one_pair, no_pair, more_pairs, end_pairs, one_group, no_group, more_groups, end_groups, at_kind, more_nodes, end_nodes, value_atom, value_number, value_opens, first_value, first_closes, more_values, value_closes, pair_closes, at_stop}
use Rattle.spelling.specs.Tests.{both, also}
use Rattle.spelling.proofs.Parsed.{course_parsed}

-- ---- a text cut into tokens

record Cut (gs : List Group) (h : Here) (due : List Bracket) (ph : Phase) (s : List ℕ) : Type 0 where
  gap : ℕ → List ℕ
  blank : Blank gap
  tokens : List Token
  text : s ≡ spaced gap tokens
  course : Course gs h due ph tokens

-- white space in front of the first token, and that of the others
abbrev put : List ℕ → (ℕ → List ℕ) → ℕ → List ℕ
put w gap zero = w
put w gap (suc n) = gap n

put-blank : (w : List ℕ) (gap : ℕ → List ℕ) → all white w ≡ true → Blank gap → Blank (put w gap)
put-blank w gap f bl zero = f
put-blank w gap f bl (suc n) = bl n

more-white : (b : ℕ) (gap : ℕ → List ℕ) (ts : List Token) → b ∷ spaced gap ts ≡ spaced (put (b ∷ gap 0) (λ n. gap (suc n))) ts
unfolding spaced
more-white b gap [] = refl
more-white b gap (t ∷ ts) = refl

module _ (gs : List Group) where
  cut-white : (h : Here) (due : List Bracket) (ph : Phase) (b : ℕ) (s : List ℕ) → white b ≡ true → Cut gs h due ph s → Cut gs h due ph (b ∷ s)
  unfolding all
  cut-white h due ph b s w k = record {
    gap = put (b ∷ k.gap 0) (λ n. k.gap (suc n));
    blank = put-blank (b ∷ k.gap 0) (λ n. k.gap (suc n)) (also w (k.blank 0)) (λ n. k.blank (suc n));
    tokens = k.tokens;
    text = ap (λ x. b ∷ x) k.text ∙ more-white b k.gap k.tokens;
    course = k.course;
  }

  -- a token behind white space
  cut-token : (h g : Here) (due d : List Bracket) (ph f : Phase) (w : List ℕ) (t : Token) (s : List ℕ) → all white w ≡ true → (k : Cut gs g d f s)
      → (Course gs g d f k.tokens → Course gs h due ph (t ∷ k.tokens)) → Cut gs h due ph (w ++ (token_bytes t ++ s))
  unfolding spaced
  cut-token h g due d ph f w t s a k c = record {
    gap = put w k.gap;
    blank = put-blank w k.gap a k.blank;
    tokens = t ∷ k.tokens;
    text = ap (λ x. w ++ (token_bytes t ++ x)) k.text;
    course = c k.course;
  }

  -- ---- what is known of a text that is taken, in each phase

  -- where an atom leads
  abbrev LedCut : Lead → List ℕ → Type 0
  LedCut (to_sign h c ph) s = Cut gs h [] (sign c ph) s
  LedCut (to_node h n ns) s = Cut gs h [] (next_node n ns) s
  LedCut nowhere s = ⊥

  abbrev Claim : Here → List Bracket → Phase → List ℕ → Type 0
  Claim h due (sign c ph) s = (w : List ℕ) × (s₁ : List ℕ) × (all white w ≡ true) × (s ≡ w ++ (ascii c ∷ s₁)) × Claim h [] ph s₁
  Claim h due (letters c cs ph) s = (s₁ : List ℕ) × (s ≡ c ∷ (cs ++ s₁)) × Claim h [] ph s₁
  Claim h due (atom u) s = Cut gs h [] (atom u) s
  Claim h due (plain u w) s = (v : List ℕ) × (s₁ : List ℕ) × (all name_byte v ≡ true) × (is_reserved (w ++ v) ≡ false) × (s ≡ v ++ s₁) × LedCut (named h u (w ++ v)) s₁
  Claim h due (quoted u w) s = (v : List ℕ) × (s₁ : List ℕ) × (all plain_byte v ≡ true) × (s ≡ v ++ (quote ∷ s₁)) × LedCut (named h u (w ++ v)) s₁
  Claim h due first_pair s = Cut gs h [] first_pair s
  Claim h due next_pair s = Cut gs h [] next_pair s
  Claim h due first_group s = Cut gs h [] first_group s
  Claim h due next_group s = Cut gs h [] next_group s
  Claim h due (kind n) s = Cut gs h [] (kind n) s
  Claim h due (next_node n ns) s = Cut gs h [] (next_node n ns) s
  Claim h due value s = Cut gs h due value s
  Claim h due first s = Cut gs h due first s
  Claim h due after s = Cut gs h due after s
  Claim h due (word w) s = (v : List ℕ) × (s₁ : List ℕ) × (all name_byte v ≡ true) × (is_reserved (w ++ v) ≡ false) × (s ≡ v ++ s₁) × Cut gs h due after s₁
  Claim h due other s = (v : List ℕ) × (s₁ : List ℕ) × (all plain_byte v ≡ true) × (s ≡ v ++ (quote ∷ s₁)) × Cut gs h due after s₁
  Claim h due digits s = (v : List ℕ) × (s₁ : List ℕ) × (all digit v ≡ true) × (s ≡ v ++ s₁) × Cut gs h due after s₁
  Claim h due full_stop s = Cut gs h [] full_stop s

  abbrev LedClaim : Lead → List ℕ → Type 0
  LedClaim (to_sign h c ph) s = Claim h [] (sign c ph) s
  LedClaim (to_node h n ns) s = Claim h [] (next_node n ns) s
  LedClaim nowhere s = ⊥

  -- behind a sign
  cut-sign : (h : Here) (c : Sign) (ph : Phase) (s : List ℕ) → ((s₁ : List ℕ) → Claim h [] ph s₁ → Cut gs h [] ph s₁) → Claim h [] (sign c ph) s → Cut gs h [] (sign c ph) s
  unfolding token_bytes
  cut-sign h c ph s k (w, s₁, a, e, l) = rw e (cut-token h h [] [] (sign c ph) ph w (a_sign c) s₁ a (k s₁ l) at_sign)

  key-cut : (h : Here) (own : Bool) (s : List ℕ) → LedClaim (keyed h own) s → LedCut (keyed h own) s
  unfolding keyed
  key-cut h true s k = go h.found h.level k
    where
      go : (fd : Bool) (lv : Level) → LedClaim (cond fd nowhere (enters lv h.groups)) s → LedCut (cond fd nowhere (enters lv h.groups)) s
      go true lv k = k
      go false file k = cut-sign _ comma _ s (λ s₁ l. cut-sign _ open_list first_pair s₁ (λ s₂ m. m) l) k
      go false kernel k = cut-sign _ comma _ s (λ s₁ l. cut-sign _ open_list first_group s₁ (λ s₂ m. m) l) k
  key-cut h false s k = cut-sign h comma value s (λ s₁ l. l) k

  lead-cut : (h : Here) (u : Use) (w s : List ℕ) → LedClaim (named h u w) s → LedCut (named h u w) s
  unfolding named
  lead-cut h key w s k = key-cut h (same w (own_key h.level)) s k
  lead-cut h name w s k = cut-sign h comma (kind w) s (λ s₁ l. l) k
  lead-cut h (node n ns) w s k = k

  -- an atom with where it leads
  cut-atom : (h : Here) (u : Use) (a : Atom) (s : List ℕ) → good_atom a ≡ true → (l : Lead) → named h u a.name ≡ l → LedCut l s → Cut gs h [] (atom u) (atom_bytes a.form a.name ++ s)
  unfolding all token_bytes
  cut-atom h u a s f (to_sign g c ph) e k = cut-token h g [] [] (atom u) (sign c ph) [] (an_atom a) s refl k (at_atom a f e)
  cut-atom h u a s f (to_node g n ns) e k = cut-token h g [] [] (atom u) (next_node n ns) [] (an_atom a) s refl k (at_node a f e)
  cut-atom h u a s f nowhere e k = absurd k

-- ---- one byte, given what is known of the text behind it

-- behind the full stop there is white space alone
ended : (gs hs : List Group) (p : ℕ) (s : List ℕ) → ends hs p s ≡ taken gs → (all white s ≡ true) × (hs ≡ gs)
unfolding ends all
ended gs hs p [] e = (refl, cc)
ended gs hs p (b ∷ bs) e = go (white b) refl e (ended gs hs (suc p) bs)
  where
    go : (x : Bool) → white b ≡ x → cond x (ends hs (suc p) bs) (refused p) ≡ taken gs → (ends hs (suc p) bs ≡ taken gs → (all white bs ≡ true) × (hs ≡ gs)) → ((white b && all white bs) ≡ true) × (hs ≡ gs)
    go true w e k = let (x, y) = k e in (also w x, y)
    go false w e k = absurd (let z : ◌≡◌ {A = ℕ} 0 1 = cc in omega arith)

module _ (gs : List Group) (p b : ℕ) (bs : List ℕ) (ih : (g : Here) (d : List Bracket) (f : Phase) → rest g d f (suc p) bs ≡ taken gs → Claim gs g d f bs) where
  -- the text is taken behind this move
  abbrev To : Move → Type 0
  To m = onward p (λ g d f. rest g d f (suc p) bs) (λ hs. ends hs (suc p) bs) m ≡ taken gs

  stuck : {X : Type 0} → To dead → X
  stuck e = absurd (let z : ◌≡◌ {A = ℕ} 0 1 = cc in omega arith)

  -- the byte passes a test or not
  tested : {X : Type 0} (x : Bool) (m n : Move) → To (cond x m n) → (x ≡ true → To m → X) → (x ≡ false → To n → X) → X
  tested true m n e k l = k refl e
  tested false m n e k l = l refl e

  -- white space in front of a token
  past-space : (h : Here) (due : List Bracket) (ph : Phase) (m : Move) → To (File.spaced h due ph b m) → (Claim gs h due ph bs → Cut gs h due ph bs) → (To m → Cut gs h due ph (b ∷ bs)) → Cut gs h due ph (b ∷ bs)
  unfolding File.spaced
  past-space h due ph m e k l = tested (white b) (goes h due ph) m e (λ w t. cut-white gs h due ph b bs w (k (ih h due ph t))) (λ w t. l t)

  -- one byte is a token
  one-sign : (h g : Here) (due d : List Bracket) (ph f : Phase) (c : Sign) → eqb b (ascii c) ≡ true → (k : Cut gs g d f bs) → (Course gs g d f k.tokens → Course gs h due ph (a_sign c ∷ k.tokens)) → Cut gs h due ph (b ∷ bs)
  unfolding token_bytes all
  one-sign h g due d ph f c e k r = rw (eqb-true b (ascii c) e) (cut-token gs h g due d ph f [] (a_sign c) bs refl k r)

  sign-case : (h : Here) (c : Sign) (ph : Phase) → To (reads h (sign c ph) b c ph dead) → Claim gs h [] (sign c ph) (b ∷ bs)
  unfolding reads File.spaced all
  sign-case h c ph e =
      tested (white b) (goes h [] (sign c ph)) (cond (eqb b (ascii c)) (goes h [] ph) dead) e
      (λ w t. let (v, s, a, q, k) = ih h [] (sign c ph) t in (b ∷ v, s, also w a, ap (λ x. b ∷ x) q, k))
      (λ w t. tested (eqb b (ascii c)) (goes h [] ph) dead t (λ y u. ([], bs, refl, ap (λ x. x ∷ bs) (eqb-true b (ascii c) y), ih h [] ph u)) (λ y u. stuck u))

  -- a sign that is read, or else m is done
  reads-case : (h : Here) (ph next : Phase) (c : Sign) (m : Move) → To (reads h ph b c next m) → (Claim gs h [] ph bs → Cut gs h [] ph bs) → (eqb b (ascii c) ≡ true → Claim gs h [] next bs → Cut gs h [] ph (b ∷ bs))
      → (To m → Cut gs h [] ph (b ∷ bs)) → Cut gs h [] ph (b ∷ bs)
  unfolding reads
  reads-case h ph next c m e w k l =
      past-space h [] ph (cond (eqb b (ascii c)) (goes h [] next) m) e w
      (λ t. tested (eqb b (ascii c)) (goes h [] next) m t (λ y u. k y (ih h [] next u)) (λ y u. l u))

  -- ---- pairs

  ended_case : (lv : Level) (hs : List Group) → To (ended_pairs lv hs) → (g : Here) × (f : Phase) × (ended_pairs lv hs ≡ goes g [] f) × Cut gs g [] f bs
  ended_case file hs e = (_, full_stop, refl, ih _ [] full_stop e)
  ended_case kernel hs e = (_, sign close_tuple next_pair, refl, cut-sign gs _ close_tuple next_pair bs (λ s k. k) (ih _ [] (sign close_tuple next_pair) e))

  ends-case : (h : Here) (ph : Phase) → ((g : Here) (f : Phase) (ts : List Token) → h.found ≡ true → ended_pairs h.level h.groups ≡ goes g [] f → Course gs g [] f ts → Course gs h [] ph (a_sign close_list ∷ ts))
      → To (ends_pairs h b) → Cut gs h [] ph (b ∷ bs)
  unfolding ends_pairs
  ends-case h ph r e =
      tested (eqb b (ascii close_list) && h.found) (ended_pairs h.level h.groups) dead e
      (λ y t.
      let (y₁, y₂) = both (eqb b (ascii close_list)) h.found y in
      let (g, f, q, k) = ended_case h.level h.groups t in
      one-sign h g [] [] ph f close_list y₁ k (r g f k.tokens y₂ q))
      (λ y t. stuck t)

  first_pair-case : (h : Here) → To (step h [] first_pair b) → Cut gs h [] first_pair (b ∷ bs)
  unfolding step
  first_pair-case h e =
      reads-case h first_pair (atom key) open_tuple (ends_pairs h b) e (λ k. k)
      (λ y k. one-sign h h [] [] first_pair (atom key) open_tuple y k one_pair) (ends-case h first_pair (λ g f ts. no_pair))

  next_pair-case : (h : Here) → To (step h [] next_pair b) → Cut gs h [] next_pair (b ∷ bs)
  unfolding step
  next_pair-case h e =
      reads-case h next_pair (sign open_tuple (atom key)) comma (ends_pairs h b) e (λ k. k)
      (λ y k. one-sign h h [] [] next_pair (sign open_tuple (atom key)) comma y (cut-sign gs h open_tuple (atom key) bs (λ s l. l) k) more_pairs) (ends-case h next_pair (λ g f ts. end_pairs))

  -- ---- groups and nodes

  groups-end : (h : Here) (ph : Phase) → ((ts : List Token) → Course gs (with_entry h) [] (sign close_tuple next_pair) ts → Course gs h [] ph (a_sign close_list ∷ ts))
      → To (cond (eqb b (ascii close_list)) (ended_groups h) dead) → Cut gs h [] ph (b ∷ bs)
  groups-end h ph r e =
      tested (eqb b (ascii close_list)) (ended_groups h) dead e
      (λ y t.
      let k = cut-sign gs (with_entry h) close_tuple next_pair bs (λ s l. l) (ih (with_entry h) [] (sign close_tuple next_pair) t) in
      one-sign h (with_entry h) [] [] ph (sign close_tuple next_pair) close_list y k (r k.tokens))
      (λ y t. stuck t)

  first_group-case : (h : Here) → To (step h [] first_group b) → Cut gs h [] first_group (b ∷ bs)
  unfolding step
  first_group-case h e =
      reads-case h first_group (atom name) open_tuple _ e (λ k. k) (λ y k. one-sign h h [] [] first_group (atom name) open_tuple y k one_group) (groups-end h first_group (λ ts. no_group))

  next_group-case : (h : Here) → To (step h [] next_group b) → Cut gs h [] next_group (b ∷ bs)
  unfolding step
  next_group-case h e =
      reads-case h next_group (sign open_tuple (atom name)) comma _ e (λ k. k)
      (λ y k. one-sign h h [] [] next_group (sign open_tuple (atom name)) comma y (cut-sign gs h open_tuple (atom name) bs (λ s l. l) k) more_groups) (groups-end h next_group (λ ts. end_groups))

  node-case : (h : Here) (n : List ℕ) (ns : List (List ℕ)) → To (node_next h n ns b) → Cut gs h [] (next_node n ns) (b ∷ bs)
  unfolding node_next
  node-case h n ns e =
      reads-case h (next_node n ns) (atom (node n ns)) comma _ e (λ k. k) (λ y k. one-sign h h [] [] (next_node n ns) (atom (node n ns)) comma y k more_nodes)
      (λ t. tested (eqb b (ascii close_list)) (goes (with_group h n ns) [] (sign close_tuple next_group)) dead t
      (λ y u. one-sign h (with_group h n ns) [] [] (next_node n ns) (sign close_tuple next_group) close_list y
      (cut-sign gs (with_group h n ns) close_tuple next_group bs (λ s l. l) (ih (with_group h n ns) [] (sign close_tuple next_group) u)) end_nodes)
      (λ y u. stuck u))

  -- `normal`
  letters-case : (h : Here) (due : List Bracket) (c : ℕ) (cs : List ℕ) (ph : Phase) → To (step h due (letters c cs ph) b) → Claim gs h due (letters c cs ph) (b ∷ bs)
  unfolding step
  letters-case h due c [] ph e = tested (eqb b c) (goes h [] ph) dead e (λ y t. (bs, ap (λ x. x ∷ bs) (eqb-true b c y), ih h [] ph t)) (λ y t. stuck t)
  letters-case h due c (x ∷ xs) ph e =
      tested (eqb b c) (goes h [] (letters x xs ph)) dead e
      (λ y t. let (s, q, k) = ih h [] (letters x xs ph) t in let j : b ≡ c = eqb-true b c y in (s, rw (j, q), k))
      (λ y t. stuck t)

  behind-normal : (h : Here) (n : List ℕ) (s : List ℕ) → Claim gs h [] (behind_kind n) s → Cut gs h [] (behind_kind n) s
  behind-normal h n s k = cut-sign gs h comma _ s (λ s₁ l. cut-sign gs h open_list (atom (node n [])) s₁ (λ s₂ m. m) l) k

  kind-case : (h : Here) (n : List ℕ) → To (step h [] (kind n) b) → Cut gs h [] (kind n) (b ∷ bs)
  unfolding step token_bytes all
  kind-case h n e =
      past-space h [] (kind n) _ e (λ k. k)
      (λ t. tested (eqb b 110) _ _ t
      (λ y u.
      let (s, q, k) = ih h [] (letters 111 (bytes "rmal") (behind_kind n)) u in
      let j : b ≡ 110 = eqb-true b 110 y in
      rw (j, q) (cut-token gs h h [] [] (kind n) (behind_kind n) [] (Spelling.word bare (bytes "normal")) s refl (behind-normal h n s k) (at_kind bare)))
      (λ z u. tested (eqb b quote) _ dead u
      (λ y r.
      let (s, q, k) = ih h [] (letters 110 (bytes "ormal'") (behind_kind n)) r in
      let j : b ≡ quote = eqb-true b quote y in
      rw (j, q) (cut-token gs h h [] [] (kind n) (behind_kind n) [] (Spelling.word in_quotes (bytes "normal")) s refl (behind-normal h n s k) (at_kind in_quotes)))
      (λ y r. stuck r)))

  -- ---- atoms that are read

  word-led : (l : Lead) → To (behind_word l b) → LedClaim gs l (b ∷ bs)
  word-led (to_sign g c ph) e = sign-case g c ph e
  word-led (to_node g n ns) e = node-case g n ns e
  word-led nowhere e = stuck e

  quote-led : (l : Lead) → To (behind_quote l) → LedClaim gs l bs
  quote-led (to_sign g c ph) e = ih g [] (sign c ph) e
  quote-led (to_node g n ns) e = ih g [] (next_node n ns) e
  quote-led nowhere e = stuck e

  plain-case : (h : Here) (due : List Bracket) (u : Use) (w : List ℕ) → To (step h due (plain u w) b) → Claim gs h due (plain u w) (b ∷ bs)
  unfolding step all
  plain-case h due u w e =
      tested (name_byte b) _ _ e
      (λ y t.
      let (v, s, a, r, q, k) = ih h [] (plain u (w ++ (b ∷ []))) t in
      let j : (w ++ (b ∷ [])) ++ v ≡ w ++ (b ∷ v) = append_assoc w (b ∷ []) v in
      (b ∷ v, s, also y a, rw j at r, ap (λ x. b ∷ x) q, rw j at k))
      (λ z t. tested (is_reserved w) dead _ t (λ y r. stuck r)
      (λ y r. ([], b ∷ bs, refl, rw append-nil y, refl, rw append-nil (lead-cut gs h u w (b ∷ bs) (word-led (named h u w) r)))))

  quoted-case : (h : Here) (due : List Bracket) (u : Use) (w : List ℕ) → To (step h due (quoted u w) b) → Claim gs h due (quoted u w) (b ∷ bs)
  unfolding step all
  quoted-case h due u w e =
      tested (eqb b quote) _ _ e
      (λ y t. ([], bs, refl, ap (λ x. x ∷ bs) (eqb-true b quote y), rw append-nil (lead-cut gs h u w bs (quote-led (named h u w) t))))
      (λ y t. tested (eqb b 92) dead _ t (λ z r. stuck r)
      (λ z r.
      let (v, s, a, q, k) = ih h [] (quoted u (w ++ (b ∷ []))) r in
      let j : (w ++ (b ∷ [])) ++ v ≡ w ++ (b ∷ v) = append_assoc w (b ∷ []) v in
      let g : plain_byte b ≡ true = rw (y, z) in
      (b ∷ v, s, also g a, ap (λ x. b ∷ x) q, rw j at k)))

  atom-case : (h : Here) (u : Use) → To (step h [] (atom u) b) → Cut gs h [] (atom u) (b ∷ bs)
  unfolding step well_named
  atom-case h u e =
      past-space h [] (atom u) _ e (λ k. k)
      (λ t. tested (small b) _ _ t
      (λ y r.
      let (v, s, a, f, q, k) = ih h [] (plain u (b ∷ [])) r in
      rw q (cut-atom gs h u (record { form = bare; name = b ∷ v }) s (also y (also a (rw f))) (named h u (b ∷ v)) refl k))
      (λ z r. tested (eqb b quote) _ dead r
      (λ y x.
      let (v, s, a, q, k) = ih h [] (quoted u []) x in
      let j : b ≡ quote = eqb-true b quote y in
      let c : (v ++ (quote ∷ [])) ++ s ≡ v ++ (quote ∷ s) = append_assoc v (quote ∷ []) s in
      rw (j, q, ← c) (cut-atom gs h u (record { form = in_quotes; name = v }) s a (named h u v) refl k))
      (λ y x. stuck x)))

  -- ---- skipped values

  closed-by : (k : Bracket) → closing k ≡ ascii (closer k)
  closed-by list = refl
  closed-by tuple = refl

  -- behind a value
  after-case : (h : Here) (due : List Bracket) → To (follows h due b) → Cut gs h due after (b ∷ bs)
  unfolding follows closes separates
  after-case h [] e =
      past-space h [] after _ e (λ k. k)
      (λ t. tested (eqb b (ascii close_tuple)) (goes h [] next_pair) dead t (λ y u. one-sign h h [] [] after next_pair close_tuple y (ih h [] next_pair u) pair_closes) (λ y u. stuck u))
  after-case h (c ∷ due) e =
      past-space h (c ∷ due) after _ e (λ k. k)
      (λ t. tested (eqb b (closing c)) (goes h due after) _ t
      (λ y u. one-sign h h (c ∷ due) due after after (closer c) (rw closed-by at y) (ih h due after u) value_closes)
      (λ z u. tested (eqb b (ascii comma)) (goes h (c ∷ due) value) dead u (λ y r. one-sign h h (c ∷ due) (c ∷ due) after value comma y (ih h (c ∷ due) value r) more_values) (λ y r. stuck r)))

  opens-case : (h : Here) (due : List Bracket) (c : Bracket) → eqb b (ascii (opener c)) ≡ true → To (opens h c due) → Cut gs h due value (b ∷ bs)
  unfolding opens
  opens-case h due c y e =
      tested (ltb (length due) depth_limit) (goes h (c ∷ due) first) dead e
      (λ l t. one-sign h h due (c ∷ due) value first (opener c) y (ih h (c ∷ due) first t) (value_opens c (ltb-true (length due) depth_limit l)))
      (λ l t. stuck t)

  begins-case : (h : Here) (due : List Bracket) → To (begins h due b) → Cut gs h due value (b ∷ bs)
  unfolding begins well_named good_number token_bytes all
  begins-case h due e =
      tested (small b) _ _ e
      (λ y t.
      let (v, s, a, f, q, k) = ih h due (word (b ∷ [])) t in
      let g : well_named bare (b ∷ v) ≡ true = also y (also a (rw f)) in
      rw q (cut-token gs h h due due value after [] (Spelling.word bare (b ∷ v)) s refl k (value_atom _ g)))
      (λ z₁ e₁. tested (eqb b quote) _ _ e₁
      (λ y t.
      let (v, s, a, q, k) = ih h due other t in
      let j : b ≡ quote = eqb-true b quote y in
      let c : (v ++ (quote ∷ [])) ++ s ≡ v ++ (quote ∷ s) = append_assoc v (quote ∷ []) s in
      rw (j, q, ← c) (cut-token gs h h due due value after [] (Spelling.word in_quotes v) s refl k (value_atom _ a)))
      (λ z₂ e₂. tested (digit b) _ _ e₂
      (λ y t. let (v, s, a, q, k) = ih h due digits t in rw q (cut-token gs h h due due value after [] (a_number (b ∷ v)) s refl k (value_number (b ∷ v) (also y a))))
      (λ z₃ e₃. tested (eqb b (ascii open_list)) _ _ e₃ (λ y t. opens-case h due list y t)
      (λ z₄ e₄. tested (eqb b (ascii open_tuple)) _ dead e₄ (λ y t. opens-case h due tuple y t) (λ y t. stuck t)))))

  as_first : (h : Here) (due : List Bracket) (s : List ℕ) → Cut gs h due value s → Cut gs h due first s
  as_first h due s k = record { gap = k.gap; blank = k.blank; tokens = k.tokens; text = k.text; course = first_value k.course }

  first-case : (h : Here) (due : List Bracket) → To (step h due first b) → Cut gs h due first (b ∷ bs)
  unfolding step closes
  first-case h [] e = past-space h [] first _ e (λ k. k) (λ t. as_first h [] (b ∷ bs) (begins-case h [] t))
  first-case h (c ∷ due) e =
      past-space h (c ∷ due) first _ e (λ k. k)
      (λ t. tested (eqb b (closing c)) (goes h due after) _ t
      (λ y u. one-sign h h (c ∷ due) due first after (closer c) (rw closed-by at y) (ih h due after u) first_closes)
      (λ z u. as_first h (c ∷ due) (b ∷ bs) (begins-case h (c ∷ due) u)))

  word-case : (h : Here) (due : List Bracket) (w : List ℕ) → To (step h due (word w) b) → Claim gs h due (word w) (b ∷ bs)
  unfolding step all
  word-case h due w e =
      tested (name_byte b) _ _ e
      (λ y t.
      let (v, s, a, r, q, k) = ih h due (word (w ++ (b ∷ []))) t in
      (b ∷ v, s, also y a, rw (append_assoc w (b ∷ []) v) at r, ap (λ x. b ∷ x) q, k))
      (λ z t. tested (is_reserved w) dead _ t (λ y r. stuck r) (λ y r. ([], b ∷ bs, refl, rw append-nil y, refl, after-case h due r)))

  other-case : (h : Here) (due : List Bracket) → To (step h due other b) → Claim gs h due other (b ∷ bs)
  unfolding step all
  other-case h due e =
      tested (eqb b quote) _ _ e
      (λ y t. ([], bs, refl, ap (λ x. x ∷ bs) (eqb-true b quote y), ih h due after t))
      (λ y t. tested (eqb b 92) dead _ t (λ z r. stuck r)
      (λ z r.
      let (v, s, a, q, k) = ih h due other r in
      let g : plain_byte b ≡ true = rw (y, z) in
      (b ∷ v, s, also g a, ap (λ x. b ∷ x) q, k)))

  digits-case : (h : Here) (due : List Bracket) → To (step h due digits b) → Claim gs h due digits (b ∷ bs)
  unfolding step all
  digits-case h due e =
      tested (digit b) _ _ e
      (λ y t. let (v, s, a, q, k) = ih h due digits t in (b ∷ v, s, also y a, ap (λ x. b ∷ x) q, k))
      (λ z t. ([], b ∷ bs, refl, refl, after-case h due t))

  -- ---- the end

  stop-case : (h : Here) → To (step h [] full_stop b) → Cut gs h [] full_stop (b ∷ bs)
  unfolding step spaced token_bytes all
  stop-case h e =
      past-space h [] full_stop _ e (λ k. k)
      (λ t. tested (eqb b 46) (stops h.groups) dead t
      (λ y u.
      let (w, g) = ended gs h.groups (suc p) bs u in
      record {
        gap = put [] (put bs (λ n. []));
        blank = put-blank [] (put bs (λ n. [])) refl (put-blank bs (λ n. []) w (λ n. refl));
        tokens = the_stop ∷ [];
        text = ap (λ x. x ∷ bs) (eqb-true b 46 y);
        course = at_stop g;
      })
      (λ y u. stuck u))

  by-phase : (h : Here) (due : List Bracket) (ph : Phase) → To (step h due ph b) → Claim gs h due ph (b ∷ bs)
  unfolding step
  by-phase h due (sign c ph) e = sign-case h c ph e
  by-phase h due (letters c cs ph) e = letters-case h due c cs ph e
  by-phase h due (atom u) e = atom-case h u e
  by-phase h due (plain u w) e = plain-case h due u w e
  by-phase h due (quoted u w) e = quoted-case h due u w e
  by-phase h due first_pair e = first_pair-case h e
  by-phase h due next_pair e = next_pair-case h e
  by-phase h due first_group e = first_group-case h e
  by-phase h due next_group e = next_group-case h e
  by-phase h due (kind n) e = kind-case h n e
  by-phase h due (next_node n ns) e = node-case h n ns e
  by-phase h due value e = past-space h due value _ e (λ k. k) (begins-case h due)
  by-phase h due first e = first-case h due e
  by-phase h due after e = after-case h due e
  by-phase h due (word w) e = word-case h due w e
  by-phase h due other e = other-case h due e
  by-phase h due digits e = digits-case h due e
  by-phase h due full_stop e = stop-case h e

-- ---- the theorem

claimed : (gs : List Group) (s : List ℕ) (h : Here) (due : List Bracket) (ph : Phase) (p : ℕ) → rest h due ph p s ≡ taken gs → Claim gs h due ph s
unfolding rest
claimed gs [] h due ph p e = absurd (let z : ◌≡◌ {A = ℕ} 0 1 = cc in omega arith)
claimed gs (b ∷ bs) h due ph p e = by-phase gs p b bs (λ g d f. claimed gs bs g d f (suc p)) h due ph e

pub taken_spelt : (t : List ℕ) (gs : List Group) → outcome t ≡ taken gs
    → (f : LaunchFile) × (gap : ℕ → List ℕ) × (well_formed f ≡ true) × Blank gap × (spell gap f ≡ t) × (groups_of f ≡ gs)
unfolding spell
taken_spelt t gs e =
    let k = cut-sign gs _ open_list first_pair t (λ s l. l) (claimed gs t _ [] (sign open_list first_pair) 0 e) in
    let (f, w, q, g) = course_parsed gs k.tokens k.course in
    (f, k.gap, w, k.blank, sym (k.text ∙ ap (λ (ts : List Token). spaced k.gap ts) q), g)
