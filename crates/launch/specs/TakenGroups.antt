-- Every group of a file that is taken has a node. Assumes nothing.
use Rattle.std.specs.Prelude.{◌≡◌, Bool, ◌&&◌, cond, ℕ, suc, eqb, ltb, length}
use Rattle.std.proofs.Math.Path.{refl}
use Rattle.std.proofs.Common.{sym, ap, ◌∙◌, arith}
use Rattle.std.proofs.Math.Bool.{true, false}
use mathlib.Core.List.{List, [], ◌∷◌, ◌++◌}
use Rattle.tokens.specs.Bytes.{quote, white, digit, small, name_byte}
use Rattle.tokens.specs.Reserved.{same, is_reserved}
use Rattle.grammar.specs.File.{depth_limit, Group, Level, file, kernel, Here, Sign, comma, open_list, close_list, open_tuple, close_tuple, ascii, Bracket, list, tuple, closing, own_key, Use, key, name, node, Phase, sign, letters, atom, plain, quoted, first_pair, next_pair, first_group, next_group, kind, next_node, value, first, after, word, other, digits, full_stop, Move, goes, stops, dead, spaced, reads, ended_pairs, ends_pairs, Lead, to_sign, to_node, nowhere, enters, keyed, named, node_next, behind_quote, behind_word, opens, begins, closes, separates, follows, step, taken, refused, ends, onward, rest, outcome}
use Rattle.duplicates.specs.Names.{both}
use Rattle.plan.specs.Peopled.{some_node, peopled}

-- where a list of nodes may end, there is one
abbrev fine : Phase → Bool
fine (sign c ph) = fine ph
fine (letters c cs ph) = fine ph
fine (atom u) = true
fine (plain u w) = true
fine (quoted u w) = true
fine first_pair = true
fine next_pair = true
fine first_group = true
fine next_group = true
fine (kind n) = true
fine (next_node n ns) = some_node ns
fine value = true
fine first = true
fine after = true
fine (word w) = true
fine other = true
fine digits = true
fine full_stop = true

-- and every group that is read has one
abbrev IsGood : Move → Type 0
IsGood (goes h due ph) = (peopled h.groups ≡ true) × (fine ph ≡ true)
IsGood (stops gs) = peopled gs ≡ true
IsGood dead = Unit {0}

-- the same behind an atom
abbrev IsGoodLead : Lead → Type 0
IsGoodLead (to_sign h c ph) = (peopled h.groups ≡ true) × (fine ph ≡ true)
IsGoodLead (to_node h n ns) = (peopled h.groups ≡ true) × (some_node ns ≡ true)
IsGoodLead nowhere = Unit {0}

-- of two moves
either : (x : Bool) (m n : Move) → IsGood m → IsGood n → IsGood (cond x m n)
either true m n p q = p
either false m n p q = q

-- one node more, and one group more
some_more : (ns : List (List ℕ)) (w : List ℕ) → some_node (ns ++ (w ∷ [])) ≡ true
some_more [] w = refl
some_more (n ∷ ns) w = refl

peopled-more : (gs : List Group) (n : List ℕ) (ns : List (List ℕ)) → peopled gs ≡ true → some_node ns ≡ true → peopled (gs ++ (record { name = n; nodes = ns } ∷ [])) ≡ true
peopled-more [] n ns p q = rw q
peopled-more (g ∷ gs) n ns p q = let r = both (some_node g.nodes) (peopled gs) p in rw r.0 (peopled-more gs n ns r.1 q)

-- ---- one byte

module _ (h : Here) (p : peopled h.groups ≡ true) where
  good-spaced : (due : List Bracket) (ph : Phase) (b : ℕ) (m : Move) → fine ph ≡ true → IsGood m → IsGood (spaced h due ph b m)
  unfolding spaced
  good-spaced due ph b m f g = either (white b) _ _ (p, f) g

  good-reads : (ph : Phase) (b : ℕ) (c : Sign) (next : Phase) (m : Move) → fine ph ≡ true → fine next ≡ true → IsGood m → IsGood (reads h ph b c next m)
  unfolding reads
  good-reads ph b c next m f n g = good-spaced [] ph b _ f (either (eqb b (ascii c)) _ _ (p, n) g)

  good-ends_pairs : (b : ℕ) → IsGood (ends_pairs h b)
  unfolding ends_pairs
  good-ends_pairs b = either (eqb b (ascii close_list) && h.found) _ _ (go h.level) tt
    where
      go : (l : Level) → IsGood (ended_pairs l h.groups)
      go file = (p, refl)
      go kernel = (p, refl)

  good-node_next : (n : List ℕ) (ns : List (List ℕ)) (b : ℕ) → some_node ns ≡ true → IsGood (node_next h n ns b)
  unfolding node_next
  good-node_next n ns b q =
      good-reads (next_node n ns) b comma (atom (node n ns)) _ q refl (either (eqb b (ascii close_list)) _ _ (peopled-more h.groups n ns p q, refl) tt)

  good-named : (u : Use) (w : List ℕ) → IsGoodLead (named h u w)
  unfolding named keyed
  good-named key w = go (same w (own_key h.level)) h.found h.level
    where
      go : (x y : Bool) (l : Level) → IsGoodLead (cond x (cond y nowhere (enters l h.groups)) (to_sign h comma value))
      go true true l = tt
      go true false file = (p, refl)
      go true false kernel = (p, refl)
      go false y l = (p, refl)
  good-named name w = (p, refl)
  good-named (node n ns) w = (p, some_more ns w)

  -- ---- skipped values

  good-opens : (c : Bracket) (due : List Bracket) → IsGood (opens h c due)
  unfolding opens
  good-opens c due = either (ltb (length due) depth_limit) _ _ (p, refl) tt

  good-begins : (due : List Bracket) (b : ℕ) → IsGood (begins h due b)
  unfolding begins
  good-begins due b =
      either (small b) _ _ (p, refl)
      (either (eqb b quote) _ _ (p, refl)
      (either (digit b) _ _ (p, refl)
      (either (eqb b (ascii open_list)) _ _ (good-opens list due)
      (either (eqb b (ascii open_tuple)) _ _ (good-opens tuple due)
      tt))))

  good-closes : (due : List Bracket) (b : ℕ) (m : Move) → IsGood m → IsGood (closes h due b m)
  unfolding closes
  good-closes [] b m g = g
  good-closes (k ∷ due) b m g = either (eqb b (closing k)) _ _ (p, refl) g

  good-separates : (due : List Bracket) (b : ℕ) → IsGood (separates h due b)
  unfolding separates
  good-separates [] b = either (eqb b (ascii close_tuple)) _ _ (p, refl) tt
  good-separates (c ∷ due) b = either (eqb b (ascii comma)) _ _ (p, refl) tt

  good-follows : (due : List Bracket) (b : ℕ) → IsGood (follows h due b)
  unfolding follows
  good-follows due b = good-spaced due after b _ refl (good-closes due b _ (good-separates due b))

-- behind an atom
good-quote : (l : Lead) → IsGoodLead l → IsGood (behind_quote l)
good-quote (to_sign h c ph) g = g
good-quote (to_node h n ns) g = g
good-quote nowhere g = tt

good-word : (l : Lead) (b : ℕ) → IsGoodLead l → IsGood (behind_word l b)
good-word (to_sign h c ph) b g = good-reads h g.0 (sign c ph) b c ph dead g.1 g.1 tt
good-word (to_node h n ns) b g = good-node_next h g.0 n ns b g.1
good-word nowhere b g = tt

-- every move is such
good-step : (h : Here) (due : List Bracket) (ph : Phase) (b : ℕ) → peopled h.groups ≡ true → fine ph ≡ true → IsGood (step h due ph b)
unfolding step
good-step h due (sign c ph) b p f = good-reads h p (sign c ph) b c ph dead f f tt
good-step h due (letters c [] ph) b p f = either (eqb b c) _ _ (p, f) tt
good-step h due (letters c (x ∷ xs) ph) b p f = either (eqb b c) _ _ (p, f) tt
good-step h due (atom u) b p f = good-spaced h p [] (atom u) b _ refl (either (small b) _ _ (p, refl) (either (eqb b quote) _ _ (p, refl) tt))
good-step h due (plain u w) b p f = either (name_byte b) _ _ (p, refl) (either (is_reserved w) _ _ tt (good-word (named h u w) b (good-named h p u w)))
good-step h due (quoted u w) b p f = either (eqb b quote) _ _ (good-quote (named h u w) (good-named h p u w)) (either (eqb b 92) _ _ tt (p, refl))
good-step h due first_pair b p f = good-reads h p first_pair b open_tuple (atom key) _ refl refl (good-ends_pairs h p b)
good-step h due next_pair b p f = good-reads h p next_pair b comma (sign open_tuple (atom key)) _ refl refl (good-ends_pairs h p b)
good-step h due first_group b p f = good-reads h p first_group b open_tuple (atom name) _ refl refl (either (eqb b (ascii close_list)) _ _ (p, refl) tt)
good-step h due next_group b p f = good-reads h p next_group b comma (sign open_tuple (atom name)) _ refl refl (either (eqb b (ascii close_list)) _ _ (p, refl) tt)
good-step h due (kind n) b p f = good-spaced h p [] (kind n) b _ refl (either (eqb b 110) _ _ (p, refl) (either (eqb b quote) _ _ (p, refl) tt))
good-step h due (next_node n ns) b p f = good-node_next h p n ns b f
good-step h due value b p f = good-spaced h p due value b _ refl (good-begins h p due b)
good-step h due first b p f = good-spaced h p due first b _ refl (good-closes h p due b _ (good-begins h p due b))
good-step h due after b p f = good-follows h p due b
good-step h due (word w) b p f = either (name_byte b) _ _ (p, refl) (either (is_reserved w) _ _ tt (good-follows h p due b))
good-step h due other b p f = either (eqb b quote) _ _ (p, refl) (either (eqb b 92) _ _ tt (p, refl))
good-step h due digits b p f = either (digit b) _ _ (p, refl) (good-follows h p due b)
good-step h due full_stop b p f = good-spaced h p [] full_stop b _ refl (either (eqb b 46) _ _ p tt)

-- ---- a whole text

same-groups : (gs ks : List Group) → taken gs ≡ taken ks → gs ≡ ks
same-groups gs ks e = cc

never-taken : (p : ℕ) (gs : List Group) → refused p ≡ taken gs → ⊥
never-taken p gs e = let z : ◌≡◌ {A = ℕ} 0 1 = cc in omega arith

-- the groups that stood before the full stop are taken
ends_with : (ks gs : List Group) (p : ℕ) (bs : List ℕ) → ends ks p bs ≡ taken gs → ks ≡ gs
unfolding ends
ends_with ks gs p [] e = same-groups ks gs e
ends_with ks gs p (b ∷ bs) e = go (white b) e (ends_with ks gs (suc p) bs)
  where
    go : (x : Bool) → cond x (ends ks (suc p) bs) (refused p) ≡ taken gs → (ends ks (suc p) bs ≡ taken gs → ks ≡ gs) → ks ≡ gs
    go true e f = f e
    go false e f = absurd (never-taken p gs e)

-- by each byte
rest-peopled : (gs : List Group) (h : Here) (due : List Bracket) (ph : Phase) (p : ℕ) (bs : List ℕ) → peopled h.groups ≡ true → fine ph ≡ true
    → rest h due ph p bs ≡ taken gs → peopled gs ≡ true
unfolding rest
rest-peopled gs h due ph p [] q f e = absurd (never-taken p gs e)
rest-peopled gs h due ph p (b ∷ bs) q f e = go (step h due ph b) (good-step h due ph b q f) e (λ g d k. rest-peopled gs g d k (suc p) bs)
  where
    go : (m : Move) → IsGood m → onward p (λ g d k. rest g d k (suc p) bs) (λ ks. ends ks (suc p) bs) m ≡ taken gs
        → ((g : Here) (d : List Bracket) (k : Phase) → peopled g.groups ≡ true → fine k ≡ true → rest g d k (suc p) bs ≡ taken gs → peopled gs ≡ true)
        → peopled gs ≡ true
    go (goes g d k) w e i = i g d k w.0 w.1 e
    go (stops ks) w e i = ap peopled (sym (ends_with ks gs (suc p) bs e)) ∙ w
    go dead w e i = absurd (never-taken p gs e)

-- from the first byte on
pub taken-peopled : (t : List ℕ) (gs : List Group) → outcome t ≡ taken gs → peopled gs ≡ true
taken-peopled t gs e = rest-peopled gs _ _ _ 0 t refl refl e
