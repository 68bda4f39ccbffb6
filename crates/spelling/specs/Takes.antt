-- What the machine takes behind each token. Assumes nothing.
use Rattle.std.specs.Prelude.{◌≡◌, refl, Bool, true, false, not, ◌&&◌, ◌||◌, cond, ℕ, suc, ◌≤◌, ◌<◌, eqb, leb, length}
use mathlib.Core.List.{List, [], ◌∷◌, ◌++◌, append_assoc, append-nil}
use Rattle.std.proofs.Common.{arith, leb-true, lt-ltb, eqb-true, ne_eqb}
use Rattle.std.proofs.lemmas.Bool.{lt-leb}
use Rattle.tokens.specs.Bytes.{within, quote, white, digit, small, name_byte, plain_byte}
use Rattle.tokens.specs.Reserved.{bytes, is_reserved}
use Rattle.grammar.specs.File.{Group, Here, Sign, comma, open_list, close_list, open_tuple, close_tuple, ascii, Bracket, list, tuple, closing, depth_limit, Use, Phase, sign, atom, plain, quoted, kind, next_node, value, first, after, word, other, digits, Move, goes, dead, spaced, reads, behind_kind, behind_word, behind_quote, opens, begins, closes, follows, Lead, to_sign, to_node, nowhere, named, step, Outcome, taken, refused, ends, onward, rest}
use Rattle.spelling.specs.Tests.{both, unless}
use Rattle.spelling.specs.Spelling.{Form, bare, in_quotes, atom_bytes, all, well_named, good_number, opener, closer}

-- the machine takes a text from this state, wherever it begins
abbrev pub Takes : List Group → Here → List Bracket → Phase → List ℕ → Type 0
Takes gs h due ph s = (p : ℕ) → rest h due ph p s ≡ taken gs

-- ---- white space, signs

module _ (gs : List Group) (h : Here) (due : List Bracket) (ph : Phase) (stay : (b : ℕ) → white b ≡ true → step h due ph b ≡ goes h due ph) where
  pub past-white : (w s : List ℕ) → all white w ≡ true → Takes gs h due ph s → Takes gs h due ph (w ++ s)
  unfolding rest all
  past-white [] s f k p = k p
  past-white (b ∷ bs) s f k p = let (x, y) = both (white b) (all white bs) f in rw (stay b x) (past-white bs s y k (suc p))

pub past-sign : (gs : List Group) (h : Here) (c : Sign) (ph : Phase) (s : List ℕ) → Takes gs h [] ph s → Takes gs h [] (sign c ph) (ascii c ∷ s)
unfolding rest step reads spaced
past-sign gs h comma ph s k p = k (suc p)
past-sign gs h open_list ph s k p = k (suc p)
past-sign gs h close_list ph s k p = k (suc p)
past-sign gs h open_tuple ph s k p = k (suc p)
past-sign gs h close_tuple ph s k p = k (suc p)

-- ---- where a plain atom or a number ends

-- the first byte of a text is none of a name
unfoldable pub apart : List ℕ → Bool
apart [] = true
apart (b ∷ bs) = not (name_byte b)

-- every digit is a byte of a name
digit-name : (b : ℕ) → name_byte b ≡ false → digit b ≡ false
unfolding name_byte
digit-name b e = go (digit b) (within 64 90 b) (eqb b 95 || small b) e
  where
    go : (x y z : Bool) → ((x || y) || z) ≡ false → x ≡ false
    go true y z e = absurd (let z : ◌≡◌ {A = ℕ} 0 1 = cc in omega arith)
    go false y z e = refl

-- ---- atoms that are read

-- the machine takes a text where an atom leads
abbrev pub Led : List Group → Lead → List ℕ → Type 0
Led gs (to_sign h c ph) s = Takes gs h [] (sign c ph) s
Led gs (to_node h n ns) s = Takes gs h [] (next_node n ns) s
Led gs nowhere s = ⊥

plain-ended : (gs : List Group) (h : Here) (u : Use) (w s : List ℕ) → is_reserved w ≡ false → apart s ≡ true → Led gs (named h u w) s → Takes gs h [] (plain u w) s
unfolding rest step apart
plain-ended gs h u w [] r e k p = go (named h u w) k
  where
    go : (l : Lead) → Led gs l [] → refused p ≡ taken gs
    go (to_sign g c ph) k = k p
    go (to_node g n ns) k = k p
    go nowhere k = absurd k
plain-ended gs h u w (b ∷ bs) r e k p = rw (unless (name_byte b) e, r) (go (named h u w) k)
  where
    go : (l : Lead) → Led gs l (b ∷ bs) → onward p (λ g d f. rest g d f (suc p) bs) (λ hs. ends hs (suc p) bs) (behind_word l b) ≡ taken gs
    go (to_sign g c ph) k = k p
    go (to_node g n ns) k = k p
    go nowhere k = absurd k

plain-goes : (gs : List Group) (h : Here) (u : Use) (w v s : List ℕ) → all name_byte v ≡ true → is_reserved (w ++ v) ≡ false → apart s ≡ true → Led gs (named h u (w ++ v)) s
    → Takes gs h [] (plain u w) (v ++ s)
unfolding rest step all
plain-goes gs h u w [] s a r e k p = plain-ended gs h u w s (rw append-nil at r) e (rw append-nil at k) p
plain-goes gs h u w (b ∷ v) s a r e k p =
    let (x, y) = both (name_byte b) (all name_byte v) a in
    let j : (w ++ (b ∷ [])) ++ v ≡ w ++ (b ∷ v) = append_assoc w (b ∷ []) v in
    rw x (plain-goes gs h u (w ++ (b ∷ [])) v s y (rw j r) e (rw j k) (suc p))

quoted-goes : (gs : List Group) (h : Here) (u : Use) (w v s : List ℕ) → all plain_byte v ≡ true → Led gs (named h u (w ++ v)) s → Takes gs h [] (quoted u w) (v ++ (quote ∷ s))
unfolding rest step all
quoted-goes gs h u w [] s a k p = go (named h u w) (rw append-nil at k)
  where
    go : (l : Lead) → Led gs l s → onward p (λ g d f. rest g d f (suc p) s) (λ hs. ends hs (suc p) s) (behind_quote l) ≡ taken gs
    go (to_sign g c ph) k = k (suc p)
    go (to_node g n ns) k = k (suc p)
    go nowhere k = absurd k
quoted-goes gs h u w (b ∷ v) s a k p =
    let (x, y) = both (plain_byte b) (all plain_byte v) a in
    let (x₁, x₂) = both (not (eqb b quote)) (not (eqb b 92)) x in
    let j : (w ++ (b ∷ [])) ++ v ≡ w ++ (b ∷ v) = append_assoc w (b ∷ []) v in
    rw (unless (eqb b quote) x₁, unless (eqb b 92) x₂) (quoted-goes gs h u (w ++ (b ∷ [])) v s y (rw j k) (suc p))

-- a small letter is no white space
small-dark : (b : ℕ) → small b ≡ true → white b ≡ false
small-dark b e = let (x, y) = both (leb 97 b) (leb b 122) e in lt-leb b 32 (omega (arith, leb-true 97 b x))

pub past-atom : (gs : List Group) (h : Here) (u : Use) (q : Form) (n s : List ℕ) → well_named q n ≡ true → apart s ≡ true → Led gs (named h u n) s → Takes gs h [] (atom u) (atom_bytes q n ++ s)
unfolding rest step spaced well_named
past-atom gs h u bare [] s f e k p = absurd (let z : ◌≡◌ {A = ℕ} 0 1 = cc in omega arith)
past-atom gs h u bare (b ∷ v) s f e k p =
    let (x, y) = both (small b) (all name_byte v && not (is_reserved (b ∷ v))) f in
    let (y₁, y₂) = both (all name_byte v) (not (is_reserved (b ∷ v))) y in
    rw (small-dark b x, x) (plain-goes gs h u (b ∷ []) v s y₁ (unless (is_reserved (b ∷ v)) y₂) e k (suc p))
past-atom gs h u in_quotes n s f e k p = rw append_assoc (quoted-goes gs h u [] n s f k (suc p))

-- `normal`, letter by letter
pub past-kind : (gs : List Group) (h : Here) (n : List ℕ) (q : Form) (s : List ℕ) → Takes gs h [] (behind_kind n) s → Takes gs h [] (kind n) (atom_bytes q (bytes "normal") ++ s)
unfolding rest step spaced
past-kind gs h n bare s k p = k _
past-kind gs h n in_quotes s k p = k _

-- ---- skipped values

-- a plain atom of which w is read, where it ends and from there on; the same for a quoted one and for a number
word-ended : (gs : List Group) (h : Here) (due : List Bracket) (w s : List ℕ) → is_reserved w ≡ false → apart s ≡ true → Takes gs h due after s → Takes gs h due (word w) s
unfolding rest step apart
word-ended gs h due w [] r e k p = k p
word-ended gs h due w (b ∷ bs) r e k p = rw (unless (name_byte b) e, r) (k p)

word-goes : (gs : List Group) (h : Here) (due : List Bracket) (w v s : List ℕ) → all name_byte v ≡ true → is_reserved (w ++ v) ≡ false → apart s ≡ true → Takes gs h due after s
    → Takes gs h due (word w) (v ++ s)
unfolding rest step all
word-goes gs h due w [] s a r e k p = word-ended gs h due w s (rw append-nil at r) e k p
word-goes gs h due w (b ∷ v) s a r e k p =
    let (x, y) = both (name_byte b) (all name_byte v) a in
    let j : (w ++ (b ∷ [])) ++ v ≡ w ++ (b ∷ v) = append_assoc w (b ∷ []) v in
    rw x (word-goes gs h due (w ++ (b ∷ [])) v s y (rw j r) e k (suc p))

other_goes : (gs : List Group) (h : Here) (due : List Bracket) (v s : List ℕ) → all plain_byte v ≡ true → Takes gs h due after s → Takes gs h due other (v ++ (quote ∷ s))
unfolding rest step all
other_goes gs h due [] s a k p = k (suc p)
other_goes gs h due (b ∷ v) s a k p =
    let (x, y) = both (plain_byte b) (all plain_byte v) a in
    let (x₁, x₂) = both (not (eqb b quote)) (not (eqb b 92)) x in
    rw (unless (eqb b quote) x₁, unless (eqb b 92) x₂) (other_goes gs h due v s y k (suc p))

digits-go : (gs : List Group) (h : Here) (due : List Bracket) (v s : List ℕ) → all digit v ≡ true → apart s ≡ true → Takes gs h due after s → Takes gs h due digits (v ++ s)
unfolding rest step all apart
digits-go gs h due [] [] a e k p = k p
digits-go gs h due [] (b ∷ bs) a e k p = rw (digit-name b (unless (name_byte b) e)) (k p)
digits-go gs h due (b ∷ v) s a e k p = let (x, y) = both (digit b) (all digit v) a in rw x (digits-go gs h due v s y e k (suc p))

pub past-value_atom : (gs : List Group) (h : Here) (due : List Bracket) (q : Form) (n s : List ℕ) → well_named q n ≡ true → apart s ≡ true → Takes gs h due after s → Takes gs h due value (atom_bytes q n ++ s)
unfolding rest step spaced begins well_named
past-value_atom gs h due bare [] s f e k p = absurd (let z : ◌≡◌ {A = ℕ} 0 1 = cc in omega arith)
past-value_atom gs h due bare (b ∷ v) s f e k p =
    let (x, y) = both (small b) (all name_byte v && not (is_reserved (b ∷ v))) f in
    let (y₁, y₂) = both (all name_byte v) (not (is_reserved (b ∷ v))) y in
    rw (small-dark b x, x) (word-goes gs h due (b ∷ []) v s y₁ (unless (is_reserved (b ∷ v)) y₂) e k (suc p))
past-value_atom gs h due in_quotes n s f e k p = rw append_assoc (other_goes gs h due n s f k (suc p))

-- a digit is no white space, no letter and no quote
digit_dark : (b : ℕ) → digit b ≡ true → (white b ≡ false) × (small b ≡ false) × (eqb b quote ≡ false)
digit_dark b e =
    let (x, y) = both (leb 48 b) (leb b 57) e in
    let l : 48 ≤ b = leb-true 48 b x in
    let m : b ≤ 57 = leb-true b 57 y in
    (lt-leb b 32 (omega arith), rw (lt-leb 97 b (omega arith)), ne_eqb b quote (λ z. absurd (omega arith)))

pub past-number : (gs : List Group) (h : Here) (due : List Bracket) (ds s : List ℕ) → good_number ds ≡ true → apart s ≡ true → Takes gs h due after s → Takes gs h due value (ds ++ s)
unfolding rest step spaced begins good_number
past-number gs h due [] s f e k p = absurd (let z : ◌≡◌ {A = ℕ} 0 1 = cc in omega arith)
past-number gs h due (b ∷ v) s f e k p =
    let (x, y) = both (digit b) (all digit v) f in
    let (d₁, d₂, d₃) = digit_dark b x in
    rw (d₁, d₂, d₃, x) (digits-go gs h due v s y e k (suc p))

pub past-opener : (gs : List Group) (h : Here) (due : List Bracket) (k : Bracket) (s : List ℕ) → length due < depth_limit → Takes gs h (k ∷ due) first s → Takes gs h due value (ascii (opener k) ∷ s)
unfolding rest step spaced begins opens
past-opener gs h due list s l k p = rw (lt-ltb (length due) depth_limit l) (k (suc p))
past-opener gs h due tuple s l k p = rw (lt-ltb (length due) depth_limit l) (k (suc p))

pub past-closer : (gs : List Group) (h : Here) (due : List Bracket) (k : Bracket) (s : List ℕ) → Takes gs h due after s → Takes gs h (k ∷ due) after (ascii (closer k) ∷ s)
unfolding rest step follows spaced closes
past-closer gs h due list s k p = k (suc p)
past-closer gs h due tuple s k p = k (suc p)

pub first-closer : (gs : List Group) (h : Here) (due : List Bracket) (k : Bracket) (s : List ℕ) → Takes gs h due after s → Takes gs h (k ∷ due) first (ascii (closer k) ∷ s)
unfolding rest step spaced closes
first-closer gs h due list s k p = k (suc p)
first-closer gs h due tuple s k p = k (suc p)

no_value : (h : Here) (due : List Bracket) (k : Bracket) → begins h due (closing k) ≡ dead
unfolding begins
no_value h due list = refl
no_value h due tuple = refl

-- what is taken as a value is taken right behind a bracket too
pub as_first : (gs : List Group) (h : Here) (due : List Bracket) (s : List ℕ) (p : ℕ) → rest h due value p s ≡ taken gs → rest h due first p s ≡ taken gs
unfolding rest step spaced closes begins
as_first gs h due [] p e = e
as_first gs h due (b ∷ bs) p e = go (white b) refl e (as_first gs h due bs (suc p))
  where
    to : Move → Outcome
    to m = onward p (λ g d f. rest g d f (suc p) bs) (λ hs. ends hs (suc p) bs) m

    closed : (due : List Bracket) → to (begins h due b) ≡ taken gs → to (closes h due b (begins h due b)) ≡ taken gs
    closed [] e = e
    closed (k ∷ due) e = test k (eqb b (closing k)) refl e
      where
        test : (k : Bracket) (x : Bool) → eqb b (closing k) ≡ x → to (begins h (k ∷ due) b) ≡ taken gs → to (cond x (goes h due after) (begins h (k ∷ due) b)) ≡ taken gs
        test k true q e =
            let d : begins h (k ∷ due) b ≡ dead = rw (eqb-true b (closing k) q) (no_value h (k ∷ due) k) in
            absurd (let z : ◌≡◌ {A = ℕ} 0 1 = cc in omega arith)
        test k false q e = e

    go : (x : Bool) → white b ≡ x → to (cond x (goes h due value) (begins h due b)) ≡ taken gs → (rest h due value (suc p) bs ≡ taken gs → rest h due first (suc p) bs ≡ taken gs)
        → to (cond x (goes h due first) (closes h due b (begins h due b))) ≡ taken gs
    go true q e ih = ih e
    go false q e ih = closed due e
