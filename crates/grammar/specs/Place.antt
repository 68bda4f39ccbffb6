-- The place of a refusal: how many leading bytes some launch file shares with the refused text. Assumes nothing.
use Rattle.std.specs.Prelude.{◌≡◌, refl, Bool, true, false, cond, List, [], ◌∷◌, ◌++◌, ℕ, zero, suc, ◌+◌, ◌-◌, ◌≤◌, ◌<◌, ltb, length, take}
use Rattle.std.proofs.Common.{arith, eq-eqb, ltb-true, ltb-false}
use Rattle.std.proofs.Math.Seq.{take-nil}
use Rattle.tokens.specs.Bytes.{white, name_byte}
use Rattle.tokens.specs.Reserved.{bytes, same, among, reserved_words, is_reserved}
use Rattle.tokens.specs.Words.{no_zero, unlike, not-reserved}
use Rattle.grammar.specs.File.{Group, Level, file, kernel, Here, comma, open_list, close_list, open_tuple, close_tuple, ascii, Bracket, list, tuple, closing, own_key, Use, key, name, node, Phase, sign, letters, atom, plain, quoted, first_pair, next_pair, first_group, next_group, kind, next_node, value, first, after, word, other, digits, full_stop, Move, goes, stops, dead, spaced, reads, ends_pairs, keyed, named, node_next, opens, begins, closes, separates, follows, step, Outcome, taken, refused, ends, onward, rest, outcome}

-- some launch file begins with the first n bytes of t
unfoldable pub Shares : List ℕ → ℕ → Type 0
Shares t n = (s : List ℕ) × (gs : List Group) × (outcome (take n t ++ s) ≡ taken gs)

-- p is the greatest number of leading bytes of t that some launch file shares
pub record Place (t : List ℕ) (p : ℕ) : Type 0 where
  pub within : p ≤ length t
  pub shared : Shares t p
  pub most : (n : ℕ) → n ≤ length t → Shares t n → n ≤ p

-- ---- a refusal stands within the text, whatever follows its byte

same_place : (p q : ℕ) → refused p ≡ refused q → p ≡ q
same_place p q e = cc

-- where a move leads
abbrev led : ℕ → List ℕ → Move → Outcome
led p bs m = onward p (λ g d f. rest g d f (suc p) bs) (λ gs. ends gs (suc p) bs) m

end_within : (s : List ℕ) (gs : List Group) (p q : ℕ) → ends gs p s ≡ refused q → (p ≤ q) × (q ≤ p + length s)
unfolding ends
end_within [] gs p q e = absurd (let z : ◌≡◌ {A = ℕ} 0 1 = cc in omega arith)
end_within (b ∷ bs) gs p q e = go (white b) e (end_within bs gs (suc p) q)
  where
    go : (x : Bool) → cond x (ends gs (suc p) bs) (refused p) ≡ refused q → (ends gs (suc p) bs ≡ refused q → (suc p ≤ q) × (q ≤ suc p + length bs)) → (p ≤ q) × (q ≤ p + suc (length bs))
    go true e ih = let h = ih e in (omega (arith, h.0), omega (arith, h.1))
    go false e ih = let k = same_place p q e in (omega arith, omega arith)

refused_within : (s : List ℕ) (h : Here) (due : List Bracket) (ph : Phase) (p q : ℕ) → rest h due ph p s ≡ refused q → (p ≤ q) × (q ≤ p + length s)
unfolding rest
refused_within [] h due ph p q e = let k = same_place p q e in (omega arith, omega arith)
refused_within (b ∷ bs) h due ph p q e = go (step h due ph b) e (λ g d f. refused_within bs g d f (suc p) q)
  where
    go : (m : Move) → led p bs m ≡ refused q → ((g : Here) (d : List Bracket) (f : Phase) → rest g d f (suc p) bs ≡ refused q → (suc p ≤ q) × (q ≤ suc p + length bs)) → (p ≤ q) × (q ≤ p + suc (length bs))
    go (goes g d f) e ih = let k = ih g d f e in (omega (arith, k.0), omega (arith, k.1))
    go (stops gs) e ih = let k = end_within bs gs (suc p) q e in (omega (arith, k.0), omega (arith, k.1))
    go dead e ih = let k = same_place p q e in (omega arith, omega arith)

end-for-good : (s : List ℕ) (gs : List Group) (p q n : ℕ) (x : List ℕ) → ends gs p s ≡ refused q → n ≤ length s → q < p + n → ends gs p (take n s ++ x) ≡ refused q
unfolding ends
end-for-good s gs p q zero x e l h = absurd (omega (arith, (end_within s gs p q e).0))
end-for-good [] gs p q (suc n) x e l h = absurd (omega arith)
end-for-good (b ∷ bs) gs p q (suc n) x e l h = go (white b) e (λ g. end-for-good bs gs (suc p) q n x g (omega arith) (omega arith))
  where
    go : (y : Bool) → cond y (ends gs (suc p) bs) (refused p) ≡ refused q → (ends gs (suc p) bs ≡ refused q → ends gs (suc p) (take n bs ++ x) ≡ refused q)
        → cond y (ends gs (suc p) (take n bs ++ x)) (refused p) ≡ refused q
    go true e ih = ih e
    go false e ih = e

refused-for-good : (s : List ℕ) (h : Here) (due : List Bracket) (ph : Phase) (p q n : ℕ) (x : List ℕ) → rest h due ph p s ≡ refused q → n ≤ length s → q < p + n
    → rest h due ph p (take n s ++ x) ≡ refused q
unfolding rest
refused-for-good s h due ph p q zero x e l k = absurd (omega (arith, (refused_within s h due ph p q e).0))
refused-for-good [] h due ph p q (suc n) x e l k = absurd (omega arith)
refused-for-good (b ∷ bs) h due ph p q (suc n) x e l k =
    go (step h due ph b) e (λ g d f r. refused-for-good bs g d f (suc p) q n x r (omega arith) (omega arith)) (λ gs r. end-for-good bs gs (suc p) q n x r (omega arith) (omega arith))
  where
    go : (m : Move) → led p bs m ≡ refused q → ((g : Here) (d : List Bracket) (f : Phase) → rest g d f (suc p) bs ≡ refused q → rest g d f (suc p) (take n bs ++ x) ≡ refused q)
        → ((gs : List Group) → ends gs (suc p) bs ≡ refused q → ends gs (suc p) (take n bs ++ x) ≡ refused q) → led p (take n bs ++ x) m ≡ refused q
    go (goes g d f) e ih ie = ih g d f e
    go (stops gs) e ih ie = ie gs e
    go dead e ih ie = e

-- ---- every text can be finished until it is refused

abbrev Taken : Outcome → Type 0
Taken o = (gs : List Group) × (o ≡ taken gs)

-- what finishes a list of pairs, behind a pair and behind its bracket
tail : Level → Bool → List ℕ
tail file true = bytes "]."
tail file false = bytes ",{kernel,[{s_groups,[]}]}]."
tail kernel true = bytes "]}]."
tail kernel false = bytes ",{s_groups,[]}]}]."

all_pairs : Level → Bool → List ℕ
all_pairs file true = bytes "]."
all_pairs file false = bytes "{kernel,[{s_groups,[]}]}]."
all_pairs kernel true = bytes "]}]."
all_pairs kernel false = bytes "{s_groups,[]}]}]."

-- the list of groups, behind a group, and a group behind its nodes
group_tail : List ℕ
group_tail = bytes "]}]}]."

node_tail : List ℕ
node_tail = bytes "]}]}]}]."

-- an atom's pair, group or nodes, behind it
atom_tail : Here → Use → List ℕ
atom_tail h key = 44 ∷ (97 ∷ (125 ∷ tail h.level h.found))
atom_tail h name = bytes ",normal,[a" ++ node_tail
atom_tail h (node n ns) = node_tail

-- a skipped value, with the brackets that are due and the end of its pair
value_tail : Here → List Bracket → List ℕ
value_tail h [] = 125 ∷ tail h.level h.found
value_tail h (k ∷ due) = closing k ∷ value_tail h due

finish : Here → List Bracket → Phase → List ℕ
finish h due (sign c ph) = ascii c ∷ finish h [] ph
finish h due (letters c cs ph) = c ∷ (cs ++ finish h [] ph)
finish h due (atom u) = 97 ∷ (48 ∷ atom_tail h u)
finish h due (plain u w) = 48 ∷ atom_tail h u
finish h due (quoted u w) = 48 ∷ (39 ∷ atom_tail h u)
finish h due first_pair = all_pairs h.level h.found
finish h due next_pair = tail h.level h.found
finish h due first_group = group_tail
finish h due next_group = group_tail
finish h due (kind n) = bytes "normal,[a" ++ node_tail
finish h due (next_node n ns) = node_tail
finish h due value = 97 ∷ (48 ∷ value_tail h due)
finish h due first = 97 ∷ (48 ∷ value_tail h due)
finish h due after = value_tail h due
finish h due (word w) = 48 ∷ value_tail h due
finish h due other = 39 ∷ value_tail h due
finish h due digits = value_tail h due
finish h due full_stop = 46 ∷ []

tail-law : (lv : Level) (fd : Bool) (gs : List Group) (due : List Bracket) (p : ℕ) → Taken (rest (record { level = lv; found = fd; groups = gs }) due next_pair p (tail lv fd))
unfolding tail rest ends step reads spaced ends_pairs keyed named node_next opens begins closes separates follows name_byte is_reserved among reserved_words
tail-law file true gs due p = (gs, refl)
tail-law file false gs due p = (gs, refl)
tail-law kernel true gs due p = (gs, refl)
tail-law kernel false gs due p = (gs, refl)

pairs-law : (lv : Level) (fd : Bool) (gs : List Group) (due : List Bracket) (p : ℕ) → Taken (rest (record { level = lv; found = fd; groups = gs }) due first_pair p (all_pairs lv fd))
unfolding all_pairs rest ends step reads spaced ends_pairs keyed named node_next opens begins closes separates follows name_byte is_reserved among reserved_words
pairs-law file true gs due p = (gs, refl)
pairs-law file false gs due p = (gs, refl)
pairs-law kernel true gs due p = (gs, refl)
pairs-law kernel false gs due p = (gs, refl)

-- a skipped value
value-law : (h : Here) (due : List Bracket) (p : ℕ) → Taken (rest h due after p (value_tail h due))
unfolding value_tail rest step follows spaced closes separates
value-law h [] p = tail-law h.level h.found h.groups [] (suc p)
value-law h (list ∷ due) p = value-law h due (suc p)
value-law h (tuple ∷ due) p = value-law h due (suc p)

word-law : (h : Here) (due : List Bracket) (w : List ℕ) (p : ℕ) → Taken (rest h due (word w) p (48 ∷ value_tail h due))
unfolding value_tail rest step follows spaced closes separates name_byte
word-law h [] w p = rw (not-reserved w) (tail-law h.level h.found h.groups [] (suc (suc p)))
word-law h (list ∷ due) w p = rw (not-reserved w) (value-law h due (suc (suc p)))
word-law h (tuple ∷ due) w p = rw (not-reserved w) (value-law h due (suc (suc p)))

digits-law : (h : Here) (due : List Bracket) (p : ℕ) → Taken (rest h due digits p (value_tail h due))
unfolding value_tail rest step follows spaced closes separates
digits-law h [] p = tail-law h.level h.found h.groups [] (suc p)
digits-law h (list ∷ due) p = value-law h due (suc p)
digits-law h (tuple ∷ due) p = value-law h due (suc p)

first-law : (h : Here) (due : List Bracket) (p : ℕ) → Taken (rest h due first p (97 ∷ (48 ∷ value_tail h due)))
unfolding rest step spaced closes begins
first-law h [] p = word-law h [] (97 ∷ []) (suc p)
first-law h (list ∷ due) p = word-law h (list ∷ due) (97 ∷ []) (suc p)
first-law h (tuple ∷ due) p = word-law h (tuple ∷ due) (97 ∷ []) (suc p)

-- a key that ends in 0 is no list's own
other_key : (lv : Level) (w : List ℕ) → same (w ++ (48 ∷ [])) (own_key lv) ≡ false
unfolding no_zero
other_key file w = unlike w (bytes "kernel") refl
other_key kernel w = unlike w (bytes "s_groups") refl

-- an atom that ends in 0 and what is behind it
plain-law : (h : Here) (u : Use) (w : List ℕ) (due : List Bracket) (p : ℕ) → Taken (rest h due (plain u w) p (48 ∷ atom_tail h u))
unfolding atom_tail node_tail rest ends step reads spaced ends_pairs keyed named node_next opens begins closes separates follows name_byte is_reserved among reserved_words
plain-law h key w due p = rw (not-reserved w, other_key h.level w) (tail-law h.level h.found h.groups [] (suc (suc (suc (suc p)))))
plain-law h name w due p = rw (not-reserved w) (_, refl)
plain-law h (node n ns) w due p = rw (not-reserved w) (_, refl)

quoted-law : (h : Here) (u : Use) (w : List ℕ) (due : List Bracket) (p : ℕ) → Taken (rest h due (quoted u w) p (48 ∷ (39 ∷ atom_tail h u)))
unfolding atom_tail node_tail rest ends step reads spaced ends_pairs keyed named node_next opens begins closes separates follows name_byte is_reserved among reserved_words
quoted-law h key w due p = rw (other_key h.level w) (tail-law h.level h.found h.groups [] (suc (suc (suc (suc (suc p))))))
quoted-law h name w due p = (_, refl)
quoted-law h (node n ns) w due p = (_, refl)

letters-law : (h : Here) (ph : Phase) (s : List ℕ) → ((q : ℕ) → Taken (rest h [] ph q s)) → (cs : List ℕ) (c : ℕ) (due : List Bracket) (p : ℕ) → Taken (rest h due (letters c cs ph) p (c ∷ (cs ++ s)))
unfolding rest step
letters-law h ph s k [] c due p = rw (eq-eqb c c refl) (k (suc p))
letters-law h ph s k (x ∷ xs) c due p = rw (eq-eqb c c refl) (letters-law h ph s k xs x [] (suc p))

finished : (h : Here) (due : List Bracket) (ph : Phase) (p : ℕ) → Taken (rest h due ph p (finish h due ph))
unfolding finish group_tail node_tail rest ends step reads spaced ends_pairs keyed named node_next opens begins closes separates follows name_byte is_reserved among reserved_words
finished h due (sign comma ph) p = finished h [] ph (suc p)
finished h due (sign open_list ph) p = finished h [] ph (suc p)
finished h due (sign close_list ph) p = finished h [] ph (suc p)
finished h due (sign open_tuple ph) p = finished h [] ph (suc p)
finished h due (sign close_tuple ph) p = finished h [] ph (suc p)
finished h due (letters c cs ph) p = letters-law h ph (finish h [] ph) (λ q. finished h [] ph q) cs c due p
finished h due (atom u) p = plain-law h u (97 ∷ []) [] (suc p)
finished h due (plain u w) p = plain-law h u w due p
finished h due (quoted u w) p = quoted-law h u w due p
finished h due first_pair p = pairs-law h.level h.found h.groups due p
finished h due next_pair p = tail-law h.level h.found h.groups due p
finished h due first_group p = (_, refl)
finished h due next_group p = (_, refl)
finished h due (kind n) p = (_, refl)
finished h due (next_node n ns) p = (_, refl)
finished h due value p = word-law h due (97 ∷ []) (suc p)
finished h due first p = first-law h due p
finished h due after p = value-law h due p
finished h due (word w) p = word-law h due w p
finished h due other p = value-law h due (suc p)
finished h due digits p = digits-law h due p
finished h due full_stop p = (_, refl)

-- up to its place a refused text can be finished
end_finishable : (s : List ℕ) (gs : List Group) (p q : ℕ) → ends gs p s ≡ refused q → (x : List ℕ) × (hs : List Group) × (ends gs p (take (q - p) s ++ x) ≡ taken hs)
unfolding ends
end_finishable [] gs p q e = absurd (let z : ◌≡◌ {A = ℕ} 0 1 = cc in omega arith)
end_finishable (b ∷ bs) gs p q e = go (white b) refl e (end_finishable bs gs (suc p) q)
  where
    go : (y : Bool) → white b ≡ y → cond y (ends gs (suc p) bs) (refused p) ≡ refused q
        → (ends gs (suc p) bs ≡ refused q → (x : List ℕ) × (hs : List Group) × (ends gs (suc p) (take (q - suc p) bs ++ x) ≡ taken hs))
        → (x : List ℕ) × (hs : List Group) × (ends gs p (take (q - p) (b ∷ bs) ++ x) ≡ taken hs)
    go true w e ih =
        let (x, hs, t) = ih e in
        let k : q - p ≡ suc (q - suc p) = omega (arith, (end_within bs gs (suc p) q e).0) in
        (x, hs, rw (k, w) t)
    go false w e ih = let k : q - p ≡ 0 = omega (arith, same_place p q e) in ([], gs, rw k)

finishable : (s : List ℕ) (h : Here) (due : List Bracket) (ph : Phase) (p q : ℕ) → rest h due ph p s ≡ refused q → (x : List ℕ) × (gs : List Group) × (rest h due ph p (take (q - p) s ++ x) ≡ taken gs)
unfolding rest
finishable [] h due ph p q e = let (gs, t) = finished h due ph p in (finish h due ph, gs, rw take-nil t)
finishable (b ∷ bs) h due ph p q e = go (step h due ph b) refl e (λ g d f. finishable bs g d f (suc p) q)
  where
    go : (m : Move) → step h due ph b ≡ m → led p bs m ≡ refused q
        → ((g : Here) (d : List Bracket) (f : Phase) → rest g d f (suc p) bs ≡ refused q → (x : List ℕ) × (gs : List Group) × (rest g d f (suc p) (take (q - suc p) bs ++ x) ≡ taken gs))
        → (x : List ℕ) × (gs : List Group) × (rest h due ph p (take (q - p) (b ∷ bs) ++ x) ≡ taken gs)
    go (goes g d f) m e ih =
        let (x, gs, t) = ih g d f e in
        let k : q - p ≡ suc (q - suc p) = omega (arith, (refused_within bs g d f (suc p) q e).0) in
        (x, gs, rw (k, m) t)
    go (stops gs) m e ih =
        let (x, hs, t) = end_finishable bs gs (suc p) q e in
        let k : q - p ≡ suc (q - suc p) = omega (arith, (end_within bs gs (suc p) q e).0) in
        (x, hs, rw (k, m) t)
    go dead m e ih =
        let (gs, t) = finished h due ph p in
        let k : q - p ≡ 0 = omega (arith, same_place p q e) in
        (finish h due ph, gs, rw k t)

-- ---- the theorem

pub refused-place : (t : List ℕ) (p : ℕ) → outcome t ≡ refused p → Place t p
unfolding Shares
refused-place t p e = record { within = omega (arith, (refused_within t _ _ _ 0 p e).1); shared = begun; most = λ n l x. go n l x (ltb p n) refl }
  where
    begun : (s : List ℕ) × (gs : List Group) × (outcome (take p t ++ s) ≡ taken gs)
    begun = let k : p - 0 ≡ p = omega arith in rw k at (finishable t _ _ _ 0 p e)

    go : (n : ℕ) → n ≤ length t → (s : List ℕ) × (gs : List Group) × (outcome (take n t ++ s) ≡ taken gs) → (x : Bool) → ltb p n ≡ x → n ≤ p
    go n l (s, gs, u) true h =
        let r : outcome (take n t ++ s) ≡ refused p = refused-for-good t _ _ _ 0 p n s e l (omega (arith, ltb-true p n h)) in
        absurd (let z : ◌≡◌ {A = ℕ} 0 1 = cc in omega arith)
    go n l (s, gs, u) false h = ltb-false p n h
