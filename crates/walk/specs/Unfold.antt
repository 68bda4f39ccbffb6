-- Each thing that is read goes on and stays within the text, so that a step for each byte is enough: the walks, one step unfolded. Assumes nothing.
use Rattle.std.specs.Prelude.{Result, Ok, Err, ◌≡◌, refl, Bool, false, cond, ℕ, zero, suc, ◌+◌, ◌≤◌, ◌<◌, eqb, ltb, length, get_or}
use Rattle.std.proofs.Common.{sym, ap, ◌∙◌, arith, ltb-true}
use Rattle.std.proofs.Math.Bool.{true}
use mathlib.Core.List.{List, [], ◌∷◌}
use Rattle.tokens.specs.Bytes.{quote, small, digit}
use Rattle.tokens.specs.Reserved.{bytes, is_reserved}
use Rattle.tokens.specs.Tokens.{behind, plain_to, plain_at, quoted_to, quoted_at, token_at, atom_from}
use Rattle.tokens.specs.Within.{run-within}
use Rattle.tokens.specs.declared.Class.TheVariants.{Name, Digit, Quoted}
use Rattle.tokens.specs.declared.Atom.{Atom}
use Rattle.tokens.specs.declared.Token.{Token}
use Rattle.grammar.specs.File.{Group, ascii, comma, open_list, close_list, open_tuple, close_tuple}
use Rattle.walk.specs.Walk.{part, dark, sign_from, sign_at, then_sign, atom_of, atom_at, letters_at, normal_from, normal_at, then_normal, named_to, headed, head_at, last_to, node_from, noded, node_at, opened_to, bracket_at, entry_from, entry_at}
use Rattle.walk.specs.Groups.{nodes_by, nodes_in, nodes, pass_by, pass_nodes_in, pass_nodes, group_by, head_by, entry_by, groups_in, groups_from, pass_head, pass_group, pass_entry, pass_groups_in, pass_groups_from, pass_groups}
use Rattle.walk.specs.declared.Node.{Node}
use Rattle.walk.specs.declared.Entry.{Entry}

-- ---- what is read lies ahead, and within the text

-- behind a place, and within the text
abbrev pub IsAhead : List ℕ → ℕ → ℕ → Type 0
IsAhead t at n = (at < n) × (n ≤ length t)

-- a part of the text
abbrev pub IsInside : List ℕ → ℕ → ℕ → Type 0
IsInside t s e = (s ≤ e) × (e ≤ length t)

-- what is read lies behind a place; where nothing is read, nothing is said
abbrev pub StepOn : List ℕ → ℕ → Result ℕ ℕ → Type 0
StepOn t at (Ok n) = IsAhead t at n
StepOn t at (Err p) = Unit {0}

abbrev pub TokenOn : List ℕ → ℕ → Result Token ℕ → Type 0
TokenOn t at (Ok (Token.Atom a)) = IsAhead t at a.past × IsInside t a.from a.to
TokenOn t at (Ok (Token.Number n)) = Unit {0}
TokenOn t at (Err p) = Unit {0}

abbrev pub AtomOn : List ℕ → ℕ → Result Atom ℕ → Type 0
AtomOn t at (Ok a) = IsAhead t at a.past × IsInside t a.from a.to
AtomOn t at (Err p) = Unit {0}

abbrev pub NodeOn : List ℕ → ℕ → Result Node ℕ → Type 0
NodeOn t at (Ok (Node.More a)) = IsAhead t at a.past × IsInside t a.from a.to
NodeOn t at (Ok (Node.Last a)) = IsAhead t at a.past × IsInside t a.from a.to
NodeOn t at (Err p) = Unit {0}

abbrev pub EntryOn : List ℕ → ℕ → Result Entry ℕ → Type 0
EntryOn t at (Ok (Entry.Group n)) = IsAhead t at n
EntryOn t at (Ok (Entry.Closed n)) = IsAhead t at n
EntryOn t at (Err p) = Unit {0}

-- behind a later place, so behind an earlier one
step-sooner : (t : List ℕ) (at i : ℕ) → at ≤ i → (r : Result ℕ ℕ) → StepOn t i r → StepOn t at r
step-sooner t at i l (Ok n) h = (omega arith, h.1)
step-sooner t at i l (Err p) h = tt

-- a sign
sign_from-on : (t : List ℕ) (i c : ℕ) → StepOn t i (sign_from t i c)
unfolding sign_from
sign_from-on t i c = go (ltb i (length t)) refl (eqb (get_or t i 0) c)
  where
    go : (x : Bool) → ltb i (length t) ≡ x → (y : Bool) → StepOn t i (cond x (cond y (Ok (i + 1)) (Err i)) (Err i))
    go true e true = let l = ltb-true i (length t) e in (omega arith, omega arith)
    go true e false = tt
    go false e y = tt

pub sign-on : (t : List ℕ) (at c : ℕ) → StepOn t at (sign_at t at c)
unfolding sign_at
sign-on t at c = step-sooner t at (dark t at) (omega arith) (sign_from t (dark t at) c) (sign_from-on t (dark t at) c)

pub then_sign-on : (t : List ℕ) (at c : ℕ) (r : Result ℕ ℕ) → StepOn t at r → StepOn t at (then_sign t r c)
then_sign-on t at c (Ok n) h = step-sooner t at n (omega arith) (sign_at t n c) (sign-on t n c)
then_sign-on t at c (Err p) h = tt

-- an atom
plain-on : (t : List ℕ) (at : ℕ) → at < length t → TokenOn t at (plain_at t at)
unfolding plain_at plain_to
plain-on t at l = go (is_reserved (part t at (behind Name t (at + 1)))) (run-within Name t (at + 1) (omega arith))
  where
    go : (x : Bool) → behind Name t (at + 1) ≤ length t
        → TokenOn t at (cond x (Err (behind Name t (at + 1))) (Ok (Token.Atom (atom_from at (behind Name t (at + 1)) (behind Name t (at + 1))))))
    go true h = tt
    go false h = ((omega arith, h), (omega arith, h))

quoted-on : (t : List ℕ) (at : ℕ) → TokenOn t at (quoted_at t (at + 1))
unfolding quoted_at quoted_to
quoted-on t at = go (behind Quoted t (at + 1)) (omega arith) (ltb (behind Quoted t (at + 1)) (length t)) refl (eqb (get_or t (behind Quoted t (at + 1)) 0) quote)
  where
    go : (e : ℕ) → at + 1 ≤ e → (x : Bool) → ltb e (length t) ≡ x → (y : Bool)
        → TokenOn t at (cond x (cond y (Ok (Token.Atom (atom_from (at + 1) e (e + 1)))) (Err e)) (Err e))
    go e h true g true = let l = ltb-true e (length t) g in ((omega arith, omega arith), (h, omega arith))
    go e h true g false = tt
    go e h false g y = tt

token_at-on : (t : List ℕ) (at : ℕ) → TokenOn t at (token_at t at)
unfolding token_at
token_at-on t at = go (ltb at (length t)) refl (small (get_or t at 0)) (eqb (get_or t at 0) quote) (digit (get_or t at 0))
  where
    go : (w : Bool) → ltb at (length t) ≡ w → (x y z : Bool)
        → TokenOn t at (cond w (cond x (plain_at t at) (cond y (quoted_at t (at + 1)) (cond z (Ok (Token.Number (behind Digit t (at + 1)))) (Err at)))) (Err at))
    go true e true y z = plain-on t at (ltb-true at (length t) e)
    go true e false true z = quoted-on t at
    go true e false false true = tt
    go true e false false false = tt
    go false e x y z = tt

pub atom_at-on : (t : List ℕ) (at : ℕ) → AtomOn t at (atom_at t at)
unfolding atom_at
atom_at-on t at = go (token_at t (dark t at)) (token_at-on t (dark t at))
  where
    go : (k : Result Token ℕ) → TokenOn t (dark t at) k → AtomOn t at (atom_of (dark t at) k)
    go (Ok (Token.Atom a)) h = ((omega arith, h.0.1), h.1)
    go (Ok (Token.Number n)) h = tt
    go (Err p) h = tt

pub atom-ahead : (t : List ℕ) (at : ℕ) (a : Atom) → atom_at t at ≡ Ok a → IsAhead t at a.past × IsInside t a.from a.to
atom-ahead t at a g = rw g at (atom_at-on t at)

-- `normal`
letter-on : (t : List ℕ) (at c : ℕ) (r : Result ℕ ℕ) → (at < length t → StepOn t at r) → StepOn t at (cond (ltb at (length t)) (cond (eqb (get_or t at 0) c) r (Err at)) (Err at))
letter-on t at c r h = go (ltb at (length t)) refl (eqb (get_or t at 0) c)
  where
    go : (x : Bool) → ltb at (length t) ≡ x → (y : Bool) → StepOn t at (cond x (cond y r (Err at)) (Err at))
    go true e true = h (ltb-true at (length t) e)
    go true e false = tt
    go false e y = tt

letters-on : (t : List ℕ) (at c : ℕ) (cs : List ℕ) → StepOn t at (letters_at t at (c ∷ cs))
unfolding letters_at
letters-on t at c [] = letter-on t at c (Ok (at + 1)) (λ l. (omega arith, omega arith))
letters-on t at c (d ∷ ds) = letter-on t at c (letters_at t (at + 1) (d ∷ ds)) (λ l. step-sooner t at (at + 1) (omega arith) (letters_at t (at + 1) (d ∷ ds)) (letters-on t (at + 1) d ds))

normal_from-on : (t : List ℕ) (i : ℕ) → StepOn t i (normal_from t i)
unfolding normal_from
normal_from-on t i = go (ltb i (length t)) (eqb (get_or t i 0) quote)
  where
    go : (x y : Bool) → StepOn t i (cond x (cond y (letters_at t (i + 1) (bytes "normal'")) (letters_at t i (bytes "normal"))) (Err i))
    go true true = step-sooner t i (i + 1) (omega arith) (letters_at t (i + 1) (bytes "normal'")) (letters-on t (i + 1) 110 (bytes "ormal'"))
    go true false = letters-on t i 110 (bytes "ormal")
    go false y = tt

then_normal-on : (t : List ℕ) (at : ℕ) (r : Result ℕ ℕ) → StepOn t at r → StepOn t at (then_normal t r)
unfolding normal_at
then_normal-on t at (Ok n) h = step-sooner t at (dark t n) (omega arith) (normal_from t (dark t n)) (normal_from-on t (dark t n))
then_normal-on t at (Err p) h = tt

-- the front of a group
named_to-on : (t : List ℕ) (at : ℕ) (a : Atom) (r : Result ℕ ℕ) → IsInside t a.from a.to → StepOn t at r → AtomOn t at (named_to a r)
named_to-on t at a (Ok m) i h = (h, i)
named_to-on t at a (Err p) i h = tt

pub head-on : (t : List ℕ) (at : ℕ) → AtomOn t at (head_at t at)
unfolding head_at
head-on t at = go (atom_at t at) (atom_at-on t at)
  where
    go : (a : Result Atom ℕ) → AtomOn t at a → AtomOn t at (headed t a)
    go (Err p) h = tt
    go (Ok a) h =
        let sign = step-sooner t at a.past (omega arith) (sign_at t a.past (ascii comma)) (sign-on t a.past (ascii comma)) in
        let normal = then_normal-on t at (sign_at t a.past (ascii comma)) sign in
        let kind = then_sign-on t at (ascii comma) (then_normal t (sign_at t a.past (ascii comma))) normal in
        let bracket = then_sign-on t at (ascii open_list) (then_sign t (then_normal t (sign_at t a.past (ascii comma))) (ascii comma)) kind in
        named_to-on t at a (then_sign t (then_sign t (then_normal t (sign_at t a.past (ascii comma))) (ascii comma)) (ascii open_list)) h.1 bracket

-- a node
last_to-on : (t : List ℕ) (at : ℕ) (a : Atom) (r : Result ℕ ℕ) → IsInside t a.from a.to → StepOn t at r → NodeOn t at (last_to a r)
last_to-on t at a (Ok m) i h = (h, i)
last_to-on t at a (Err p) i h = tt

node_from-on : (t : List ℕ) (at : ℕ) (a : Atom) (i : ℕ) → at ≤ i → IsInside t a.from a.to → NodeOn t at (node_from t a i)
unfolding node_from
node_from-on t at a i l h = go (ltb i (length t)) refl (eqb (get_or t i 0) (ascii comma))
  where
    closed : Result ℕ ℕ
    closed = then_sign t (sign_at t i (ascii close_list)) (ascii close_tuple)

    go : (x : Bool) → ltb i (length t) ≡ x → (y : Bool) → NodeOn t at (cond x (cond y (Ok (Node.More (record a { past = i + 1 }))) (last_to a closed)) (Err i))
    go true g true = let k = ltb-true i (length t) g in ((omega arith, omega arith), h)
    go true g false =
        last_to-on t at a closed h (step-sooner t at i l closed (then_sign-on t i (ascii close_tuple) (sign_at t i (ascii close_list)) (sign-on t i (ascii close_list))))
    go false g y = tt

pub node_at-on : (t : List ℕ) (at : ℕ) → NodeOn t at (node_at t at)
unfolding node_at
node_at-on t at = go (atom_at t at) (atom_at-on t at)
  where
    go : (a : Result Atom ℕ) → AtomOn t at a → NodeOn t at (noded t a)
    go (Ok a) h = node_from-on t at a (dark t a.past) (omega arith) h.1
    go (Err p) h = tt

pub node-ahead : (t : List ℕ) (at : ℕ) (a : Atom) → node_at t at ≡ Ok (Node.More a) → IsAhead t at a.past × IsInside t a.from a.to
node-ahead t at a g = rw g at (node_at-on t at)

pub last-ahead : (t : List ℕ) (at : ℕ) (a : Atom) → node_at t at ≡ Ok (Node.Last a) → IsAhead t at a.past × IsInside t a.from a.to
last-ahead t at a g = rw g at (node_at-on t at)

pub head-ahead : (t : List ℕ) (at : ℕ) (a : Atom) → head_at t at ≡ Ok a → IsAhead t at a.past × IsInside t a.from a.to
head-ahead t at a g = rw g at (head-on t at)

-- an entry of the list of groups
bracket-on : (t : List ℕ) (i : ℕ) (begun : Bool) → StepOn t i (bracket_at t i begun)
unfolding bracket_at
bracket-on t i true = then_sign-on t i (ascii open_tuple) (sign_at t i (ascii comma)) (sign-on t i (ascii comma))
bracket-on t i false = sign-on t i (ascii open_tuple)

opened_to-on : (t : List ℕ) (at i : ℕ) → at ≤ i → (r : Result ℕ ℕ) → StepOn t i r → EntryOn t at (opened_to r)
opened_to-on t at i l (Ok n) h = (omega arith, h.1)
opened_to-on t at i l (Err p) h = tt

entry_from-on : (t : List ℕ) (at i : ℕ) (begun : Bool) → at ≤ i → EntryOn t at (entry_from t i begun)
unfolding entry_from
entry_from-on t at i begun l = go (ltb i (length t)) refl (eqb (get_or t i 0) (ascii close_list))
  where
    go : (x : Bool) → ltb i (length t) ≡ x → (y : Bool) → EntryOn t at (cond x (cond y (Ok (Entry.Closed (i + 1))) (opened_to (bracket_at t i begun))) (Err i))
    go true e true = let k = ltb-true i (length t) e in (omega arith, omega arith)
    go true e false = opened_to-on t at i l (bracket_at t i begun) (bracket-on t i begun)
    go false e y = tt

pub entry_at-on : (t : List ℕ) (at : ℕ) (begun : Bool) → EntryOn t at (entry_at t at begun)
unfolding entry_at
entry_at-on t at begun = entry_from-on t at (dark t at) begun (omega arith)

pub group-ahead : (t : List ℕ) (at : ℕ) (begun : Bool) (n : ℕ) → entry_at t at begun ≡ Ok (Entry.Group n) → IsAhead t at n
group-ahead t at begun n e = rw e at (entry_at-on t at begun)

pub closed-ahead : (t : List ℕ) (at : ℕ) (begun : Bool) (n : ℕ) → entry_at t at begun ≡ Ok (Entry.Closed n) → IsAhead t at n
closed-ahead t at begun n e = rw e at (entry_at-on t at begun)

-- ---- a step for each byte is enough

-- a walk of so many steps at most, whose step hands on to later places within the text
module _ {A : Type 0} (size : ℕ) (by : (ℕ → A) → ℕ → Bool → A) (walk-in : ℕ → ℕ → Bool → A)
    (steps : (f at : ℕ) (b : Bool) → walk-in (suc f) at b ≡ by (λ n. walk-in f n true) at b)
    (alike : (k l : ℕ → A) (at : ℕ) (b : Bool) → ((n : ℕ) → at < n → n ≤ size → k n ≡ l n) → by k at b ≡ by l at b) where
  enough : (f g at : ℕ) (b : Bool) → size ≤ f + at → size ≤ g + at → walk-in (suc f) at b ≡ walk-in (suc g) at b
  enough zero g at b p q = steps zero at b ∙ alike (λ n. walk-in zero n true) (λ n. walk-in g n true) at b (λ n l m. absurd (omega arith)) ∙ sym (steps g at b)
  enough (suc f) zero at b p q = steps (suc f) at b ∙ alike (λ n. walk-in (suc f) n true) (λ n. walk-in zero n true) at b (λ n l m. absurd (omega arith)) ∙ sym (steps zero at b)
  enough (suc f) (suc g) at b p q =
      steps (suc f) at b
      ∙ alike (λ n. walk-in (suc f) n true) (λ n. walk-in (suc g) n true) at b (λ n l m. enough f g n true (omega arith) (omega arith))
      ∙ sym (steps (suc g) at b)

  one_more : (f n : ℕ) → size < f + n → n ≤ size → walk-in f n true ≡ walk-in (suc size) n true
  one_more zero n l m = absurd (omega arith)
  one_more (suc f) n l m = enough f size n true (omega arith) (omega arith)

  unfolded : (at : ℕ) (b : Bool) → walk-in (suc size) at b ≡ by (λ n. walk-in (suc size) n true) at b
  unfolded at b = steps size at b ∙ alike (λ n. walk-in size n true) (λ n. walk-in (suc size) n true) at b (λ n l m. one_more size n (omega arith) m)

-- the nodes of a group
nodes-alike : (t : List ℕ) (k l : ℕ → List (List ℕ)) (at : ℕ) → ((n : ℕ) → at < n → n ≤ length t → k n ≡ l n) → nodes_by t k (node_at t at) ≡ nodes_by t l (node_at t at)
nodes-alike t k l at h = go (node_at t at) (node_at-on t at)
  where
    go : (x : Result Node ℕ) → NodeOn t at x → nodes_by t k x ≡ nodes_by t l x
    go (Ok (Node.More b)) a = ap (λ r. part t b.from b.to ∷ r) (h b.past a.0.0 a.0.1)
    go (Ok (Node.Last b)) a = refl
    go (Err p) a = refl

pub nodes-unfold : (t : List ℕ) (at : ℕ) → nodes t at ≡ nodes_by t (nodes t) (node_at t at)
unfolding nodes nodes_in
nodes-unfold t at = unfolded (length t) (λ k i b. nodes_by t k (node_at t i)) (λ f i b. nodes_in f t i) (λ f i b. refl) (λ k l i b h. nodes-alike t k l i h) at true

-- the place behind them
pass-alike : (t : List ℕ) (k l : ℕ → Result ℕ ℕ) (at : ℕ) → ((n : ℕ) → at < n → n ≤ length t → k n ≡ l n) → pass_by k (node_at t at) ≡ pass_by l (node_at t at)
pass-alike t k l at h = go (node_at t at) (node_at-on t at)
  where
    go : (x : Result Node ℕ) → NodeOn t at x → pass_by k x ≡ pass_by l x
    go (Ok (Node.More b)) a = h b.past a.0.0 a.0.1
    go (Ok (Node.Last b)) a = refl
    go (Err p) a = refl

pub pass_nodes-unfold : (t : List ℕ) (at : ℕ) → pass_nodes t at ≡ pass_by (pass_nodes t) (node_at t at)
unfolding pass_nodes pass_nodes_in
pass_nodes-unfold t at = unfolded (length t) (λ k i b. pass_by k (node_at t i)) (λ f i b. pass_nodes_in f t i) (λ f i b. refl) (λ k l i b h. pass-alike t k l i h) at true

pass-in-on : (t : List ℕ) (f at : ℕ) → StepOn t at (pass_nodes_in f t at)
unfolding pass_nodes_in
pass-in-on t zero at = tt
pass-in-on t (suc f) at = go (node_at t at) (node_at-on t at) (λ n. pass-in-on t f n)
  where
    go : (x : Result Node ℕ) → NodeOn t at x → ((n : ℕ) → StepOn t n (pass_nodes_in f t n)) → StepOn t at (pass_by (pass_nodes_in f t) x)
    go (Ok (Node.More b)) a ih = step-sooner t at b.past (omega arith) (pass_nodes_in f t b.past) (ih b.past)
    go (Ok (Node.Last b)) a ih = a.0
    go (Err p) a ih = tt

pub pass_nodes-on : (t : List ℕ) (at : ℕ) → StepOn t at (pass_nodes t at)
unfolding pass_nodes
pass_nodes-on t at = pass-in-on t (suc (length t)) at

pub nodes-ahead : (t : List ℕ) (at n : ℕ) → pass_nodes t at ≡ Ok n → IsAhead t at n
nodes-ahead t at n e = rw e at (pass_nodes-on t at)

-- the groups
module _ (t : List ℕ) (k l : ℕ → List Group) (at : ℕ) (h : (n : ℕ) → at < n → n ≤ length t → k n ≡ l n) where
  group-alike : (b : Atom) → at < b.past → (r : Result ℕ ℕ) → StepOn t b.past r → group_by t b k r ≡ group_by t b l r
  group-alike b i (Ok n) a = ap (λ r. record { name = part t b.from b.to; nodes = nodes t b.past } ∷ r) (h n (omega arith) a.1)
  group-alike b i (Err p) a = refl

  head-alike : (n : ℕ) → at < n → (x : Result Atom ℕ) → AtomOn t n x → head_by t k x ≡ head_by t l x
  head-alike n i (Ok b) a = group-alike b (omega arith) (pass_nodes t b.past) (pass_nodes-on t b.past)
  head-alike n i (Err p) a = refl

  entry-alike : (x : Result Entry ℕ) → EntryOn t at x → entry_by t k x ≡ entry_by t l x
  entry-alike (Ok (Entry.Group n)) a = head-alike n a.0 (head_at t n) (head-on t n)
  entry-alike (Ok (Entry.Closed n)) a = refl
  entry-alike (Err p) a = refl

pub groups-unfold : (t : List ℕ) (at : ℕ) (begun : Bool) → groups_from t at begun ≡ entry_by t (λ n. groups_from t n true) (entry_at t at begun)
unfolding groups_from groups_in
groups-unfold t at begun =
    unfolded (length t) (λ k i b. entry_by t k (entry_at t i b)) (λ f i b. groups_in f t i b) (λ f i b. refl)
    (λ k l i b h. entry-alike t k l i h (entry_at t i b) (entry_at-on t i b)) at begun

-- the place behind them
module _ (t : List ℕ) (k l : ℕ → Result ℕ ℕ) (at : ℕ) (h : (n : ℕ) → at < n → n ≤ length t → k n ≡ l n) where
  pass_head-alike : (m : ℕ) → at < m → (r : Result ℕ ℕ) → StepOn t m r → pass_head t k r ≡ pass_head t l r
  pass_head-alike m i (Ok n) a = h n (omega arith) a.1
  pass_head-alike m i (Err p) a = refl

  pass_group-alike : (n : ℕ) → at < n → (x : Result Atom ℕ) → AtomOn t n x → pass_group t k x ≡ pass_group t l x
  pass_group-alike n i (Ok b) a = pass_head-alike b.past (omega arith) (pass_nodes t b.past) (pass_nodes-on t b.past)
  pass_group-alike n i (Err p) a = refl

  pass_entry-alike : (x : Result Entry ℕ) → EntryOn t at x → pass_entry t k x ≡ pass_entry t l x
  pass_entry-alike (Ok (Entry.Group n)) a = pass_group-alike n a.0 (head_at t n) (head-on t n)
  pass_entry-alike (Ok (Entry.Closed n)) a = refl
  pass_entry-alike (Err p) a = refl

pub pass_groups-unfold : (t : List ℕ) (at : ℕ) (begun : Bool) → pass_groups_from t at begun ≡ pass_entry t (λ n. pass_groups_from t n true) (entry_at t at begun)
unfolding pass_groups_from pass_groups_in
pass_groups-unfold t at begun =
    unfolded (length t) (λ k i b. pass_entry t k (entry_at t i b)) (λ f i b. pass_groups_in f t i b) (λ f i b. refl)
    (λ k l i b h. pass_entry-alike t k l i h (entry_at t i b) (entry_at-on t i b)) at begun

module _ (t : List ℕ) (at : ℕ) (later : ℕ → Result ℕ ℕ) (on : (n : ℕ) → StepOn t n (later n)) where
  pass_head-on : (m : ℕ) → at < m → (r : Result ℕ ℕ) → StepOn t m r → StepOn t at (pass_head t later r)
  pass_head-on m i (Ok n) a = step-sooner t at n (omega arith) (later n) (on n)
  pass_head-on m i (Err p) a = tt

  pass_group-on : (n : ℕ) → at < n → (x : Result Atom ℕ) → AtomOn t n x → StepOn t at (pass_group t later x)
  pass_group-on n i (Ok b) a = pass_head-on b.past (omega arith) (pass_nodes t b.past) (pass_nodes-on t b.past)
  pass_group-on n i (Err p) a = tt

  pass_entry-on : (x : Result Entry ℕ) → EntryOn t at x → StepOn t at (pass_entry t later x)
  pass_entry-on (Ok (Entry.Group n)) a = pass_group-on n a.0 (head_at t n) (head-on t n)
  pass_entry-on (Ok (Entry.Closed n)) a = a
  pass_entry-on (Err p) a = tt

groups_in-on : (t : List ℕ) (f at : ℕ) (begun : Bool) → StepOn t at (pass_groups_in f t at begun)
unfolding pass_groups_in
groups_in-on t zero at begun = tt
groups_in-on t (suc f) at begun = pass_entry-on t at (λ n. pass_groups_in f t n true) (λ n. groups_in-on t f n true) (entry_at t at begun) (entry_at-on t at begun)

pub pass_groups-on : (t : List ℕ) (at : ℕ) → StepOn t at (pass_groups t at)
unfolding pass_groups_from
pass_groups-on t at = groups_in-on t (suc (length t)) at false
