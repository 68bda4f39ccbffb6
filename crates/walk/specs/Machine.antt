-- The groups of a launch file: the walk reads what the machine of `grammar` reads, and stops where it refuses. Assumes nothing.
use Rattle.std.specs.Prelude.{Result, Ok, Err, ◌≡◌, Bool, ℕ, zero, suc, ◌+◌, ◌≤◌, ◌<◌, length, get_or}
use Rattle.std.proofs.Math.Path.{refl}
use Rattle.std.proofs.Common.{sym, ap, ◌∙◌, arith, ltb-true, ltb-false, eqb-true}
use Rattle.std.proofs.Math.Bool.{true, false, cond}
use mathlib.Core.List.{List, [], ◌∷◌, ◌++◌, append_assoc, append-nil}
use Rattle.std.proofs.Math.Dec.{eqb, ltb}
use Rattle.tokens.specs.Bytes.{quote}
use Rattle.tokens.specs.Reserved.{bytes}
use Rattle.grammar.specs.File.{Group, Here, kernel, comma, open_list, close_list, open_tuple, close_tuple, ascii, Use, name, node, Phase, sign, letters, atom, first_group, next_group, next_pair, kind, next_node, Move, goes, dead, spaced, reads, with_group, ended_groups, behind_kind, named, node_next, step, Outcome, refused}
use Rattle.grammar.specs.Steps.{from, from_step, from-dead, from_end}
use Rattle.walk.specs.Walk.{part, dark, sign_from, sign_at, then_sign, atom_at, letters_at, normal_from, normal_at, then_normal, named_to, headed, head_at, last_to, node_from, noded, node_at, opened_to, bracket_at, entry_from, entry_at}
use Rattle.walk.specs.Groups.{nodes_by, nodes, pass_by, pass_nodes, group_by, head_by, entry_by, groups_from, groups, pass_head, pass_group, pass_entry, pass_groups_from, pass_groups}
use Rattle.walk.specs.Unfold.{NodeOn, node_at-on, EntryOn, entry_at-on, AtomOn, head-on, StepOn, pass_nodes-on, nodes-unfold, pass_nodes-unfold, groups-unfold, pass_groups-unfold}
use Rattle.walk.specs.Atoms.{moved, dark-again, behind-white, passed, sign_read, then_sign-read, atom_led, atom-read}
use Rattle.tokens.specs.declared.Atom.{Atom}
use Rattle.walk.specs.declared.Node.{Node}
use Rattle.walk.specs.declared.Entry.{Entry}

-- a byte is not two signs
not-both : (b m n : ℕ) → eqb b m ≡ true → eqb b n ≡ true → m ≡ n
not-both b m n p q = sym (eqb-true b m p) ∙ eqb-true b n q

-- ---- `normal`

-- one letter, and what is read behind it
letter-read : (t : List ℕ) (at c : ℕ) (h : Here) (ph f : Phase) → ((b : ℕ) → step h [] ph b ≡ cond (eqb b c) (goes h [] f) dead) → (g : Phase) (r : Result ℕ ℕ)
    → from h [] f t (at + 1) ≡ passed h g t r → from h [] ph t at ≡ passed h g t (cond (ltb at (length t)) (cond (eqb (get_or t at 0) c) r (Err at)) (Err at))
letter-read t at c h ph f s g r e = go (ltb at (length t)) refl (eqb (get_or t at 0) c) refl
  where
    go : (x : Bool) → ltb at (length t) ≡ x → (y : Bool) → eqb (get_or t at 0) c ≡ y → from h [] ph t at ≡ passed h g t (cond x (cond y r (Err at)) (Err at))
    go true l true m = from_step t h [] ph at h [] f (ltb-true at (length t) l) (s (get_or t at 0) ∙ rw m) ∙ e
    go true l false m = from-dead t h [] ph at (ltb-true at (length t) l) (s (get_or t at 0) ∙ rw m)
    go false l y m = from_end t h [] ph at (ltb-false at (length t) l)

letters-read : (t : List ℕ) (at c : ℕ) (cs : List ℕ) (h : Here) (ph : Phase) → from h [] (letters c cs ph) t at ≡ passed h ph t (letters_at t at (c ∷ cs))
unfolding letters_at step
letters-read t at c [] h ph = letter-read t at c h (letters c [] ph) ph (λ b. refl) ph (Ok (at + 1)) refl
letters-read t at c (d ∷ ds) h ph = letter-read t at c h (letters c (d ∷ ds) ph) (letters d ds ph) (λ b. refl) ph (letters_at t (at + 1) (d ∷ ds)) (letters-read t (at + 1) d ds h ph)

-- the first byte says whether it is quoted
abbrev kind_move : Here → Phase → ℕ → Move
kind_move h f b = cond (eqb b 110) (goes h [] (letters 111 (bytes "rmal") f)) (cond (eqb b quote) (goes h [] (letters 110 (bytes "ormal'") f)) dead)

kind-moves : (t : List ℕ) (i : ℕ) (h : Here) (f : Phase) → cond (ltb i (length t)) (moved t i (kind_move h f (get_or t i 0))) (refused i) ≡ passed h f t (normal_from t i)
unfolding normal_from letters_at
kind-moves t i h f = go (ltb i (length t)) refl (eqb (get_or t i 0) 110) refl (eqb (get_or t i 0) quote) refl
  where
    go : (x : Bool) → ltb i (length t) ≡ x → (y : Bool) → eqb (get_or t i 0) 110 ≡ y → (z : Bool) → eqb (get_or t i 0) quote ≡ z
        → cond x (moved t i (cond y (goes h [] (letters 111 (bytes "rmal") f)) (cond z (goes h [] (letters 110 (bytes "ormal'") f)) dead))) (refused i)
        ≡ passed h f t (cond x (cond z (letters_at t (i + 1) (bytes "normal'")) (letters_at t i (bytes "normal"))) (Err i))
    go true l true m true n = absurd (omega (arith, not-both (get_or t i 0) 110 quote m n))
    go true l true m false n = rw (l, m) (letters-read t (i + 1) 111 (bytes "rmal") h f)
    go true l false m true n = letters-read t (i + 1) 110 (bytes "ormal'") h f
    go true l false m false n = rw (l, m)
    go false l y m z n = refl

kind-read : (t : List ℕ) (at : ℕ) (h : Here) (w : List ℕ) → from h [] (kind w) t at ≡ passed h (behind_kind w) t (normal_at t at)
unfolding step normal_at
kind-read t at h w = behind-white h (kind w) (kind_move h (behind_kind w)) (λ b. refl) t at ∙ kind-moves t (dark t at) h (behind_kind w)

then-kind-read : (t : List ℕ) (r : Result ℕ ℕ) (h : Here) (w : List ℕ) → passed h (kind w) t r ≡ passed h (behind_kind w) t (then_normal t r)
then-kind-read t (Ok n) h w = kind-read t n h w
then-kind-read t (Err p) h w = refl

-- ---- the front of a group

-- the rest of a text behind it, or its refusal
abbrev pub head_led : Here → List ℕ → Result Atom ℕ → Outcome
head_led h t (Ok a) = from h [] (atom (node (part t a.from a.to) [])) t a.past
head_led h t (Err p) = refused p

pub head_read : (t : List ℕ) (at : ℕ) (h : Here) → from h [] (atom name) t at ≡ head_led h t (head_at t at)
unfolding head_at named
head_read t at h = atom-read t at h name ∙ go (atom_at t at)
  where
    to-led : (a : Atom) (r : Result ℕ ℕ) → passed h (atom (node (part t a.from a.to) [])) t r ≡ head_led h t (named_to a r)
    to-led a (Ok m) = refl
    to-led a (Err p) = refl

    go : (a : Result Atom ℕ) → atom_led h name t a ≡ head_led h t (headed t a)
    go (Ok a) =
        let w = part t a.from a.to in
        let r = sign_at t a.past (ascii comma) in
        let k = then_normal t r in
        sign_read t a.past comma h (kind w)
        ∙ then-kind-read t r h w
        ∙ then_sign-read t k comma h (sign open_list (atom (node w [])))
        ∙ then_sign-read t (then_sign t k (ascii comma)) open_list h (atom (node w []))
        ∙ to-led a (then_sign t (then_sign t k (ascii comma)) (ascii open_list))
    go (Err p) = refl

-- ---- the nodes of a group

-- where white space was passed, a sign is read at once
at_once : (t : List ℕ) (i c : ℕ) → dark t i ≡ i → sign_at t i c ≡ sign_from t i c
unfolding sign_at
at_once t i c q = ap (λ j. sign_from t j c) q

-- the rest of a text behind a node of the group w, which has these nodes before it; or its refusal
abbrev pub node_led : Here → List ℕ → List (List ℕ) → List ℕ → Result Node ℕ → Outcome
node_led h w ns t (Ok (Node.More a)) = from h [] (atom (node w (ns ++ (part t a.from a.to ∷ [])))) t a.past
node_led h w ns t (Ok (Node.Last a)) = from (with_group h w (ns ++ (part t a.from a.to ∷ []))) [] next_group t a.past
node_led h w ns t (Err p) = refused p

abbrev node_move : Here → List ℕ → List (List ℕ) → ℕ → Move
node_move h w ns b = cond (eqb b (ascii comma)) (goes h [] (atom (node w ns))) (cond (eqb b (ascii close_list)) (goes (with_group h w ns) [] (sign close_tuple next_group)) dead)

module _ (t : List ℕ) (h : Here) (w : List ℕ) (ns : List (List ℕ)) (a : Atom) where
  last-led : (r : Result ℕ ℕ) → passed (with_group h w (ns ++ (part t a.from a.to ∷ []))) next_group t r ≡ node_led h w ns t (last_to a r)
  last-led (Ok m) = refl
  last-led (Err p) = refl

  node-moves : (i : ℕ) → dark t i ≡ i
      → cond (ltb i (length t)) (moved t i (node_move h w (ns ++ (part t a.from a.to ∷ [])) (get_or t i 0))) (refused i) ≡ node_led h w ns t (node_from t a i)
  unfolding node_from sign_from
  node-moves i q = rw (at_once t i (ascii close_list) q) (go (ltb i (length t)) refl (eqb (get_or t i 0) (ascii comma)) (eqb (get_or t i 0) (ascii close_list)) refl)
    where
      go : (x : Bool) → ltb i (length t) ≡ x → (y z : Bool) → eqb (get_or t i 0) (ascii close_list) ≡ z
          → cond x (moved t i (cond y (goes h [] (atom (node w (ns ++ (part t a.from a.to ∷ []))))) (cond z (goes (with_group h w (ns ++ (part t a.from a.to ∷ []))) [] (sign close_tuple next_group)) dead))) (refused i)
          ≡ node_led h w ns t (cond x (cond y (Ok (Node.More (record a { past = i + 1 }))) (last_to a (then_sign t (sign_from t i (ascii close_list)) (ascii close_tuple)))) (Err i))
      go true l true z n = refl
      go true l false true n = rw (l, n) (sign_read t (i + 1) close_tuple (with_group h w (ns ++ (part t a.from a.to ∷ []))) next_group ∙ last-led (sign_at t (i + 1) (ascii close_tuple)))
      go true l false false n = rw (l, n)
      go false l y z n = refl

  next_node-read : (n : ℕ) → from h [] (next_node w (ns ++ (part t a.from a.to ∷ []))) t n ≡ node_led h w ns t (node_from t a (dark t n))
  unfolding step node_next reads
  next_node-read n =
      behind-white h (next_node w (ns ++ (part t a.from a.to ∷ []))) (node_move h w (ns ++ (part t a.from a.to ∷ []))) (λ b. refl) t n
      ∙ node-moves (dark t n) (dark-again t n)

pub node-read : (t : List ℕ) (at : ℕ) (h : Here) (w : List ℕ) (ns : List (List ℕ)) → from h [] (atom (node w ns)) t at ≡ node_led h w ns t (node_at t at)
unfolding node_at named
node-read t at h w ns = atom-read t at h (node w ns) ∙ go (atom_at t at)
  where
    go : (a : Result Atom ℕ) → atom_led h (node w ns) t a ≡ node_led h w ns t (noded t a)
    go (Ok a) = next_node-read t h w ns a a.past
    go (Err p) = refl

-- the nodes from a place on, behind these
abbrev NodesRead : Here → List ℕ → List (List ℕ) → List ℕ → ℕ → Type 0
NodesRead h w ns t at = from h [] (atom (node w ns)) t at ≡ passed (with_group h w (ns ++ nodes t at)) next_group t (pass_nodes t at)

nodes-step : (t : List ℕ) (at : ℕ) (h : Here) (w : List ℕ) (ns : List (List ℕ)) → ((n : ℕ) → at < n → n ≤ length t → (ms : List (List ℕ)) → NodesRead h w ms t n) → NodesRead h w ns t at
nodes-step t at h w ns again = rw (nodes-unfold t at, pass_nodes-unfold t at) (node-read t at h w ns ∙ go (node_at t at) (node_at-on t at))
  where
    go : (x : Result Node ℕ) → NodeOn t at x → node_led h w ns t x ≡ passed (with_group h w (ns ++ nodes_by t (nodes t) x)) next_group t (pass_by (pass_nodes t) x)
    go (Ok (Node.More b)) a = rw append_assoc at (again b.past a.0.0 a.0.1 (ns ++ (part t b.from b.to ∷ [])))
    go (Ok (Node.Last b)) a = refl
    go (Err p) a = refl

nodes-read-in : (f : ℕ) (t : List ℕ) (at : ℕ) (h : Here) (w : List ℕ) (ns : List (List ℕ)) → length t ≤ f + at → NodesRead h w ns t at
nodes-read-in zero t at h w ns l = nodes-step t at h w ns (λ n i j ms. absurd (omega arith))
nodes-read-in (suc f) t at h w ns l = nodes-step t at h w ns (λ n i j ms. nodes-read-in f t n h w ms (omega arith))

pub nodes-read : (t : List ℕ) (at : ℕ) (h : Here) (w : List ℕ) (ns : List (List ℕ))
    → from h [] (atom (node w ns)) t at ≡ passed (with_group h w (ns ++ nodes t at)) next_group t (pass_nodes t at)
nodes-read t at h w ns = nodes-read-in (length t) t at h w ns (omega arith)

-- ---- a list of tuples that begin with an atom: the groups, or pairs

-- the rest of a text behind what stands in the list, or its refusal
abbrev pub listed : Here → Use → (ℕ → Outcome) → List ℕ → Result Entry ℕ → Outcome
listed h u close t (Ok (Entry.Group n)) = from h [] (atom u) t n
listed h u close t (Ok (Entry.Closed n)) = close n
listed h u close t (Err p) = refused p

-- the bracket that closes the list makes the move c
module _ (t : List ℕ) (h : Here) (u : Use) (c : Move) (close : ℕ → Outcome) (closes : (i : ℕ) → moved t i c ≡ close (i + 1)) where
  opened : (r : Result ℕ ℕ) → passed h (atom u) t r ≡ listed h u close t (opened_to r)
  opened (Ok n) = refl
  opened (Err p) = refl

  abbrev first_move : ℕ → Move
  first_move b = cond (eqb b (ascii open_tuple)) (goes h [] (atom u)) (cond (eqb b (ascii close_list)) c dead)

  abbrev next_move : ℕ → Move
  next_move b = cond (eqb b (ascii comma)) (goes h [] (sign open_tuple (atom u))) (cond (eqb b (ascii close_list)) c dead)

  module _ (i : ℕ) (q : dark t i ≡ i) where
    first-moves : cond (ltb i (length t)) (moved t i (first_move (get_or t i 0))) (refused i) ≡ listed h u close t (entry_from t i false)
    unfolding entry_from bracket_at sign_from
    first-moves = rw (at_once t i (ascii open_tuple) q) (go (ltb i (length t)) refl (eqb (get_or t i 0) (ascii open_tuple)) refl (eqb (get_or t i 0) (ascii close_list)) refl)
      where
        go : (x : Bool) → ltb i (length t) ≡ x → (y : Bool) → eqb (get_or t i 0) (ascii open_tuple) ≡ y → (z : Bool) → eqb (get_or t i 0) (ascii close_list) ≡ z
            → cond x (moved t i (cond y (goes h [] (atom u)) (cond z c dead))) (refused i)
            ≡ listed h u close t (cond x (cond z (Ok (Entry.Closed (i + 1))) (opened_to (sign_from t i (ascii open_tuple)))) (Err i))
        go true l true m true n = absurd (omega (arith, not-both (get_or t i 0) (ascii open_tuple) (ascii close_list) m n))
        go true l true m false n = rw (l, m)
        go true l false m true n = closes i
        go true l false m false n = rw (l, m)
        go false l y m z n = refl

    next-moves : cond (ltb i (length t)) (moved t i (next_move (get_or t i 0))) (refused i) ≡ listed h u close t (entry_from t i true)
    unfolding entry_from bracket_at sign_from
    next-moves = rw (at_once t i (ascii comma) q) (go (ltb i (length t)) refl (eqb (get_or t i 0) (ascii comma)) refl (eqb (get_or t i 0) (ascii close_list)) refl)
      where
        go : (x : Bool) → ltb i (length t) ≡ x → (y : Bool) → eqb (get_or t i 0) (ascii comma) ≡ y → (z : Bool) → eqb (get_or t i 0) (ascii close_list) ≡ z
            → cond x (moved t i (cond y (goes h [] (sign open_tuple (atom u))) (cond z c dead))) (refused i)
            ≡ listed h u close t (cond x (cond z (Ok (Entry.Closed (i + 1))) (opened_to (then_sign t (sign_from t i (ascii comma)) (ascii open_tuple)))) (Err i))
        go true l true m true n = absurd (omega (arith, not-both (get_or t i 0) (ascii comma) (ascii close_list) m n))
        go true l true m false n = rw (l, m) (sign_read t (i + 1) open_tuple h (atom u) ∙ opened (sign_at t (i + 1) (ascii open_tuple)))
        go true l false m true n = closes i
        go true l false m false n = rw (l, m)
        go false l y m z n = refl

  -- behind its bracket, and behind one of its tuples
  pub first_read : (ph : Phase) → ((b : ℕ) → step h [] ph b ≡ spaced h [] ph b (first_move b)) → (at : ℕ) → from h [] ph t at ≡ listed h u close t (entry_at t at false)
  unfolding entry_at
  first_read ph s at = behind-white h ph first_move s t at ∙ first-moves (dark t at) (dark-again t at)

  pub next-read : (ph : Phase) → ((b : ℕ) → step h [] ph b ≡ spaced h [] ph b (next_move b)) → (at : ℕ) → from h [] ph t at ≡ listed h u close t (entry_at t at true)
  unfolding entry_at
  next-read ph s at = behind-white h ph next_move s t at ∙ next-moves (dark t at) (dark-again t at)

-- ---- the list of groups

-- behind the list, these groups are read
abbrev pub closed : List Group → Here
closed gs = record { level = kernel; found = true; groups = gs }

-- the rest of a text behind an entry of the list, or its refusal
abbrev pub entry_led : Here → List ℕ → Result Entry ℕ → Outcome
entry_led h t x = listed h name (from (closed h.groups) [] (sign close_tuple next_pair) t) t x

pub entry_read : (t : List ℕ) (at : ℕ) (h : Here) (begun : Bool) → from h [] (cond begun next_group first_group) t at ≡ entry_led h t (entry_at t at begun)
unfolding step reads
entry_read t at h true = next-read t h name (ended_groups h) (from (closed h.groups) [] (sign close_tuple next_pair) t) (λ i. refl) next_group (λ b. refl) at
entry_read t at h false = first_read t h name (ended_groups h) (from (closed h.groups) [] (sign close_tuple next_pair) t) (λ i. refl) first_group (λ b. refl) at

-- the groups from a place on, behind those that are read
abbrev GroupsRead : Here → List ℕ → ℕ → Bool → Type 0
GroupsRead h t at begun =
    from h [] (cond begun next_group first_group) t at ≡ passed (closed (h.groups ++ groups_from t at begun)) (sign close_tuple next_pair) t (pass_groups_from t at begun)

module _ (t : List ℕ) (at : ℕ) (h : Here) (again : (g : Here) (n : ℕ) → at < n → n ≤ length t → GroupsRead g t n true) where
  by-nodes : (b : Atom) → at < b.past → (r : Result ℕ ℕ) → StepOn t b.past r
      → passed (with_group h (part t b.from b.to) (nodes t b.past)) next_group t r
      ≡ passed (closed (h.groups ++ group_by t b (λ n. groups_from t n true) r)) (sign close_tuple next_pair) t (pass_head t (λ n. pass_groups_from t n true) r)
  by-nodes b i (Ok n) a = rw append_assoc at (again (with_group h (part t b.from b.to) (nodes t b.past)) n (omega arith) a.1)
  by-nodes b i (Err p) a = refl

  by-head : (n : ℕ) → at < n → (x : Result Atom ℕ) → AtomOn t n x
      → head_led h t x ≡ passed (closed (h.groups ++ head_by t (λ n. groups_from t n true) x)) (sign close_tuple next_pair) t (pass_group t (λ n. pass_groups_from t n true) x)
  by-head n i (Ok b) a = nodes-read t b.past h (part t b.from b.to) [] ∙ by-nodes b (omega arith) (pass_nodes t b.past) (pass_nodes-on t b.past)
  by-head n i (Err p) a = refl

  by-entry : (x : Result Entry ℕ) → EntryOn t at x
      → entry_led h t x ≡ passed (closed (h.groups ++ entry_by t (λ n. groups_from t n true) x)) (sign close_tuple next_pair) t (pass_entry t (λ n. pass_groups_from t n true) x)
  by-entry (Ok (Entry.Group n)) a = head_read t n h ∙ by-head n a.0 (head_at t n) (head-on t n)
  by-entry (Ok (Entry.Closed n)) a = rw append-nil
  by-entry (Err p) a = refl

  groups-step : (begun : Bool) → GroupsRead h t at begun
  groups-step begun = rw (groups-unfold t at begun, pass_groups-unfold t at begun) (entry_read t at h begun ∙ by-entry (entry_at t at begun) (entry_at-on t at begun))

groups-read-in : (f : ℕ) (t : List ℕ) (at : ℕ) (h : Here) (begun : Bool) → length t ≤ f + at → GroupsRead h t at begun
groups-read-in zero t at h begun l = groups-step t at h (λ g n i j. absurd (omega arith)) begun
groups-read-in (suc f) t at h begun l = groups-step t at h (λ g n i j. groups-read-in f t n g true (omega arith)) begun

-- behind the bracket of the list, whatever is read: the groups of the walk are added, and the text goes on where the walk ends
pub groups-read : (t : List ℕ) (at : ℕ) (h : Here)
    → from h [] first_group t at ≡ passed (closed (h.groups ++ groups t at)) (sign close_tuple next_pair) t (pass_groups t at)
groups-read t at h = groups-read-in (length t) t at h false (omega arith)
