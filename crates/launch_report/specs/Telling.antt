-- Laws of `launched_lines`: a turn and the end of each loop, and the s_groups as the words of a table have them. Assumes nothing.
use Rattle.std.specs.Prelude.{◌≡◌, refl, true, false, List, [], ◌∷◌, ◌++◌, map, ℕ, zero, suc, ◌+◌, ◌-◌, ◌%◌, ◌≤◌, ◌<◌, min, length, take, drop}
use Rattle.std.proofs.Common.{sym, ◌∙◌, append-nil, add-one, drop_of_length-le, get_or-drop, eq-eqb, ne_eqb}
use native.Mathlib.Omega.{arith}
use Rattle.std.proofs.Math.ListN.{get_or}
use Rattle.std.proofs.Math.Seq.{drop-cons, drop-nil, take-length}
use Rattle.nodes.specs.NodeSets.{node_limit, has}
use Rattle.nodes.specs.Sets.{union_all, some_has}
use Rattle.nodes.proofs.SetLaws.{has_union_all}
use Rattle.text.specs.Text.{bytes}
use Rattle.semantics.specs.Sizes.{group_names, names_per_group, contents_at, members_at, bodies_at, table_words}
use Rattle.semantics.specs.Soundness.{count_of}
use Rattle.semantics.specs.State.{Group}
use Rattle.semantics.specs.Table.{groups_of, state_of}
use Rattle.semantics.specs.Test.{sound}
use Rattle.semantics.specs.WordsOfState.{length-of}
use Rattle.semantics.proofs.Agree.{test-laid}
use Rattle.sound_table.specs.Here.{one-each}
use Rattle.book.specs.Book.{lines}
use Rattle.print.specs.Printed.{decimal}
use Rattle.launch_report.specs.Launched.{quoted, named, member, members_from, group_line, group_lines, own_part, own_each, own_lines, groups_in}

-- the s_groups of contents words and members, without their names
abbrev pub bare : List ℕ → List ℕ → List Group
bare cs ms = groups_of 0 cs ms []

-- ---- the loop over the nodes

pub members_turn : (book : List ℕ) (set i : ℕ) → i < node_limit → members_from (node_limit - i) i book set ≡ member book set i ++ members_from (node_limit - (i + 1)) (i + 1) book set
unfolding members_from
members_turn book set i h =
    let k : node_limit - i ≡ suc (node_limit - suc i) = omega arith in
    rw (add-one, k)

pub members_end : (book : List ℕ) (set i : ℕ) → node_limit ≤ i → members_from (node_limit - i) i book set ≡ []
unfolding members_from
members_end book set i h = let k : node_limit - i ≡ zero = omega arith in rw k

-- ---- the loops over the s_groups

module _ (book : List ℕ) (n : ℕ) (cs ms : List ℕ) (i : ℕ) (h : i < length cs) (k : i < length ms) (c m : ℕ) (e : c ≡ get_or cs i 0) (f : m ≡ get_or ms i 0) where
  pub groups_turn : group_lines book n (bare (drop i cs) (drop i ms)) ≡ group_line book n (c % group_names) m ++ group_lines book n (bare (drop (i + 1) cs) (drop (i + 1) ms))
  unfolding group_lines
  groups_turn = rw (e, f, add-one, drop-cons cs i 0, drop-cons ms i 0)

  pub own_turn : (j : ℕ) → own_each book n j (bare (drop i cs) (drop i ms)) ≡ own_part book n j (c % group_names) m ++ own_each book n j (bare (drop (i + 1) cs) (drop (i + 1) ms))
  unfolding own_each
  own_turn j = rw (e, f, add-one, drop-cons cs i 0, drop-cons ms i 0)

-- no contents word is left
module _ (book : List ℕ) (n : ℕ) (cs ms : List ℕ) (i : ℕ) (h : length cs ≤ i) where
  pub groups_end : group_lines book n (bare (drop i cs) ms) ≡ []
  unfolding group_lines
  groups_end = rw (drop_of_length-le cs h)

  pub own_end : (j : ℕ) → own_each book n j (bare (drop i cs) ms) ≡ []
  unfolding own_each
  own_end j = rw (drop_of_length-le cs h)

no_members : (cs : List ℕ) → bare cs [] ≡ []
no_members [] = refl
no_members (c ∷ cs) = refl

-- no s_group is left, as one of the two lists ends
bare_none : (cs ms : List ℕ) (i : ℕ) → min (length cs) (length ms) ≤ i → bare (drop i cs) (drop i ms) ≡ []
bare_none [] ms i h = simp drop-nil
bare_none (c ∷ cs) [] i h = simp drop-nil (no_members (drop i (c ∷ cs)))
bare_none (c ∷ cs) (m ∷ ms) zero h = absurd (omega arith)
bare_none (c ∷ cs) (m ∷ ms) (suc i) h = bare_none cs ms i (omega arith)

module _ (book : List ℕ) (n : ℕ) (cs ms : List ℕ) (i : ℕ) (h : min (length cs) (length ms) ≤ i) where
  pub groups_over : group_lines book n (bare (drop i cs) (drop i ms)) ≡ []
  unfolding group_lines
  groups_over = rw (bare_none cs ms i h)

  pub own_over : (j : ℕ) → own_each book n j (bare (drop i cs) (drop i ms)) ≡ []
  unfolding own_each
  own_over j = rw (bare_none cs ms i h)

-- ---- the words of a table

-- the members of the s_groups are the words
pub bare-members : (cs ms : List ℕ) → length cs ≡ length ms → map (λ g. g.members) (bare cs ms) ≡ ms
bare-members [] [] e = refl
bare-members [] (m ∷ ms) e = absurd (omega arith)
bare-members (c ∷ cs) [] e = absurd (omega arith)
bare-members (c ∷ cs) (m ∷ ms) e = rw (bare-members cs ms (omega arith))

-- what is said of s_groups does not hang on their names
same_lines : (book : List ℕ) (n cap : ℕ) (cs ms b : List ℕ) → group_lines book n (groups_of cap cs ms b) ≡ group_lines book n (bare cs ms)
unfolding group_lines
same_lines book n cap [] ms b = refl
same_lines book n cap (c ∷ cs) [] b = refl
same_lines book n cap (c ∷ cs) (m ∷ ms) b = rw (same_lines book n cap cs ms (drop cap b))

same-each : (book : List ℕ) (n j cap : ℕ) (cs ms b : List ℕ) → own_each book n j (groups_of cap cs ms b) ≡ own_each book n j (bare cs ms)
unfolding own_each
same-each book n j cap [] ms b = refl
same-each book n j cap (c ∷ cs) [] b = refl
same-each book n j cap (c ∷ cs) (m ∷ ms) b = rw (same-each book n j cap cs ms (drop cap b))

same-members : (cap : ℕ) (cs ms b : List ℕ) → map (λ g. g.members) (groups_of cap cs ms b) ≡ map (λ g. g.members) (bare cs ms)
same-members cap [] ms b = refl
same-members cap (c ∷ cs) [] b = refl
same-members cap (c ∷ cs) (m ∷ ms) b = rw (same-members cap cs ms (drop cap b))

-- a sound table has the length of one
pub table-long : (t : List ℕ) → sound names_per_group t ≡ true → length t ≡ table_words names_per_group
table-long t ok = length-of (test-laid names_per_group t ok)

-- and as many contents words as members
as_many : (t : List ℕ) → length t ≡ table_words names_per_group → sound names_per_group t ≡ true
    → length (take (count_of t) (drop contents_at t)) ≡ length (take (count_of t) (drop members_at t))
as_many t long ok = one-each t ok long contents_at (omega arith) _ refl ∙ sym (one-each t ok long members_at (omega arith) _ refl)

-- the s_groups of a sound table are those of its contents words and members
module _ (t : List ℕ) (long : length t ≡ table_words names_per_group) (ok : sound names_per_group t ≡ true) (ms : List ℕ) (f : ms ≡ take (count_of t) (drop members_at t)) where
  table-members : map (λ g. g.members) (groups_in t) ≡ ms
  unfolding groups_in state_of
  table-members =
      rw (ok, f, same-members names_per_group (take (count_of t) (drop contents_at t)) (take (count_of t) (drop members_at t)) (drop bodies_at t))
      (bare-members _ _ (as_many t long ok))

  module _ (cs : List ℕ) (e : cs ≡ take (count_of t) (drop contents_at t)) (book : List ℕ) (n : ℕ) where
    pub table_lines : group_lines book n (bare cs ms) ≡ group_lines book n (groups_in t)
    unfolding groups_in state_of
    table_lines = rw (ok, e, f, ← (same_lines book n names_per_group (take (count_of t) (drop contents_at t)) (take (count_of t) (drop members_at t)) (drop bodies_at t)))

    pub table-each : (j : ℕ) → own_each book n j (bare cs ms) ≡ own_each book n j (groups_in t)
    unfolding groups_in state_of
    table-each j = rw (ok, e, f, ← (same-each book n j names_per_group (take (count_of t) (drop contents_at t)) (take (count_of t) (drop members_at t)) (drop bodies_at t)))

  -- the s_groups of a node, with all the nodes of the members together
  module _ (j u : ℕ) (w : u ≡ union_all (take (length ms) ms)) (book : List ℕ) (n : ℕ) where
    grouped : some_has (map (λ g. g.members) (groups_in t)) j ≡ has u j
    grouped = rw (table-members, w, take-length, has_union_all)

    pub own-some : has u j ≡ true → own_each book n j (groups_in t) ≡ own_lines book n j (groups_in t)
    unfolding own_lines
    own-some h = rw (grouped ∙ h)

    pub own-none : has u j ≡ false → bytes "own none\n" ≡ own_lines book n j (groups_in t)
    unfolding own_lines
    own-none h = rw (grouped ∙ h)

-- what is no sound table has none
pub unsound-lines : (book : List ℕ) (n j : ℕ) (t : List ℕ) → sound names_per_group t ≡ false
    → group_lines book n (groups_in t) ++ own_lines book n j (groups_in t) ≡ bytes "own none\n"
unfolding groups_in group_lines own_lines own_each
unsound-lines book n j t e = rw e

-- ---- the number and the atom of an s_group

module _ (book : List ℕ) (n s : ℕ) where
  pub named-zero : s ≡ 0 → decimal s ≡ named book n s
  unfolding named
  named-zero e = rw (eq-eqb s 0 e, append-nil)

  pub named_some : (atom : List ℕ) → (s ≡ 0 → ⊥) → atom ≡ get_or (lines book) (n + (s - 1)) [] → decimal s ++ quoted atom ≡ named book n s
  unfolding named
  named_some atom h e = rw (ne_eqb s 0 h, e, ← (get_or-drop n (lines book) (s - 1) []))
