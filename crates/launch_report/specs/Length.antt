-- How many bytes are said of a launch that goes through, at most: 32 s_groups of 64 nodes, each atom of 64 bytes. Assumes nothing.
use Rattle.std.specs.Prelude.{◌≡◌, refl, Bool, ◌&&◌, cond, eqb, leb, drop}
use Rattle.std.proofs.Math.Bool.{true, false}
use Rattle.std.proofs.lemmas.Bool.{false≢true}
use mathlib.Core.List.{List, [], ◌∷◌, ◌++◌, map}
use Prim.Native.Nat.{ℕ, zero, suc, ◌+◌, ◌-◌, ◌*◌, ◌≤◌}
use native.Mathlib.Omega.{arith}
use Rattle.std.proofs.Common.{leb-true, get_or-drop}
use Rattle.std.proofs.Math.ListN.{length, get_or, length-append}
use Rattle.nodes.specs.NodeSets.{node_limit, has}
use Rattle.nodes.specs.Sets.{some_has}
use Rattle.text.specs.Text.{bytes}
use Rattle.semantics.specs.Sizes.{group_limit, names_per_group}
use Rattle.semantics.specs.State.{Group}
use Rattle.semantics.specs.Table.{state_of}
use Rattle.semantics.specs.Test.{sound}
use Rattle.semantics.proofs.Agree.{test-regular}
use Rattle.print.specs.Printed.{decimal}
use Rattle.print.specs.Decimals.{decimal-few}
use Rattle.book.specs.Book.{longest_atom, group_atoms, lines, ended, all_atoms, distinct, fit}
use Rattle.launch_report.specs.Launched.{quoted, member, members_from, named, group_line, group_lines, own_line, own_part, own_each, own_lines, groups_in, launched_lines}

-- the most bytes of an atom in quotes behind a space, of the line of an s_group, and of one of a node
abbrev pub longest_quoted : ℕ
longest_quoted = longest_atom + 3

abbrev pub longest_line : ℕ
longest_line = 27 + longest_quoted + node_limit * longest_quoted

abbrev pub longest_own : ℕ
longest_own = 25 + longest_quoted

-- an atom of a book is short
atom-few : (ls : List (List ℕ)) → all_atoms ls ≡ true → (i : ℕ) → length (get_or ls i []) ≤ longest_atom
unfolding all_atoms
atom-few [] h i = omega arith
atom-few (l ∷ ls) h i = go (leb 1 (length l)) (leb (length l) longest_atom) refl h (atom-few ls) i
  where
    go : (a b : Bool) → leb (length l) longest_atom ≡ b → (a && b) && all_atoms ls ≡ true → (all_atoms ls ≡ true → (i : ℕ) → length (get_or ls i []) ≤ longest_atom)
        → (i : ℕ) → length (get_or (l ∷ ls) i []) ≤ longest_atom
    go true true e h f zero = leb-true (length l) longest_atom e
    go true true e h f (suc i) = f h i
    go true false e h f i = absurd (false≢true h)
    go false b e h f i = absurd (false≢true h)

decimal-short : (n : ℕ) → length (decimal n) ≤ 20
unfolding decimal
decimal-short n = decimal-few 19 n

-- a table has at most 32 s_groups
groups_few : (t : List ℕ) → length (groups_in t) ≤ group_limit
unfolding groups_in
groups_few t = go (sound names_per_group t) refl
  where
    go : (b : Bool) → sound names_per_group t ≡ b → length (cond b (state_of names_per_group t).groups []) ≤ group_limit
    go true e = (test-regular names_per_group t e).0.groups_few
    go false e = omega arith

quoted-short : (a : List ℕ) → length a ≤ longest_atom → length (quoted a) ≤ longest_quoted
quoted-short a h = simp length-append (omega arith)

module _ (book : List ℕ) (fine : all_atoms (lines book) ≡ true) where
  quoted-few : (i : ℕ) → length (quoted (get_or (lines book) i [])) ≤ longest_quoted
  quoted-few i = quoted-short (get_or (lines book) i []) (atom-few (lines book) fine i)

  member-few : (set i : ℕ) → length (member book set i) ≤ longest_quoted
  unfolding member
  member-few set i = go (has set i)
    where
      go : (t : Bool) → length (cond t (quoted (get_or (lines book) i [])) []) ≤ longest_quoted
      go true = quoted-few i
      go false = omega arith

  members-few : (k i set : ℕ) → length (members_from k i book set) ≤ k * longest_quoted
  unfolding members_from
  members-few zero i set = omega arith
  members-few (suc k) i set = simp length-append (omega (arith, member-few set i, members-few k (suc i) set))

  named-few : (n s : ℕ) → length (named book n s) ≤ 20 + longest_quoted
  unfolding named
  named-few n s = simp length-append (go (eqb s 0))
    where
      go : (t : Bool) → length (decimal s) + length (cond t [] (quoted (get_or (drop n (lines book)) (s - 1) []))) ≤ 20 + longest_quoted
      go true = omega (arith, decimal-short s)
      go false =
          let a : List ℕ = get_or (drop n (lines book)) (s - 1) [] in
          let e : length a ≤ longest_atom = rw (get_or-drop n (lines book) (s - 1) []) (atom-few (lines book) fine (n + (s - 1))) in
          omega (arith, decimal-short s, quoted-short a e)

  line-few : (n s set : ℕ) → length (group_line book n s set) ≤ longest_line
  unfolding group_line
  line-few n s set = simp length-append (omega (arith, named-few n s, members-few node_limit 0 set))

  lines-few : (n : ℕ) (gs : List Group) → length (group_lines book n gs) ≤ length gs * longest_line
  unfolding group_lines
  lines-few n [] = omega arith
  lines-few n (g ∷ gs) = simp length-append (omega (arith, line-few n g.name g.members, lines-few n gs))

  own-few : (n i s set : ℕ) → length (own_part book n i s set) ≤ longest_own
  unfolding own_part own_line
  own-few n i s set = go (has set i)
    where
      go : (t : Bool) → length (cond t (bytes "own " ++ (named book n s ++ bytes "\n")) []) ≤ longest_own
      go true = simp length-append (omega (arith, named-few n s))
      go false = omega arith

  each-few : (n i : ℕ) (gs : List Group) → length (own_each book n i gs) ≤ length gs * longest_own
  unfolding own_each
  each-few n i [] = omega arith
  each-few n i (g ∷ gs) = simp length-append (omega (arith, own-few n i g.name g.members, each-few n i gs))

  owns-few : (n i : ℕ) (gs : List Group) → length (own_lines book n i gs) ≤ 9 + length gs * longest_own
  unfolding own_lines
  owns-few n i gs = go (some_has (map (λ g. g.members) gs) i)
    where
      go : (t : Bool) → length (cond t (own_each book n i gs) (bytes "own none\n")) ≤ 9 + length gs * longest_own
      go true = omega (arith, each-few n i gs)
      go false = omega arith

  -- a line for each of 32 s_groups, one for each as the node's own, and the words
  launched-few : (n start : ℕ) (t : List ℕ) → length (launched_lines book n start t) ≤ 14 + group_limit * longest_line + group_limit * longest_own
  unfolding launched_lines
  launched-few n start t = simp length-append (omega (arith, groups_few t, lines-few n (groups_in t), owns-few n start (groups_in t)))

fit-atoms : (n : ℕ) (book : List ℕ) → fit n book ≡ true → all_atoms (lines book) ≡ true
unfolding fit
fit-atoms n book h =
    go (ended book) (all_atoms (lines book)) (distinct (lines book)) (leb n (length (lines book))) (leb (length (lines book)) (n + group_atoms)) h
  where
    go : (a b c d e : Bool) → (a && b && c && d && e) ≡ true → b ≡ true
    go true true c d e h = refl
    go true false c d e h = absurd (false≢true h)
    go false b c d e h = absurd (false≢true h)

-- so much room is enough for every launch that goes through: its book is fit
pub said-few : (book : List ℕ) (n start : ℕ) (t : List ℕ) → fit n book ≡ true → length (launched_lines book n start t) ≤ 163840
said-few book n start t h = omega (arith, launched-few book (fit-atoms n book h) n start t)
