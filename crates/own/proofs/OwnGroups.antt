-- The s_groups of a node: how the passes over the words go, and that on the words of a state they give what the rules say. Assumes nothing.
use Rattle.std.specs.Prelude.{◌≡◌, refl, true, false, cond, List, [], ◌∷◌, ◌++◌, map, ℕ, zero, suc, ◌+◌, ◌%◌, ◌≤◌, ◌<◌, length, get_or, take, drop, set, count_by, min}
use Rattle.std.proofs.Common.{sym, ap, ap₂, ◌∙◌, ⊎_elim, append_assoc, append-nil, not-suc-le-zero, add-one, arith, lit<, length-append, length-take, length-drop, ne_eqb}
use Rattle.std.proofs.lemmas.List.{length-map, take_all, take-take}
use Rattle.std.proofs.lemmas.List.Sums.{sum_by-cons}
use Rattle.std.proofs.Math.ListN.{get_or-map}
use Rattle.nodes.specs.Sets.{node_limit, has, single, union, union_all}
use Rattle.nodes.specs.Bools.{by_test}
use Rattle.nodes.proofs.SetLaws.{union-none, union_all-take}
use Rattle.entries.specs.Pass.{pass-write}
use Rattle.semantics.specs.Sizes.{group_limit, group_names, names_per_group, contents_at, members_at, free_at}
use Rattle.semantics.specs.Soundness.{count_of}
use Rattle.semantics.specs.State.{Group, State, free_of}
use Rattle.semantics.specs.Steps.{own_set, own_list}
use Rattle.semantics.specs.Table.{contents, sections}
use Rattle.semantics.specs.Test.{sound}
use Rattle.semantics.specs.Call.{listed_over}
use Rattle.semantics.specs.Regular.{Every, RegularGroup, Regular}
use Rattle.semantics.specs.Places.{contents-name}
use Rattle.semantics.specs.Sections.{read}
use Rattle.semantics.specs.WordsOfState.{Laid, length-of, count-is, free-word}
use Rattle.place.specs.Sound.{here, regular, base, groups_few}
use Rattle.own.specs.OwnWords.{if_with, shared_members, own_words, own_length}

-- ---- the union of the sets that have the node

if_none : (i : ℕ) → ◌≡◌ {A = ℕ} (if_with i 0) 0
if_none i = ⊎_elim (λ (h : has 0 i ≡ true). rw h) (λ (h : has 0 i ≡ false). rw h) (by_test (has 0 i))

with_at : (i j : ℕ) (ms : List ℕ) → get_or (map (if_with i) ms) j 0 ≡ if_with i (get_or ms j 0)
with_at i j ms = ap (get_or (map (if_with i) ms) j) (sym (if_none i)) ∙ get_or-map (if_with i) ms j 0

-- the nodes of the first j sets that have node i
abbrev pub shared_first : ℕ → ℕ → List ℕ → ℕ
shared_first i j ms = union_all (take j (map (if_with i) ms))

module _ (i j : ℕ) (ms : List ℕ) (h : j < length ms) where
  next : (x : ℕ) → if_with i (get_or ms j 0) ≡ x → union (shared_first i j ms) x ≡ shared_first i (j + 1) ms
  next x e =
      ap (union (shared_first i j ms)) (sym (with_at i j ms ∙ e)) ∙ union_all-take (map (if_with i) ms) j (omega (arith, length-map ms (if_with i)))

  pub share-more : has (get_or ms j 0) i ≡ true → union (shared_first i j ms) (get_or ms j 0) ≡ shared_first i (j + 1) ms
  share-more m = next (get_or ms j 0) (rw m)

  pub share-same : has (get_or ms j 0) i ≡ false → shared_first i j ms ≡ shared_first i (j + 1) ms
  share-same m = sym (union-none (shared_first i j ms)) ∙ next 0 (rw m)

pub share-none : (i : ℕ) (ms : List ℕ) → shared_first i 0 ms ≡ 0
unfolding union_all
share-none i ms = refl

pub share-all : (i j : ℕ) (ms : List ℕ) → j ≡ length ms → shared_first i j ms ≡ shared_members i ms
share-all i j ms e = ap union_all (take_all j (map (if_with i) ms) (omega (arith, length-map ms (if_with i), e)))

-- ---- how many words the list has

pub length-own : (i : ℕ) (cs ms : List ℕ) → length ms ≤ length cs → length (own_words i cs ms) ≡ own_length i ms
length-own i [] [] h = refl
length-own i [] (m ∷ ms) h = absurd (omega (arith, h))
length-own i (c ∷ cs) [] h = refl
length-own i (c ∷ cs) (m ∷ ms) h =
    let first : count_by (λ x. has x i) (m ∷ ms) ≡ cond (has m i) 1 0 + count_by (λ x. has x i) ms = sum_by-cons _ m ms in
    let rest : length (own_words i cs ms) ≡ own_length i ms = length-own i cs ms (omega (arith, h)) in
    ⊎_elim
    (λ (e : has m i ≡ true).
    let two : length (own_words i (c ∷ cs) (m ∷ ms)) ≡ 2 + length (own_words i cs ms) = rw e (omega arith) in
    let one : ◌≡◌ {A = ℕ} (cond (has m i) 1 0) 1 = rw e in
    omega (arith, two, first, one, rest))
    (λ (e : has m i ≡ false).
    let none : length (own_words i (c ∷ cs) (m ∷ ms)) ≡ length (own_words i cs ms) = rw e in
    let no : ◌≡◌ {A = ℕ} (cond (has m i) 1 0) 0 = rw e in
    omega (arith, none, first, no, rest))
    (by_test (has m i))

-- ---- the list

-- the words of the first j s_groups
abbrev pub own_first : ℕ → ℕ → List ℕ → List ℕ → List ℕ
own_first i j cs ms = own_words i (take j cs) (take j ms)

-- what the s_group at place j adds
abbrev two : ℕ → ℕ → List ℕ → List ℕ → List ℕ
two i j cs ms = cond (has (get_or ms j 0) i) (get_or cs j 0 % group_names ∷ get_or ms j 0 ∷ []) []

own-next : (i j : ℕ) (cs ms : List ℕ) → j < length cs → j < length ms → own_first i (suc j) cs ms ≡ own_first i j cs ms ++ two i j cs ms
own-next i j [] ms h k = absurd (not-suc-le-zero h)
own-next i j (c ∷ cs) [] h k = absurd (not-suc-le-zero k)
own-next i zero (c ∷ cs) (m ∷ ms) h k = refl
own-next i (suc j) (c ∷ cs) (m ∷ ms) h k =
    ⊎_elim
    (λ (e : has m i ≡ true). rw e (ap (λ (l : List ℕ). c % group_names ∷ m ∷ l) (own-next i j cs ms (omega arith) (omega arith))))
    (λ (e : has m i ≡ false). rw e (own-next i j cs ms (omega arith) (omega arith)))
    (by_test (has m i))

pub own-le : (i j count : ℕ) (cs ms : List ℕ) → j ≤ count → length (own_first i j cs ms) ≤ length (own_first i count cs ms)
own-le i zero count cs ms h = omega arith
own-le i (suc j) zero cs ms h = absurd (not-suc-le-zero h)
own-le i (suc j) (suc count) [] ms h = omega arith
own-le i (suc j) (suc count) (c ∷ cs) [] h = omega arith
own-le i (suc j) (suc count) (c ∷ cs) (m ∷ ms) h =
    ⊎_elim
    (λ (e : has m i ≡ true). rw e (omega (arith, own-le i j count cs ms (omega arith))))
    (λ (e : has m i ≡ false). rw e (own-le i j count cs ms (omega arith)))
    (by_test (has m i))

-- where one of the two lists ends, the words are all
pub own-all : (i n : ℕ) (cs ms : List ℕ) → min (length cs) (length ms) ≤ n → own_first i n cs ms ≡ own_words i cs ms
own-all i zero [] ms h = refl
own-all i zero (c ∷ cs) [] h = refl
own-all i zero (c ∷ cs) (m ∷ ms) h = absurd (omega (arith, h))
own-all i (suc n) [] ms h = refl
own-all i (suc n) (c ∷ cs) [] h = refl
own-all i (suc n) (c ∷ cs) (m ∷ ms) h =
    let rest : own_first i n cs ms ≡ own_words i cs ms = own-all i n cs ms (omega (arith, h)) in
    ⊎_elim
    (λ (e : has m i ≡ true). rw e (ap (λ (l : List ℕ). c % group_names ∷ m ∷ l) rest))
    (λ (e : has m i ≡ false). rw e rest)
    (by_test (has m i))

-- two words more in the run
pub write_two : (done out : List ℕ) (x y at : ℕ) → length done ≡ at → at + 1 < length out
    → set (set (listed_over done out) at x) (at + 1) y ≡ listed_over (done ++ x ∷ y ∷ []) out
write_two done out x y at e h =
    let one : length (done ++ x ∷ []) ≡ at + 1 = simp length-append (omega arith) in
    let both : length (done ++ x ∷ y ∷ []) ≡ at + 1 + 1 = simp length-append (omega arith) in
    ap (λ (n : ℕ). set (set (done ++ drop n out) at x) (at + 1) y) e
    ∙ ap (λ (l : List ℕ). set l (at + 1) y) (pass-write done at out e x (omega arith))
    ∙ pass-write (done ++ x ∷ []) (at + 1) out one y h
    ∙ ap₂ (λ (l : List ℕ) (n : ℕ). l ++ drop n out) (append_assoc done (x ∷ []) (y ∷ [])) (sym both)

module _ (i j : ℕ) (cs ms : List ℕ) (h : j < length cs) (k : j < length ms) where
  pub own-more : has (get_or ms j 0) i ≡ true → own_first i (j + 1) cs ms ≡ own_first i j cs ms ++ get_or cs j 0 % group_names ∷ get_or ms j 0 ∷ []
  own-more m = ap (λ (n : ℕ). own_first i n cs ms) (add-one j) ∙ own-next i j cs ms h k ∙ rw m

  pub own_same : has (get_or ms j 0) i ≡ false → own_first i (j + 1) cs ms ≡ own_first i j cs ms
  own_same m = ap (λ (n : ℕ). own_first i n cs ms) (add-one j) ∙ own-next i j cs ms h k ∙ rw m (append-nil (own_first i j cs ms))

-- one more s_group: w and m are its words at place j
module _ (i : ℕ) {j : ℕ} (cs ms : List ℕ) {w m : ℕ} (t : (j < length cs) × (j < length ms) × ((d : ℕ) → w ≡ get_or cs j d) × ((d : ℕ) → m ≡ get_or ms j d)) where
  more : has m i ≡ true → own_first i (j + 1) cs ms ≡ own_first i j cs ms ++ w % group_names ∷ m ∷ []
  more h =
      own-more i j cs ms t.0 t.1 (ap (λ (x : ℕ). has x i) (sym (t.3 0)) ∙ h)
      ∙ ap₂ (λ (x y : ℕ). own_first i j cs ms ++ x % group_names ∷ y ∷ []) (sym (t.2 0)) (sym (t.3 0))

  more-long : has m i ≡ true → length (own_first i (j + 1) cs ms) ≡ length (own_first i j cs ms) + 2
  more-long h = ap length (more h) ∙ length-append (own_first i j cs ms) (w % group_names ∷ m ∷ [])

  -- the list of those before it stands at the start of the run, which was long enough for all
  module _ (out0 : List ℕ) (long : length (own_words i cs ms) ≤ length out0) (at : ℕ) (out : List ℕ)
      (v : (at ≡ length (own_first i j cs ms)) × (out ≡ listed_over (own_first i j cs ms) out0)) (same : length out ≡ length out0) where
    pub room : has m i ≡ true → at + 1 < length out
    room h =
        let all : length (own_first i (j + 1 + length cs) cs ms) ≡ length (own_words i cs ms) = ap length (own-all i (j + 1 + length cs) cs ms (omega arith)) in
        omega (arith, more-long h, v.0, own-le i (j + 1) (j + 1 + length cs) cs ms (omega arith), all, long, same)

    module _ {n : ℕ} (next-is : n ≡ j + 1) where
      pub written : has m i ≡ true → (at + 2 ≡ length (own_first i n cs ms)) × (set (set out at (w % group_names)) (at + 1) m ≡ listed_over (own_first i n cs ms) out0)
      written h = rw next-is (
        omega (arith, more-long h, v.0),
        ap (λ (l : List ℕ). set (set l at (w % group_names)) (at + 1) m) v.1
            ∙ write_two (own_first i j cs ms) out0 (w % group_names) m at (sym v.0) (omega (arith, room h, same)) ∙ ap (λ (l : List ℕ). listed_over l out0) (sym (more h)),
      )

      pub passed_by : has m i ≡ false → (at ≡ length (own_first i n cs ms)) × (out ≡ listed_over (own_first i n cs ms) out0)
      passed_by h =
          let e : own_first i (j + 1) cs ms ≡ own_first i j cs ms = own_same i j cs ms t.0 t.1 (ap (λ (x : ℕ). has x i) (sym (t.3 0)) ∙ h) in
          rw (next-is, e) v

-- ---- on the words of a state

own-state : (cap N i : ℕ) (gs : List Group) (y z : List ℕ) → Every (RegularGroup cap N) gs
    → own_words i (take (length gs) (map contents gs ++ y)) (take (length gs) (map (λ g. g.members) gs ++ z)) ≡ own_list i gs
own-state cap N i [] y z h = refl
own-state cap N i (g ∷ gs) y z h = rw (contents-name g h.0.small, own-state cap N i gs y z h.1)

shared-state : (i : ℕ) (gs : List Group) (z : List ℕ)
    → map (if_with i) (take (length gs) (map (λ g. g.members) gs ++ z)) ≡ map (λ g. if_with i g.members) gs
shared-state i [] z = refl
shared-state i (g ∷ gs) z = ap (λ (l : List ℕ). if_with i g.members ∷ l) (shared-state i gs z)

-- the contents words and the members of the s_groups of a table, as the code lends them
abbrev pub contents_lent : List ℕ → List ℕ
contents_lent t = take (count_of t) (drop contents_at t)

abbrev pub members_lent : List ℕ → List ℕ
members_lent t = take (count_of t) (drop members_at t)

module _ {cap : ℕ} {st : State} {t : List ℕ} (l : Laid cap st t) (r : Regular cap st) where
  -- they stand within their section
  within : (a : ℕ) → take (count_of t) (drop a t) ≡ take (count_of t) (take group_limit (drop a t))
  within a = sym (take-take (count_of t) group_limit (drop a t) (omega (arith, count-is l, r.groups_few)))

  pub own-laid : (i : ℕ) → own_words i (contents_lent t) (members_lent t) ≡ own_list i st.groups
  unfolding sections
  own-laid i =
      rw (within contents_at, within members_at, count-is l, read l.run 1 (lit< tt), read l.run 2 (lit< tt)) (own-state cap st.size i st.groups _ _ r.each)

  pub shared-laid : (i : ℕ) → shared_members i (members_lent t) ≡ union_all (map (λ g. if_with i g.members) st.groups)
  unfolding sections
  shared-laid i = rw (within members_at, count-is l, read l.run 2 (lit< tt)) (ap union_all (shared-state i st.groups _))

-- ---- a sound table

module _ (t : List ℕ) (ok : sound names_per_group t ≡ true) where
  contents-many : count_of t ≡ length (contents_lent t)
  contents-many = simp (length-take, length-drop) (omega (arith, length-of (base t ok), groups_few t ok))

  pub members_many : count_of t ≡ length (members_lent t)
  members_many = simp (length-take, length-drop) (omega (arith, length-of (base t ok), groups_few t ok))

module _ (t : List ℕ) (ok : sound names_per_group t ≡ true) (i : ℕ) where
  pub own-count : own_length i (members_lent t) ≡ length (own_list i (here t).groups)
  own-count = sym (length-own i (contents_lent t) (members_lent t) (omega (arith, contents-many t ok, members_many t ok))) ∙ ap length (own-laid (base t ok) (regular t ok) i)

  -- ---- the nodes of its groups

  module _ (h : i < node_limit) where
    free-is : {f : ℕ} → get_or t (free_at + i) 0 ≡ f → free_of i (here t) ≡ f
    free-is e = sym (free-word (base t ok) i h) ∙ e

    pub own_free : (get_or t (free_at + i) 0 ≡ 0 → ⊥) → get_or t (free_at + i) 0 ≡ own_set i (here t)
    own_free n = sym (rw (free-is refl, ne_eqb (get_or t (free_at + i) 0) 0 n))

    module _ (none : get_or t (free_at + i) 0 ≡ 0) (u : ℕ) (e : u ≡ shared_members i (members_lent t)) where
      shared : u ≡ union_all (map (λ g. if_with i g.members) (here t).groups)
      shared = e ∙ shared-laid (base t ok) (regular t ok) i

      pub own-shared : (u ≡ 0 → ⊥) → u ≡ own_set i (here t)
      own-shared n = sym (rw (free-is none, ← shared, ne_eqb u 0 n))

      pub own_alone : u ≡ 0 → single i ≡ own_set i (here t)
      own_alone z = sym (rw (free-is none, ← shared, z))
