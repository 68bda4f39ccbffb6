-- What opening writes is the table of the opened state. Assumes nothing.
use Rattle.std.specs.Prelude.{◌≡◌, refl, Bool, true, false, not, ◌&&◌, cond, List, [], ◌∷◌, ◌++◌, ℕ, zero, suc, ◌+◌, ◌-◌, ◌*◌, ◌≤◌, ◌<◌, min, eqb, ltb, length, take, drop, set, replicate}
use Rattle.std.proofs.Common.{sym, ap, ap₂, ◌∙◌, subst, le_refl, lit<, length-append, take-append-drop}
use native.Mathlib.Omega.{arith}
use borrow.Author.Tests.{eq-eqb, ne_eqb, lt-ltb, le-ltb}
use Rattle.nodes.specs.Sets.{node_limit, has, single, roster, diff, beyond, with_node}
use Rattle.nodes.proofs.SetLaws.{has_diff, has-roster, none-union}
use Rattle.semantics.specs.Sizes.{group_limit, names_per_group, contents_at, free_at, bodies_at, table_words}
use Rattle.answers.specs.Answers.{answer_of}
use Rattle.semantics.specs.Steps.{mapi, each_alone, opened}
use Rattle.semantics.specs.Table.{cat, sections, layout}
use Rattle.semantics.specs.Call.{refused, opening}
use Rattle.semantics.specs.Sections.{Run, store, lent}
use Rattle.semantics.specs.WordsOfState.{sizes}
use Rattle.answers.specs.declared.Value.TheVariants.{Ok}
use Rattle.answers.specs.declared.Reason.TheVariants.{Done, TableLength, RosterSize, NodeUnknown}

-- ---- each node alone

-- two ways to fill zero words that agree at each place
fill-same : (f g : ℕ → ℕ → ℕ) (k n : ℕ) → ((i : ℕ) → k ≤ i → i < k + n → f i 0 ≡ g i 0) → mapi f k (replicate n 0) ≡ mapi g k (replicate n 0)
fill-same f g k zero h = refl
fill-same f g k (suc n) h = ap₂ ◌∷◌ (h k (le_refl k) (omega arith)) (fill-same f g (suc k) n (λ i l m. h i (omega arith) (omega arith)))

module _ (N hidden : ℕ) (few : N ≤ node_limit) where
  alone_at : (i : ℕ) → i < node_limit
      → cond (has (diff (roster (min N node_limit)) hidden) i) (with_node 0 i) 0 ≡ cond (ltb i N && not (has hidden i)) (single i) 0
  alone_at i l =
      let m : min N node_limit ≡ N = omega arith in
      ap₂ (λ (b : Bool) (w : ℕ). cond b w 0)
      (has_diff (roster (min N node_limit)) hidden i ∙ ap (λ (b : Bool). b && not (has hidden i)) (ap (λ (n : ℕ). has (roster n) i) m ∙ has-roster N i))
      (rw (lt-ltb i node_limit l) (none-union (single i)))

  alone-all : mapi (λ i w. cond (has (diff (roster (min N node_limit)) hidden) i) (with_node 0 i) w) 0 (replicate node_limit 0) ≡ each_alone N hidden
  alone-all =
      fill-same (λ i w. cond (has (diff (roster (min N node_limit)) hidden) i) (with_node 0 i) w) (λ i x. cond (ltb i N && not (has hidden i)) (single i) 0) 0 node_limit
      (λ i l m. alone_at i m)

-- ---- the words

-- a cleared table, part by part
clear : List (List ℕ)
clear =
    replicate contents_at 0 ∷ replicate group_limit 0 ∷ replicate group_limit 0 ∷ replicate node_limit 0 ∷ replicate node_limit 0
    ∷ replicate (group_limit * names_per_group) 0 ∷ []

cleared : Run (sizes names_per_group) clear (replicate (table_words names_per_group) 0)
unfolding clear
cleared = record { sizes = (refl, (refl, (refl, (refl, (refl, (refl, refl)))))); is = refl }

-- the cleared table with its size and hidden nodes
abbrev headed : ℕ → ℕ → List ℕ
headed N hidden = set (set (replicate (table_words names_per_group) 0) 0 N) 1 hidden

-- what becomes of the part of the free groups
abbrev pub freed : ℕ → ℕ → List ℕ → List ℕ
freed N hidden ws = mapi (λ i w. cond (has (diff (roster (min N node_limit)) hidden) i) (with_node 0 i) w) 0 ws

on-headed : (N hidden : ℕ) → N ≤ node_limit → (r : List ℕ)
    → length r ≡ length (take (bodies_at - free_at) (drop free_at (headed N hidden)))
    → r ≡ freed N hidden (take (bodies_at - free_at) (drop free_at (headed N hidden)))
    → take free_at (headed N hidden) ++ (r ++ drop (bodies_at - free_at) (drop free_at (headed N hidden))) ≡ layout names_per_group (opened N hidden)
unfolding clear layout sections opened
on-headed N hidden few r l q =
    (lent (store (store cleared 0 (lit< tt) 0 N (lit< tt)) 0 (lit< tt) 1 hidden (lit< tt)) 4 (lit< tt) (freed N hidden) r l q).is
    ∙ ap (λ (x : List ℕ). cat ((N ∷ hidden ∷ 0 ∷ 0 ∷ []) ∷ replicate group_limit 0 ∷ replicate group_limit 0 ∷ replicate node_limit 0 ∷ x ∷ replicate (group_limit * names_per_group) 0 ∷ []))
    (alone-all N hidden few)

-- the same of a cleared run of the table's length, where the part of the free groups was lent and became r
pub opened-words : (N hidden : ℕ) → N ≤ node_limit → (t u r : List ℕ) → length t ≡ table_words names_per_group
    → u ≡ set (set (replicate (length t) 0) 0 N) 1 hidden
    → length r ≡ length (take (bodies_at - free_at) (drop free_at u))
    → r ≡ freed N hidden (take (bodies_at - free_at) (drop free_at u))
    → take free_at u ++ (r ++ drop (bodies_at - free_at) (drop free_at u)) ≡ layout names_per_group (opened N hidden)
opened-words N hidden few t u r long e l q =
    subst (λ (x : List ℕ).
    length r ≡ length (take (bodies_at - free_at) (drop free_at x))
    → r ≡ freed N hidden (take (bodies_at - free_at) (drop free_at x))
    → take free_at x ++ (r ++ drop (bodies_at - free_at) (drop free_at x)) ≡ layout names_per_group (opened N hidden))
    (sym (e ∙ ap (λ (n : ℕ). set (set (replicate n 0) 0 N) 1 hidden) long))
    (on-headed N hidden few r) l q

-- a part that is lent and keeps its length keeps the run's
pub lent_length : (a k : ℕ) (u r : List ℕ) → length r ≡ length (take k (drop a u)) → length (take a u ++ (r ++ drop k (drop a u))) ≡ length u
lent_length a k u r e =
    omega (
      arith,
      length-append (take a u) (r ++ drop k (drop a u)),
      length-append r (drop k (drop a u)),
      length-append (take a u) (drop a u),
      ap length (take-append-drop a u),
      length-append (take k (drop a u)) (drop k (drop a u)),
      ap length (take-append-drop k (drop a u)),
    )

-- ---- the returns of `open`

module _ (N hidden : ℕ) (t : List ℕ) where
  pub wrong-run : (length t ≡ table_words names_per_group → ⊥) → opening N hidden t ≡ refused TableLength t
  unfolding opening
  wrong-run n = rw (ne_eqb (length t) (table_words names_per_group) n)

  module _ (long : length t ≡ table_words names_per_group) where
    pub no-nodes : N < 1 → opening N hidden t ≡ refused RosterSize t
    unfolding opening
    no-nodes l = let z : N ≡ 0 = omega arith in rw (eq-eqb (length t) (table_words names_per_group) long, eq-eqb N 0 z)

    module _ (some : 1 ≤ N) where
      one_more : eqb N 0 ≡ false
      one_more = ne_eqb N 0 (λ e. omega arith)

      pub too_many : node_limit < N → opening N hidden t ≡ refused RosterSize t
      unfolding opening
      too_many l = rw (eq-eqb (length t) (table_words names_per_group) long, one_more, lt-ltb node_limit N l)

      module _ (few : N ≤ node_limit) where
        pub stranger : beyond hidden N ≡ true → opening N hidden t ≡ refused NodeUnknown t
        unfolding opening
        stranger e = rw (eq-eqb (length t) (table_words names_per_group) long, one_more, le-ltb node_limit N few, e)

        pub accepted : beyond hidden N ≡ false
            → opening N hidden t ≡ record { answer = answer_of Ok Done; list = []; table = layout names_per_group (opened N hidden) }
        unfolding opening
        accepted e = rw (eq-eqb (length t) (table_words names_per_group) long, one_more, le-ltb node_limit N few, e)
