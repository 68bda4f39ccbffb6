-- A table as sections: what it is for the words to be those of a state, how each part is read, and sections lent and put back. Assumes nothing.
use Rattle.std.specs.Prelude.{◌≡◌, refl, ℕ, ◌+◌, ◌*◌, ◌≤◌, ◌<◌, length, get_or, take, drop}
use Rattle.std.proofs.Common.{ap, ◌∙◌, mul_comm, mul-le-mul_left, arith, lit<}
use Rattle.std.proofs.Math.Path.{subst}
use mathlib.Core.List.{List, [], ◌∷◌, ◌++◌, map}
use Rattle.std.proofs.Math.ListN.{set}
use Rattle.std.proofs.lemmas.List.{length-map}
use Rattle.nodes.specs.Sets.{node_limit}
use Rattle.semantics.specs.Sizes.{group_limit, contents_at, members_at, links_at, free_at, bodies_at, table_words}
use Rattle.semantics.specs.State.{Group, State, with_groups, with_links, with_free}
use Rattle.semantics.specs.Table.{pad, contents, bodies, sections, layout}
use Rattle.semantics.specs.Soundness.{size_of, hidden_of, count_of, contents_of, members_of, links_of, free_of}
use Rattle.semantics.specs.Padding.{length-pad, getD-pad}
use Rattle.semantics.specs.Bodies.{length-bodies}
use Rattle.semantics.specs.Sections.{Sizes, Run, run_length, read, word_read, lend}

-- how many words each section has
abbrev pub sizes : ℕ → List ℕ
sizes cap = contents_at ∷ group_limit ∷ group_limit ∷ node_limit ∷ node_limit ∷ group_limit * cap ∷ []

-- the lists of the state fit their sections
pub record Sized (st : State) : Type 0 where
  pub groups_few : length st.groups ≤ group_limit
  pub links_long : length st.links ≡ node_limit
  pub free_long : length st.free ≡ node_limit

-- the words t are those of the state, with cap names an s_group
pub record Laid (cap : ℕ) (st : State) (t : List ℕ) : Type 0 where
  pub sized : Sized st
  pub run : Run (sizes cap) (sections cap st) t

pub sizes-of : (cap : ℕ) (st : State) → Sized st → Sizes (sizes cap) (sections cap st)
unfolding sections
sizes-of cap st h = (
  refl,
  (
    length-pad group_limit (map contents st.groups) (omega (arith, length-map st.groups contents, h.groups_few)),
    (
      length-pad group_limit (map (λ g. g.members) st.groups) (omega (arith, length-map {A = Group} {B = ℕ} st.groups (λ g. g.members), h.groups_few)),
      (h.links_long, (h.free_long, (length-pad (group_limit * cap) (bodies cap st.groups) few_words, refl))),
    ),
  ),
)
  where
    few_words : length (bodies cap st.groups) ≤ group_limit * cap
    few_words = omega (arith, length-bodies cap st.groups, mul_comm group_limit cap, mul-le-mul_left cap h.groups_few)

pub laid : (cap : ℕ) (st : State) → Sized st → Laid cap st (layout cap st)
unfolding layout
laid cap st h = record { sized = h; run = record { sizes = sizes-of cap st h; is = refl } }

pub words_of : {cap : ℕ} {st : State} {t : List ℕ} → Laid cap st t → t ≡ layout cap st
unfolding layout
words_of l = l.run.is

module _ {cap : ℕ} {st : State} {t : List ℕ} (l : Laid cap st t) where
  pub length-of : length t ≡ table_words cap
  length-of = omega (arith, run_length l.run)

  -- ---- the head

  pub size_is : size_of t ≡ st.size
  unfolding sections
  size_is = word_read l.run 0 (lit< tt) 0 (lit< tt)

  pub hidden-is : hidden_of t ≡ st.hidden
  unfolding sections
  hidden-is = word_read l.run 0 (lit< tt) 1 (lit< tt)

  pub count-is : count_of t ≡ length st.groups
  unfolding sections
  count-is = word_read l.run 0 (lit< tt) 2 (lit< tt)

  pub spare-is : get_or t 3 0 ≡ 0
  unfolding sections
  spare-is = word_read l.run 0 (lit< tt) 3 (lit< tt)

  -- ---- one word

  pub contents-word : (g : ℕ) → g < group_limit → contents_of t g ≡ get_or (map contents st.groups) g 0
  unfolding sections
  contents-word g h = word_read l.run 1 (lit< tt) g h ∙ getD-pad group_limit (map contents st.groups) g

  pub members-word : (g : ℕ) → g < group_limit → members_of t g ≡ get_or (map (λ x. x.members) st.groups) g 0
  unfolding sections
  members-word g h = word_read l.run 2 (lit< tt) g h ∙ getD-pad group_limit (map (λ x. x.members) st.groups) g

  pub links-word : (i : ℕ) → i < node_limit → links_of t i ≡ get_or st.links i 0
  unfolding sections
  links-word i h = word_read l.run 3 (lit< tt) i h

  pub free-word : (i : ℕ) → i < node_limit → free_of t i ≡ get_or st.free i 0
  unfolding sections
  free-word i h = word_read l.run 4 (lit< tt) i h

  pub body-word : (k : ℕ) → k < group_limit * cap → get_or t (bodies_at + k) 0 ≡ get_or (bodies cap st.groups) k 0
  unfolding sections
  body-word k h = word_read l.run 5 (lit< tt) k h ∙ getD-pad (group_limit * cap) (bodies cap st.groups) k

  -- ---- a section read

  pub contents-are : take group_limit (drop contents_at t) ≡ pad group_limit (map contents st.groups)
  unfolding sections
  contents-are = read l.run 1 (lit< tt)

  pub members-are : take group_limit (drop members_at t) ≡ pad group_limit (map (λ g. g.members) st.groups)
  unfolding sections
  members-are = read l.run 2 (lit< tt)

  pub links-are : take node_limit (drop links_at t) ≡ st.links
  unfolding sections
  links-are = read l.run 3 (lit< tt)

  pub free-are : take node_limit (drop free_at t) ≡ st.free
  unfolding sections
  free-are = read l.run 4 (lit< tt)

  -- ---- a section lent, and r put back

  pub links-lent : (r : List ℕ) → length r ≡ node_limit → Laid cap (with_links r st) (take links_at t ++ (r ++ drop node_limit (drop links_at t)))
  unfolding sections
  links-lent r e = record {
    sized = record { groups_few = l.sized.groups_few; links_long = e; free_long = l.sized.free_long };
    run = lend l.run 3 (lit< tt) r e;
  }

  pub free-lent : (r : List ℕ) → length r ≡ node_limit → Laid cap (with_free r st) (take free_at t ++ (r ++ drop node_limit (drop free_at t)))
  unfolding sections
  free-lent r e = record {
    sized = record { groups_few = l.sized.groups_few; links_long = l.sized.links_long; free_long = e };
    run = lend l.run 4 (lit< tt) r e;
  }

  -- ---- a section lent to a callee that kept its length and left f of it

  pub links-put : (f : List ℕ → List ℕ) (r : List ℕ) → length r ≡ length (take node_limit (drop links_at t)) → r ≡ f (take node_limit (drop links_at t))
      → Laid cap (with_links (f st.links) st) (take links_at t ++ (r ++ drop node_limit (drop links_at t)))
  links-put f r k e = rw (← links-are, ← e) (links-lent r (k ∙ ap length links-are ∙ l.sized.links_long))

  pub free-put : (f : List ℕ → List ℕ) (r : List ℕ) → length r ≡ length (take node_limit (drop free_at t)) → r ≡ f (take node_limit (drop free_at t))
      → Laid cap (with_free (f st.free) st) (take free_at t ++ (r ++ drop node_limit (drop free_at t)))
  free-put f r k e = rw (← free-are, ← e) (free-lent r (k ∙ ap length free-are ∙ l.sized.free_long))

  -- ---- other s_groups: their number, contents words, members and bodies stand in a run u of the other words of t

  pub relaid : (gs : List Group) → length gs ≤ group_limit → {n : ℕ} {c m b u : List ℕ} → n ≡ length gs → c ≡ pad group_limit (map contents gs)
      → m ≡ pad group_limit (map (λ g. g.members) gs) → b ≡ pad (group_limit * cap) (bodies cap gs)
      → Run (sizes cap) (set (set (set (set (sections cap st) 0 (st.size ∷ st.hidden ∷ n ∷ 0 ∷ [])) 1 c) 2 m) 5 b) u → Laid cap (with_groups gs st) u
  unfolding sections
  relaid gs few {u = u} en ec em eb r = record {
    sized = record { groups_few = few; links_long = l.sized.links_long; free_long = l.sized.free_long };
    run = subst (λ (xs : List (List ℕ)). Run (sizes cap) xs u) (λ i. set (set (set (set (sections cap st) 0 (st.size ∷ st.hidden ∷ en i ∷ 0 ∷ [])) 1 (ec i)) 2 (em i)) 5 (eb i)) r;
  }
