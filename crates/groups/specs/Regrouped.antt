-- An s_group put into its place, taken out, and given other members: the sections of the table. Assumes nothing.
use Rattle.std.specs.Prelude.{◌≡◌, refl, ℕ, zero, suc, ◌+◌, ◌-◌, ◌*◌, ◌≤◌, ◌<◌, get_or, set, replicate}
use Rattle.std.proofs.Common.{sym, ap, ◌∙◌, add-zero, arith, lit<}
use mathlib.Core.List.{List, [], ◌∷◌, ◌++◌, map, map-append}
use Rattle.std.proofs.Math.ListN.{length, length-append}
use Rattle.std.proofs.lemmas.List.{length-map}
use Rattle.entries.specs.Entries.{words}
use Rattle.semantics.specs.Sizes.{group_limit, members_at, names_per_group}
use Rattle.semantics.specs.State.{Group, State, with_groups}
use Rattle.semantics.specs.Table.{pad, contents, bodies, cat, sections}
use Rattle.semantics.specs.Bodies.{bodies-append}
use Rattle.semantics.specs.Sections.{Run, store}
use Rattle.semantics.specs.WordsOfState.{sizes, Sized, Laid, sizes-of, count-is}
use Rattle.groups.specs.Shifted.{stored-pad}
use Rattle.groups.specs.Grouped.{fresh, manned}

-- the members of s_groups
abbrev pub mems : List Group → List ℕ
mems gs = map (λ g. g.members) gs

pub length-mems : (gs : List Group) → length (mems gs) ≡ length gs
length-mems gs = length-map {A = Group} {B = ℕ} gs (λ g. g.members)

pub mems-append : (a b : List Group) → mems (a ++ b) ≡ mems a ++ mems b
mems-append a b = map-append (λ g. g.members) a b

-- no names are zeros
words_none : (cap : ℕ) → words cap [] ≡ replicate cap 0
unfolding words
words_none zero = refl
words_none (suc cap) = ap (λ (r : List ℕ). 0 ∷ r) (words_none cap)

-- a table of other s_groups, from its sections
relaid : {cap : ℕ} {st : State} {t : List ℕ} → Laid cap st t → (gs : List Group) → length gs ≤ group_limit → (u c m b : List ℕ) (n : ℕ)
    → Run (sizes cap) ((st.size ∷ st.hidden ∷ n ∷ 0 ∷ []) ∷ c ∷ m ∷ st.links ∷ st.free ∷ b ∷ []) u
    → n ≡ length gs → c ≡ pad group_limit (map contents gs) → m ≡ pad group_limit (mems gs) → b ≡ pad (group_limit * cap) (bodies cap gs)
    → Laid cap (with_groups gs st) u
unfolding sections
relaid {cap} {st} l gs few u c m b n r en ec em eb =
    let z : Sized (with_groups gs st) = record { groups_few = few; links_long = l.sized.links_long; free_long = l.sized.free_long } in
    record {
      sized = z;
      run = record {
        sizes = sizes-of cap (with_groups gs st) z;
        is = r.is ∙ (λ i. cat ((st.size ∷ st.hidden ∷ en i ∷ 0 ∷ []) ∷ ec i ∷ em i ∷ st.links ∷ st.free ∷ eb i ∷ []));
      };
    }

module _ {st : State} {t : List ℕ} (l : Laid names_per_group st t) (a b : List Group) (at : ℕ) (stands : length a ≡ at) where
  module _ (is : st.groups ≡ a ++ b) (s m : ℕ) (room : get_or t 2 0 < group_limit) where
    many : at + length b ≡ get_or t 2 0
    many = omega (arith, count-is l, ap length is, length-append a b)

    pub inserted : (u : List ℕ)
        → Run (sizes names_per_group) ((st.size ∷ st.hidden ∷ (get_or t 2 0 + 1) ∷ 0 ∷ []) ∷ pad group_limit (map contents a ++ s ∷ map contents b)
        ∷ pad group_limit (mems a ++ m ∷ mems b) ∷ st.links ∷ st.free
        ∷ pad (group_limit * names_per_group) (bodies names_per_group a ++ (replicate names_per_group 0 ++ bodies names_per_group b)) ∷ []) u
        → Laid names_per_group (with_groups (a ++ fresh s m ∷ b) st) u
    inserted u r =
        relaid l (a ++ fresh s m ∷ b) (omega (arith, length-append a (fresh s m ∷ b), many)) u _ _ _ _ r
        (omega (arith, length-append a (fresh s m ∷ b), many))
        (rw (map-append contents a (fresh s m ∷ b), add-zero s))
        (rw (mems-append a (fresh s m ∷ b)))
        (rw (bodies-append names_per_group a (fresh s m ∷ b), words_none names_per_group))

  module _ (g : Group) (is : st.groups ≡ a ++ g ∷ b) where
    many-out : at + 1 + length b ≡ get_or t 2 0
    many-out = omega (arith, count-is l, ap length is, length-append a (g ∷ b))

    few : get_or t 2 0 ≤ group_limit
    few = omega (arith, count-is l, l.sized.groups_few)

    pub deleted : (u : List ℕ)
        → Run (sizes names_per_group) ((st.size ∷ st.hidden ∷ (get_or t 2 0 - 1) ∷ 0 ∷ []) ∷ pad group_limit (map contents a ++ map contents b)
        ∷ pad group_limit (mems a ++ mems b) ∷ st.links ∷ st.free ∷ pad (group_limit * names_per_group) (bodies names_per_group a ++ bodies names_per_group b) ∷ []) u
        → Laid names_per_group (with_groups (a ++ b) st) u
    deleted u r =
        relaid l (a ++ b) (omega (arith, length-append a b, many-out, few)) u _ _ _ _ r
        (omega (arith, length-append a b, many-out))
        (rw (map-append contents a b))
        (rw (mems-append a b))
        (rw (bodies-append names_per_group a b))

    -- the word of its members stored
    pub remanned : (m : ℕ) → Laid names_per_group (with_groups (a ++ manned m g ∷ b) st) (set t (members_at + at) m)
    unfolding sections
    remanned m =
        let n : length (a ++ manned m g ∷ b) ≡ length st.groups = omega (arith, many-out, count-is l, length-append a (manned m g ∷ b)) in
        relaid l (a ++ manned m g ∷ b) (omega (arith, few, count-is l)) _ _ _ _ _ (store l.run 2 (lit< tt) at m (omega (arith, many-out, few)))
        (sym n)
        (rw (is, map-append contents a (g ∷ b)) (ap (pad group_limit) (sym (map-append contents a (manned m g ∷ b)))))
        (rw (is, mems-append a (g ∷ b), mems-append a (manned m g ∷ b)) (stored-pad group_limit (mems a) g.members (mems b) m at (length-mems a ∙ stands)))
        (rw (is, bodies-append names_per_group a (g ∷ b)) (ap (pad (group_limit * names_per_group)) (sym (bodies-append names_per_group a (manned m g ∷ b)))))
