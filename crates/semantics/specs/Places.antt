-- S_groups by their place in the list: the contents word and the members of each, and what holds of each and of each two. Assumes nothing.
use Rattle.std.specs.Prelude.{◌≡◌, refl, ◌↔◌, List, [], ◌∷◌, ◌++◌, map, ℕ, zero, suc, ◌/◌, ◌%◌, ◌<◌, length, get_or}
use Rattle.std.proofs.Common.{ap, ◌∙◌, not-suc-le-zero, arith}
use Rattle.std.proofs.lemmas.List.{get_or_at}
use Rattle.semantics.specs.Sizes.{group_names}
use Rattle.semantics.specs.State.{Group}
use Rattle.semantics.specs.Table.{contents}
use Rattle.semantics.specs.Regular.{Every, Rising}

-- what stands past the end of the s_groups: all its words are zero
abbrev pub no_group : Group
no_group = record { name = 0; members = 0; names = [] }

-- the s_group at place i
abbrev pub group_at : List Group → ℕ → Group
group_at gs i = get_or gs i no_group

pub group-between : (gs a : List Group) (g : Group) (b : List Group) (i : ℕ) → gs ≡ a ++ g ∷ b → length a ≡ i → group_at gs i ≡ g
group-between gs a g b i is stands = ap (λ (hs : List Group). group_at hs i) is ∙ get_or_at a g b no_group i stands

pub contents_at-place : (gs : List Group) (i : ℕ) → get_or (map contents gs) i 0 ≡ contents (group_at gs i)
contents_at-place [] i = refl
contents_at-place (g ∷ gs) zero = refl
contents_at-place (g ∷ gs) (suc i) = contents_at-place gs i

pub members_at-place : (gs : List Group) (i : ℕ) → get_or (map (λ g. g.members) gs) i 0 ≡ (group_at gs i).members
members_at-place [] i = refl
members_at-place (g ∷ gs) zero = refl
members_at-place (g ∷ gs) (suc i) = members_at-place gs i

pub contents-name : (g : Group) → g.name < group_names → contents g % group_names ≡ g.name
contents-name g h = omega arith

pub contents-count : (g : Group) → g.name < group_names → contents g / group_names ≡ length g.names
contents-count g h = omega arith

-- ---- each place

-- what holds of the first place and of each after it
pub each-place : (n : ℕ) (P : ℕ → Type 0) → P 0 → ((i : ℕ) → i < n → P (suc i)) → (i : ℕ) → i < suc n → P i
each-place n P z s zero l = z
each-place n P z s (suc i) l = s i (omega arith)

-- what holds of the first place with each after it, and of each two after it
pub each-pair : (n : ℕ) (P : ℕ → ℕ → Type 0) → ((j : ℕ) → j < n → P 0 (suc j)) → ((i j : ℕ) → i < j → j < n → P (suc i) (suc j))
    → (i j : ℕ) → i < j → j < suc n → P i j
each-pair n P z s i zero d l = absurd (not-suc-le-zero d)
each-pair n P z s zero (suc j) d l = z j (omega arith)
each-pair n P z s (suc i) (suc j) d l = s i j (omega arith) (omega arith)

-- ---- s_groups

pub every-iff : (P : Group → Type 0) (gs : List Group) → Every P gs ↔ ((i : ℕ) → i < length gs → P (group_at gs i))
every-iff P [] = (λ h i l. absurd (not-suc-le-zero l), λ h. tt)
every-iff P (g ∷ gs) = (
  λ h. each-place (length gs) (λ i. P (group_at (g ∷ gs) i)) h.0 ((every-iff P gs).0 h.1),
  λ h. (h 0 (omega arith), (every-iff P gs).1 (λ i l. h (suc i) (omega arith))),
)

-- the names are above b, and each is below those after it
pub record Ordered (b : ℕ) (gs : List Group) : Type 0 where
  pub above : (i : ℕ) → i < length gs → b < (group_at gs i).name
  pub upward : (i j : ℕ) → i < j → j < length gs → (group_at gs i).name < (group_at gs j).name

pub rising-iff : (b : ℕ) (gs : List Group) → Rising b gs ↔ Ordered b gs
rising-iff b [] = (λ h. record { above = λ i l. absurd (not-suc-le-zero l); upward = λ i j d l. absurd (not-suc-le-zero l) }, λ h. tt)
rising-iff b (g ∷ gs) = (
  λ h.
      let r : Ordered g.name gs = (rising-iff g.name gs).0 h.1 in
      record {
        above = each-place (length gs) (λ i. b < (group_at (g ∷ gs) i).name) h.0 (λ i l. omega (arith, h.0, r.above i l));
        upward = each-pair (length gs) (λ i j. (group_at (g ∷ gs) i).name < (group_at (g ∷ gs) j).name) r.above r.upward;
      },
  λ h. (
    h.above 0 (omega arith),
    (rising-iff g.name gs).1 (record {
      above = λ i l. h.upward 0 (suc i) (omega arith) (omega arith);
      upward = λ i j d l. h.upward (suc i) (suc j) (omega arith) (omega arith);
    }),
  ),
)
