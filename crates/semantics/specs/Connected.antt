-- A regular state stays regular when two nodes of the roster connect. Assumes nothing.
use Rattle.std.specs.Prelude.{◌≡◌, ◌≢◌, Bool, ◌&&◌, ◌||◌, cond, List, ℕ, ◌^◌, ◌<◌, eqb, length, get_or}
use Rattle.std.proofs.Math.Path.{refl, ap}
use Rattle.std.proofs.Common.{sym, ap₂, ◌∙◌, eqb-true}
use Rattle.std.proofs.Math.Bool.{true, false, or-true, and-false, and_comm}
use Rattle.std.proofs.lemmas.Bool.{false≢true}
use Rattle.std.proofs.Math.Pow.{pow-lt}
use Rattle.nodes.specs.Sets.{node_limit, has, empty, single, union}
use Rattle.nodes.proofs.SetLaws.{has-union, has-single, union-lt}
use Rattle.semantics.specs.State.{State, free_of}
use Rattle.semantics.specs.Steps.{interconnect, link, merge, connect}
use Rattle.semantics.specs.Regular.{Met, Wired, Regular, loose}
use Rattle.semantics.specs.Truth.{or_cases, unless}
use Rattle.semantics.specs.Members.{in-word, length-one_free_group}
use Rattle.semantics.specs.Groups.{every_map}
use Rattle.semantics.specs.Wires.{wired-meet}
use Rattle.semantics.specs.Merged.{wired-merge}
use Rattle.semantics.specs.FreeGroupsOfNodes.{loose_in, not-loose, free-lt, spread}
use Rattle.semantics.specs.Changed.{regular-rewired, met-still}

module _ {cap : ℕ} {st : State} (w : Regular cap st) where
  -- the nodes of m meet, with the s_groups as they are
  meeting : (m : ℕ) (free : List ℕ) → m < 2 ^ st.size → length free ≡ node_limit → Wired (loose st) (interconnect m st.links) free
      → Regular cap (record { size = st.size; hidden = st.hidden; groups = st.groups; links = interconnect m st.links; free = free })
  meeting m free h long wires =
      regular-rewired w m st.groups free h w.groups_few w.rising w.each
      (every_map (Met st.links) (Met (interconnect m st.links)) (met-still w m h) st.groups w.met) long wires

  -- a pair that is not of two loose nodes
  pub regular-link : (a b : ℕ) → a < st.size → b < st.size → loose st a && loose st b ≡ false → Regular cap (link a b st)
  regular-link a b p q z =
      let ml : union (single a) (single b) < 2 ^ st.size = union-lt st.size (single a) (single b) (pow-lt p) (pow-lt q) in
      meeting (union (single a) (single b)) st.free ml w.free_long
      (wired-meet (loose st) _ st.links st.free (in-word w.size_high ml) w.links_long tied w.wires)
    where
      one_of : (i : ℕ) → has (union (single a) (single b)) i ≡ true → eqb a i || eqb b i ≡ true
      one_of i h = sym (ap₂ (λ (x y : Bool). x || y) (has-single a i) (has-single b i)) ∙ sym (has-union (single a) (single b) i) ∙ h

      the-two : (i j : ℕ) → a ≡ i → b ≡ j → loose st i && loose st j ≡ false
      the-two i j e f = rw (← e, ← f) z

      tied : (i j : ℕ) → has (union (single a) (single b)) i ≡ true → has (union (single a) (single b)) j ≡ true → i ≢ j → loose st i && loose st j ≡ false
      tied i j hi hj n =
          or_cases (eqb a i) (eqb b i) (one_of i hi)
          (λ x. or_cases (eqb a j) (eqb b j) (one_of j hj)
          (λ y. absurd (n (sym (eqb-true a i x) ∙ eqb-true a j y)))
          (λ y. the-two i j (eqb-true a i x) (eqb-true b j y)))
          (λ x. or_cases (eqb a j) (eqb b j) (one_of j hj)
          (λ y. and_comm (loose st i) (loose st j) ∙ the-two j i (eqb-true a j y) (eqb-true b i x))
          (λ y. absurd (n (sym (eqb-true b i x) ∙ eqb-true b j y))))

  -- two free groups become one
  pub regular-merge : (a b : ℕ) → Regular cap (merge (union (free_of a st) (free_of b st)) st)
  regular-merge a b =
      let ml : union (free_of a st) (free_of b st) < 2 ^ st.size = union-lt st.size (free_of a st) (free_of b st) (free-lt w a) (free-lt w b) in
      meeting (union (free_of a st) (free_of b st)) _ ml (length-one_free_group _ st.free ∙ w.free_long)
      (wired-merge (loose st) (loose st) _ st.links st.free (in-word w.size_high ml) w.links_long w.free_long
      (λ i h. either i h (loose_in w a i) (loose_in w b i)) (λ i h. refl) closed w.wires)
    where
      either : {A : Type 0} (i : ℕ) → has (union (free_of a st) (free_of b st)) i ≡ true → (has (free_of a st) i ≡ true → A) → (has (free_of b st) i ≡ true → A) → A
      either i h = or_cases (has (free_of a st) i) (has (free_of b st) i) (sym (has-union (free_of a st) (free_of b st) i) ∙ h)

      closed : (i j : ℕ) → has (union (free_of a st) (free_of b st)) j ≡ true → has (union (free_of a st) (free_of b st)) i ≡ false → loose st i ≡ true
          → has (get_or st.links i 0) j ≡ false
      closed i j mj mi li =
          unless (has (get_or st.links i 0) j) λ l. false≢true (sym mi ∙ has-union (free_of a st) (free_of b st) i ∙ either j mj
          (λ x. ap (λ (y : Bool). y || has (free_of b st) i) (spread w a i j x li l))
          (λ x. ap (λ (y : Bool). has (free_of a st) i || y) (spread w b i j x li l) ∙ or-true (has (free_of a st) i)))

  pub regular-connect : (a b : ℕ) → a < st.size → b < st.size → Regular cap (connect a b st)
  unfolding connect
  regular-connect a b p q =
      by (eqb a b) (λ e. w) λ e.
      by (empty (free_of a st) || empty (free_of b st))
      (λ n. regular-link a b p q (or_cases (empty (free_of a st)) (empty (free_of b st)) n
      (λ x. ap (λ (y : Bool). y && loose st b) (not-loose w a x))
      (λ x. ap (λ (y : Bool). loose st a && y) (not-loose w b x) ∙ and-false (loose st a))))
      (λ n. regular-merge a b)
    where
      by : (x : Bool) {s t : State} → (x ≡ true → Regular cap s) → (x ≡ false → Regular cap t) → Regular cap (cond x s t)
      by true f g = f refl
      by false f g = g refl

-- connecting changes no roster
pub size-connect : (a b : ℕ) (st : State) → (connect a b st).size ≡ st.size
unfolding connect
size-connect a b st = go (eqb a b) (empty (free_of a st) || empty (free_of b st))
  where
    go : (x y : Bool) → (cond x st (cond y (link a b st) (merge (union (free_of a st) (free_of b st)) st))).size ≡ st.size
    go true y = refl
    go false true = refl
    go false false = refl
