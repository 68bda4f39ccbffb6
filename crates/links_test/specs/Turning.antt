-- The 64 x 64 digits of 64 words turned about their diagonal: 8 rows at a time by three rounds, each 8 columns by themselves, and then one row of each unit at a
-- time by the same rounds on 8 columns at a time. Assumes nothing.
use Rattle.std.specs.Prelude.{◌≡◌, refl, ◌⊎◌, Bool, true, ◌&&◌, List, ℕ, ◌+◌, ◌*◌, ◌/◌, ◌%◌, ◌^◌, ◌≤◌, ◌<◌, eqb, leb, length}
use Rattle.std.proofs.Common.{sym, ap, ap₂, ◌∙◌, inl, ⊎_elim, arith}
use Rattle.nodes.specs.Sets.{node_limit, has, word_at}
use Rattle.nodes.specs.Bools.{by_lt, test-ext}
use Rattle.nodes.proofs.SetLaws.{has_above, has-ext}
use Rattle.free_test.specs.WireTests.{all_below, both_ways, own_mutual}
use Rattle.free_test.specs.Below.{eqb-iff, tests}
use Rattle.links_test.specs.Exchange.{unit_rows, place, placed, Half, Exchanged}

-- so many units there are
abbrev pub units : ℕ
units = node_limit / unit_rows

-- the rows of turned from start on are those of links, turned, each 8 columns by themselves
pub record TurnedAt (start : ℕ) (links turned : List ℕ) : Type 0 where
  pub at : (k c : ℕ) → k < unit_rows → c < node_limit
      → has (word_at turned (start + k)) c ≡ has (word_at links (start + c % unit_rows)) (c / unit_rows * unit_rows + k)

-- k words from start on are those of f, and the others are as before
pub record Copied (start k : ℕ) (f : ℕ → ℕ) (before after : List ℕ) : Type 0 where
  pub long : length after ≡ length before
  pub here : (i : ℕ) → i < k → word_at after (start + i) ≡ f i
  pub rest : (i : ℕ) → (i < start) ⊎ (start + k ≤ i) → word_at after i ≡ word_at before i

-- one unit is turned, and the other rows are as before
pub record UnitTurned (start : ℕ) (links before after : List ℕ) : Type 0 where
  pub long : length after ≡ length before
  pub here : TurnedAt start links after
  pub rest : (i : ℕ) → (i < start) ⊎ (start + unit_rows ≤ i) → word_at after i ≡ word_at before i

-- the first n units are turned
abbrev pub TurnedBelow : ℕ → List ℕ → List ℕ → Type 0
TurnedBelow n links turned = (u : ℕ) → u < n → TurnedAt (unit_rows * u) links turned

-- the connections of the nodes k, 8 + k, 16 + k and so on are mutual
abbrev pub units_mutual : List ℕ → ℕ → Bool
units_mutual links k = all_below units (λ u. all_below node_limit (both_ways links (unit_rows * u + k)))

-- ---- the rounds, on columns by themselves or 8 at a time

-- where row r and column c stood before the rounds at the places from a to 4, on w columns at a time
abbrev row_before : ℕ → ℕ → ℕ → ℕ → ℕ
row_before w a r c = c / w % unit_rows / a * a + r % a

abbrev col_before : ℕ → ℕ → ℕ → ℕ → ℕ
col_before w a r c = (c / w / unit_rows * unit_rows + r / a * a + c / w % a) * w + c % w

-- those rounds are done
pub record Turned (w a : ℕ) (from to : List ℕ) : Type 0 where
  pub at : (r c : ℕ) → r < unit_rows → c < node_limit → has (word_at to r) c ≡ has (word_at from (row_before w a r c)) (col_before w a r c)

-- before the first of them, for row r and column c
abbrev stays : ℕ → ℕ → ℕ → Bool
stays w r c = eqb r (row_before w unit_rows r c) && eqb c (col_before w unit_rows r c)

-- the round at a is one more, for row r and column c
abbrev follows : ℕ → ℕ → ℕ → ℕ → Bool
follows w a r c =
    let row = placed r a (place c (w * a)) in
    let col = placed c (w * a) (place r a) in
    leb (row + 1) unit_rows && leb (col + 1) node_limit
    && eqb (row_before w (2 * a) row col) (row_before w a r c) && eqb (col_before w (2 * a) row col) (col_before w a r c)

turned_none : (w : ℕ) (ws : List ℕ) → all_below unit_rows (λ r. all_below node_limit (stays w r)) ≡ true → Turned w unit_rows ws ws
turned_none w ws all = record {
  at = λ r c lr lc.
      let h = simp (tests, eqb-iff) at all in
      let s = h r lr c lc in
      ap₂ (λ (i n : ℕ). has (word_at ws i) n) s.0 s.1;
}

turned_more : (w a : ℕ) (ws xs ys : List ℕ) → all_below unit_rows (λ r. all_below node_limit (follows w a r)) ≡ true
    → Turned w (2 * a) ws xs → Exchanged a (w * a) xs ys → Turned w a ws ys
turned_more w a ws xs ys all t x = record {
  at = λ r c lr lc.
      let h = simp (tests, eqb-iff) at all in
      let s = h r lr c lc in
      x.at r c lr lc
      ∙ t.at (placed r a (place c (w * a))) (placed c (w * a) (place r a)) (omega arith) (omega arith)
      ∙ ap₂ (λ (i n : ℕ). has (word_at ws i) n) s.0.1 s.1;
}

-- the three rounds, on columns by themselves
pub turned-alone : (b₀ b₁ b₂ b₃ : List ℕ) → Exchanged 4 4 b₀ b₁ → Exchanged 2 2 b₁ b₂ → Exchanged 1 1 b₂ b₃ → Turned 1 1 b₀ b₃
unfolding all_below
turned-alone b₀ b₁ b₂ b₃ x₁ x₂ x₃ =
    turned_more 1 1 b₀ b₂ b₃ refl (turned_more 1 2 b₀ b₁ b₂ refl (turned_more 1 4 b₀ b₀ b₁ refl (turned_none 1 b₀ refl) x₁) x₂) x₃

-- and on 8 columns at a time
pub turned-wide : (b₀ b₁ b₂ b₃ : List ℕ) → Exchanged 4 32 b₀ b₁ → Exchanged 2 16 b₁ b₂ → Exchanged 1 8 b₂ b₃ → Turned unit_rows 1 b₀ b₃
unfolding all_below
turned-wide b₀ b₁ b₂ b₃ x₁ x₂ x₃ =
    turned_more unit_rows 1 b₀ b₂ b₃ refl (turned_more unit_rows 2 b₀ b₁ b₂ refl (turned_more unit_rows 4 b₀ b₀ b₁ refl (turned_none unit_rows b₀ refl) x₁) x₂) x₃

-- the rounds of a unit, from words that were copied and back
pub unit-turned : (start : ℕ) (links zeros rows done before after : List ℕ) → Copied 0 unit_rows (λ i. word_at links (start + i)) zeros rows
    → Turned 1 1 rows done → Copied start unit_rows (word_at done) before after → UnitTurned start links before after
unit-turned start links zeros rows done before after from all to = record {
  long = to.long;
  here = record {
    at = λ k c lk lc.
        let row : row_before 1 1 k c ≡ 0 + c % unit_rows = omega arith in
        let col : col_before 1 1 k c ≡ c / unit_rows * unit_rows + k = omega arith in
        ap (λ (w : ℕ). has w c) (to.here k lk) ∙ all.at k c lk lc ∙ ap₂ (λ (i n : ℕ). has (word_at rows i) n) row col
        ∙ ap (λ (w : ℕ). has w (c / unit_rows * unit_rows + k)) (from.here (c % unit_rows) (omega arith));
  };
  rest = to.rest;
}

-- the masks of the rounds

pub half-1 : Half 1 0x5555_5555_5555_5555
unfolding all_below
half-1 = record { some = omega arith; few = omega arith; low = refl }

pub half-2 : Half 2 0x3333_3333_3333_3333
unfolding all_below
half-2 = record { some = omega arith; few = omega arith; low = refl }

pub half-4 : Half 4 0x0f0f_0f0f_0f0f_0f0f
unfolding all_below
half-4 = record { some = omega arith; few = omega arith; low = refl }

pub half-8 : Half 8 0x00ff_00ff_00ff_00ff
unfolding all_below
half-8 = record { some = omega arith; few = omega arith; low = refl }

pub half-16 : Half 16 0x0000_ffff_0000_ffff
unfolding all_below
half-16 = record { some = omega arith; few = omega arith; low = refl }

pub half-32 : Half 32 0x0000_0000_ffff_ffff
unfolding all_below
half-32 = record { some = omega arith; few = omega arith; low = refl }

-- ---- the words compared with their columns

-- a word that is the column i is the word i where the connections of i are mutual
same-column : (links : List ℕ) (v i : ℕ) → word_at links i < 2 ^ node_limit → v < 2 ^ node_limit
    → ((c : ℕ) → c < node_limit → has v c ≡ has (word_at links c) i)
    → eqb v (word_at links i) ≡ all_below node_limit (both_ways links i)
same-column links v i small fits column =
    test-ext (eqb v (word_at links i)) (all_below node_limit (both_ways links i))
    (λ e. let h = simp eqb-iff at e in simp tests (λ c lc. ap (λ (w : ℕ). has w c) (sym h) ∙ column c lc))
    (λ e. let h = simp tests at e in
    simp eqb-iff (has-ext v (word_at links i) (λ c.
    ⊎_elim (λ lc. column c lc ∙ sym (h c lc))
    (λ ge. has_above v node_limit c fits ge ∙ sym (has_above (word_at links i) node_limit c small ge))
    (by_lt c node_limit))))

-- of the turned units, the rows k are taken and turned on 8 columns at a time
module _ (links turned zeros rows done : List ℕ) (k : ℕ) (lk : k < unit_rows) (t : TurnedBelow units links turned)
    (from : Copied 0 units (λ u. word_at turned (unit_rows * u + k)) zeros rows) (all : Turned unit_rows 1 rows done) where
  -- row u is then the column of its node
  column : (u c : ℕ) → u < units → c < node_limit → has (word_at done u) c ≡ has (word_at links c) (unit_rows * u + k)
  column u c lu lc =
      let b = c / unit_rows in
      let col = unit_rows * u + c % unit_rows in
      let row : row_before unit_rows 1 u c ≡ 0 + b = omega arith in
      let wide : col_before unit_rows 1 u c ≡ col = omega arith in
      let node : unit_rows * b + col % unit_rows ≡ c = omega arith in
      let own : col / unit_rows * unit_rows + k ≡ unit_rows * u + k = omega arith in
      all.at u c lu lc ∙ ap₂ (λ (i n : ℕ). has (word_at rows i) n) row wide ∙ ap (λ (w : ℕ). has w col) (from.here b (omega arith))
      ∙ (t b (omega arith)).at k col lk (omega arith) ∙ ap₂ (λ (i n : ℕ). has (word_at links i) n) node own

  -- and its word, where its connections are mutual
  pub same_row : (u : ℕ) → u < units → word_at links (unit_rows * u + k) < 2 ^ node_limit → word_at done u < 2 ^ node_limit
      → eqb (word_at done u) (word_at links (unit_rows * u + k)) ≡ all_below node_limit (both_ways links (unit_rows * u + k))
  same_row u lu small fits = same-column links (word_at done u) (unit_rows * u + k) small fits (λ c lc. column u c lu lc)

-- all 64 nodes are mutual where those of each row of the units are
pub all-units : (links : List ℕ) → all_below unit_rows (units_mutual links) ≡ own_mutual links node_limit
all-units links =
    test-ext (all_below unit_rows (units_mutual links)) (own_mutual links node_limit)
    (λ e. let h = simp tests at e in
    simp tests (λ i l j m.
    let own : unit_rows * (i / unit_rows) + i % unit_rows ≡ i = omega arith in
    rw own at (h (i % unit_rows) (omega arith) (i / unit_rows) (omega arith) j m)))
    (λ e. let h = simp tests at e in simp tests (λ k l u m j n. h (unit_rows * u + k) (omega arith) j n))

-- ---- one unit more

pub one-turned : (n : ℕ) (links before after : List ℕ) → TurnedBelow n links before → UnitTurned (unit_rows * n) links before after
    → TurnedBelow (n + 1) links after
one-turned n links before after was more u l =
    ⊎_elim (λ lt. record {
      at = λ k c lk lc. ap (λ (w : ℕ). has w c) (more.rest (unit_rows * u + k) (inl (omega arith))) ∙ (was u lt).at k c lk lc;
    })
    (λ ge.
    let e : u ≡ n = omega arith in
    rw e more.here)
    (by_lt u n)
