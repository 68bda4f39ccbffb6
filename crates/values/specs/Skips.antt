-- What stands in brackets, and the value of a pair, turn by turn. Assumes nothing.
use Rattle.std.specs.Prelude.{Result, Ok, Err, ◌≡◌, refl, Bool, true, false, List, [], ◌∷◌, ℕ, suc, ◌+◌, ◌-◌, ◌≤◌, ◌<◌, length, get_or}
use Rattle.std.proofs.Common.{sym, ap, ◌∙◌, arith, le_refl, pos_of_ne-zero, lt-ltb, le-ltb, eq-eqb, ne_eqb}
use Rattle.tokens.specs.Tokens.{behind, token_at}
use Rattle.tokens.specs.declared.Class.TheVariants.{White}
use Rattle.grammar.specs.File.{depth_limit, Here, open_list, open_tuple, ascii, Bracket, list, tuple, closing, value, first}
use Rattle.grammar.specs.Steps.{from, from_end, from-pair}
use Rattle.values.specs.Skipping.{over, reached, IsBeyond, resumed, stops_at, skip_of_number, skip_of, PassedOver, Emptied, phase_of, bracket_of, ToBracket}
use Rattle.values.specs.Items.{number_behind, number-stops, dark}
use Rattle.values.specs.Plain.{plain-goes_on, plain-beyond}
use Rattle.values.specs.Brackets.{opening_of, white-value, opening}

-- ---- what is reached

-- it stands further on from a place before
beyond-from : (at j : ℕ) (t : List ℕ) (s : Result ℕ ℕ) → at ≤ j → IsBeyond j t s → IsBeyond at t s
beyond-from at j t (Ok e) l b = (omega (arith, b.0), b.1)
beyond-from at j t (Err p) l b = (omega (arith, b.0), b.1)

-- it stands no further back
beyond-reached : (at : ℕ) (t : List ℕ) (s : Result ℕ ℕ) → IsBeyond at t s → at ≤ reached s
beyond-reached at t (Ok e) b = omega (arith, b.0)
beyond-reached at t (Err p) b = b.0

-- ---- between brackets

-- what stands in a bracket that b opens
module _ (b : ℕ) (t : List ℕ) (at depth : ℕ) (r : Result ℕ ℕ) where
  -- a list
  pub opened-list : b ≡ ascii open_list → Emptied (closing list) t at depth r → Emptied (closing (bracket_of b)) t at depth r
  opened-list e E = rw (eq-eqb b (ascii open_list) e) E

  -- a tuple
  pub opened-tuple : (b ≡ ascii open_list → ⊥) → Emptied (closing tuple) t at depth r → Emptied (closing (bracket_of b)) t at depth r
  opened-tuple e E = rw (ne_eqb b (ascii open_list) e) E

-- from behind an opening bracket that c closes to j all is skipped
pub record Between (c : ℕ) (t : List ℕ) (at depth j : ℕ) (opened : Bool) : Type 0 where
  pub goes_on : (k : Bracket) → c ≡ closing k → (h : Here) (due : List Bracket) → suc (length due) + depth ≡ depth_limit
      → from h (k ∷ due) first t at ≡ from h (k ∷ due) (phase_of opened) t j
  pub ahead : at ≤ j
  pub within : j ≤ length t

-- behind the opening bracket
pub between_none : (c : ℕ) (t : List ℕ) (at depth : ℕ) → at ≤ length t → Between c t at depth at true
between_none c t at depth l = record { goes_on = λ k q h due room. refl; ahead = le_refl at; within = l }

module _ (c : ℕ) (t : List ℕ) (at depth j : ℕ) (opened : Bool) (B : Between c t at depth j opened) (n : ℕ) (T : ToBracket c t j opened (skip_of_number n)) where
  -- no bracket follows
  pub between-stops : stops_at ≤ n → Emptied c t at depth (skip_of_number n)
  between-stops l =
      let M = rw (number-stops n l) at T in
      rw (number-stops n l)
      (record { goes_on = λ k q h due room. B.goes_on k q h due room ∙ M.goes_on k q h due; ahead = beyond-from at j t (Err (n - stops_at)) B.ahead M.ahead })

  -- n is the place behind a bracket
  module _ (l : n < stops_at) where
    -- which closes or opens
    bracket : ToBracket c t j opened (Ok n)
    bracket = rw (number_behind n l) at T

    -- n is further on, within the text
    pub between-ahead : IsBeyond j t (Ok n)
    between-ahead = bracket.ahead

    -- it is the closing one
    pub between-closed : get_or t (n - 1) 0 ≡ c → Emptied c t at depth (skip_of_number n)
    between-closed e =
        rw (number_behind n l)
        (record {
          goes_on = λ k q h due room. B.goes_on k q h due room ∙ bracket.goes_on k q h due ∙ rw (eq-eqb (get_or t (n - 1) 0) (closing k) (e ∙ q));
          ahead = beyond-from at j t (Ok n) B.ahead between-ahead;
        })

    module _ (o : get_or t (n - 1) 0 ≡ c → ⊥) where
      -- there is no room for it
      pub between-deep : depth ≡ 0 → Emptied c t at depth (Err (n - 1))
      between-deep z = record {
        goes_on = λ k q h due room.
            B.goes_on k q h due room ∙ bracket.goes_on k q h due
            ∙ rw (ne_eqb (get_or t (n - 1) 0) (closing k) (λ x. o (x ∙ sym q)), le-ltb (suc (length due)) depth_limit (omega arith));
        ahead = (omega (arith, B.ahead, between-ahead.0), omega (arith, between-ahead.1));
      }

      -- there is room for it, and x closes it
      module _ (d : depth ≡ 0 → ⊥) (x : ℕ) (u : x ≡ closing (bracket_of (get_or t (n - 1) 0))) (r : ℕ) (E : Emptied x t n (depth - 1) (skip_of_number r)) where
        -- what stands in it is skipped
        empties : (k : Bracket) → c ≡ closing k → (h : Here) (due : List Bracket) → suc (length due) + depth ≡ depth_limit
            → from h (k ∷ due) first t at ≡ resumed h (k ∷ due) t (skip_of_number r)
        empties k q h due room =
            let p = pos_of_ne-zero d in
            B.goes_on k q h due room ∙ bracket.goes_on k q h due
            ∙ rw (ne_eqb (get_or t (n - 1) 0) (closing k) (λ x. o (x ∙ sym q)), lt-ltb (suc (length due)) depth_limit (omega arith))
            (E.goes_on (bracket_of (get_or t (n - 1) 0)) u h (k ∷ due) (omega arith))

        -- it is refused
        pub between-refused : stops_at ≤ r → Emptied c t at depth (skip_of_number r)
        between-refused z = record {
          goes_on = λ k q h due room. rw (number-stops r z) (rw (number-stops r z) at (empties k q h due room));
          ahead = beyond-from at n t (skip_of_number r) (omega (arith, B.ahead, between-ahead.0)) E.ahead;
        }

        -- r is further on, within the text
        ends : r < stops_at → IsBeyond n t (Ok r)
        ends z = rw (number_behind r z) at E.ahead

        -- it ends at r, and what follows it is still to come
        pub between_more : r < stops_at → Between c t at depth r false
        between_more z = record {
          goes_on = λ k q h due room. rw (number_behind r z) at (empties k q h due room);
          ahead = omega (arith, B.ahead, between-ahead.0, (ends z).0);
          within = (ends z).1;
        }

        -- less is left
        pub between-falls : r < stops_at → length t - r < length t - j
        between-falls z = omega (arith, between-ahead.0, (ends z).0, (ends z).1)

-- ---- the value of a pair

-- i is the place behind the white space
module _ (t : List ℕ) (at i : ℕ) (here : i ≡ behind White t at) where
  -- the white space is passed
  reach : (h : Here) → from h [] value t at ≡ from h [] value t i
  reach h = white-value t h [] at ∙ ap (from h [] value t) (sym here)

  -- behind the whole value its pair ends
  pair_ends : (h : Here) (r : Result ℕ ℕ) → resumed h [] t r ≡ over h t r
  pair_ends h (Ok e) = from-pair h t e
  pair_ends h (Err p) = refl

  -- the text ends there
  pub value-cut : length t ≤ i → PassedOver t at (Err i)
  value-cut l = record { goes_on = λ h. reach h ∙ from_end t h [] value i l; ahead = omega arith }

  module _ (l : i < length t) where
    -- a bracket opens there, and what stands in it is skipped
    pub value_opens : (k : Bracket) → get_or t i 0 ≡ opening_of k → (r : Result ℕ ℕ) → Emptied (closing k) t (i + 1) (depth_limit - 1) r → PassedOver t at r
    value_opens k e r E = record {
      goes_on = λ h. reach h ∙ opening t i l (dark t at i here l) h k [] e ∙ E.goes_on k refl h [] refl ∙ pair_ends h r;
      ahead = omega (arith, beyond-reached (i + 1) t r E.ahead);
    }

    -- no bracket opens there
    pub value-plain : (get_or t i 0 ≡ ascii open_list → ⊥) → (get_or t i 0 ≡ ascii open_tuple → ⊥) → (r : Result ℕ ℕ) → r ≡ skip_of (token_at t i) → PassedOver t at r
    value-plain a b r S = record {
      goes_on = λ h.
          reach h ∙ plain-goes_on h [] t i l (dark t at i here l) a b
          ∙ ap (resumed h [] t) (sym S) ∙ pair_ends h r;
      ahead = omega (arith, beyond-reached i t r (rw S (plain-beyond t i l)));
    }
