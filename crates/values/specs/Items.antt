-- Items between brackets, turn by turn, up to the next bracket. Assumes nothing.
use Rattle.std.specs.Prelude.{Result, Ok, Err, ◌≡◌, refl, Bool, true, false, List, ◌∷◌, ℕ, ◌+◌, ◌-◌, ◌≤◌, ◌<◌, length, get_or}
use Rattle.std.proofs.Common.{sym, ap, ◌∙◌, arith, le_refl, lt-ltb, le-ltb, eq-eqb, ne_eqb}
use Rattle.tokens.specs.Bytes.{white}
use Rattle.tokens.specs.Tokens.{behind, token_at}
use Rattle.tokens.specs.Within.{run-within, run-stops}
use Rattle.tokens.specs.declared.Class.TheVariants.{White}
use Rattle.grammar.specs.File.{Here, comma, open_list, open_tuple, ascii, Bracket, list, tuple, closing, value, first, after}
use Rattle.grammar.specs.Steps.{from, from_end}
use Rattle.values.specs.Skipping.{IsBeyond, resumed, stops_at, skip_of_number, skip_of, phase_of, NextItem, bracket_of, ToBracket}
use Rattle.values.specs.Plain.{plain-goes_on, plain-beyond}
use Rattle.values.specs.Brackets.{opening_of, white-value, white-first, white-after, opening, no_value, closed, another, no-separator, begun-with}

-- ---- answers as numbers

-- a place behind what is skipped
pub number_behind : (r : ℕ) → r < stops_at → skip_of_number r ≡ Ok r
unfolding skip_of_number
number_behind r l = rw (lt-ltb r stops_at l)

-- a number that stands for a stop
pub number-stops : (r : ℕ) → stops_at ≤ r → skip_of_number r ≡ Err (r - stops_at)
unfolding skip_of_number
number-stops r l = rw (le-ltb r stops_at l)

-- ---- an atom or a number

module _ (t : List ℕ) (short : length t < stops_at) (at : ℕ) (l : at < length t) where
  -- it ends at n
  pub plain-behind : (n : ℕ) → skip_of (token_at t at) ≡ Ok n → skip_of_number n ≡ skip_of (token_at t at)
  plain-behind n e = let g = rw e at (plain-beyond t at l) in number_behind n (omega (arith, g.1)) ∙ sym e

  -- where there is neither, a number stands for the stop
  pub plain-stops : (p : ℕ) → skip_of (token_at t at) ≡ Err p → p < stops_at
  plain-stops p e = let g = rw e at (plain-beyond t at l) in omega (arith, g.1)

-- ---- the next item

-- i is the place behind the white space
module _ (t : List ℕ) (at i : ℕ) (here : i ≡ behind White t at) where
  -- it stands within the text
  pub white-within : at ≤ length t → i ≤ length t
  white-within w = rw here (run-within White t at w)

  -- the byte there is no white space
  pub dark : i < length t → white (get_or t i 0) ≡ false
  dark l = rw (← here) at (run-stops White t at (rw (← here) l))

  module _ (c : ℕ) (opened : Bool) where
    -- the white space is passed
    arrive : (b : Bool) (h : Here) (due : List Bracket) → from h due (phase_of b) t at ≡ from h due (phase_of b) t i
    arrive true h due = white-first t h due at ∙ ap (from h due first t) (sym here)
    arrive false h due = white-after t h due at ∙ ap (from h due after t) (sym here)

    -- the text ends there
    pub next-cut : at ≤ length t → length t ≤ i → NextItem c t at opened (Err i)
    next-cut w l = record { goes_on = λ k q h due. arrive opened h (k ∷ due) ∙ from_end t h (k ∷ due) (phase_of opened) i l; ahead = (omega arith, white-within w) }

    module _ (l : i < length t) where
      -- no item stands before
      pub next-first : length t < stops_at → opened ≡ true → NextItem c t at opened (skip_of_number i)
      next-first short f =
          rw (f, number_behind i (omega arith))
          (record { goes_on = λ k q h due. arrive true h (k ∷ due) ∙ begun-with t i l (dark l) h k due; ahead = (omega arith, l, dark l) })

      -- an item stands before
      module _ (f : opened ≡ false) where
        -- the closing bracket stands there
        pub next-closed : length t < stops_at → get_or t i 0 ≡ c → NextItem c t at opened (skip_of_number i)
        next-closed short e =
            rw (f, number_behind i (omega arith))
            (record {
              goes_on = λ k q h due. arrive false h (k ∷ due) ∙ closed t i l (dark l) h k due (e ∙ q) ∙ rw (eq-eqb (get_or t i 0) (closing k) (e ∙ q));
              ahead = (omega arith, l, dark l);
            })

        module _ (n : get_or t i 0 ≡ c → ⊥) where
          -- no comma stands there
          pub next-none : (get_or t i 0 ≡ ascii comma → ⊥) → NextItem c t at opened (Err i)
          next-none e =
              rw f
              (record {
                goes_on = λ k q h due. arrive false h (k ∷ due) ∙ no-separator t i l (dark l) h k due (λ z. n (z ∙ sym q)) e;
                ahead = (omega arith, omega arith);
              })

          -- a comma stands there, and m is the place behind the white space behind it
          module _ (e : get_or t i 0 ≡ ascii comma) (m : ℕ) (there : m ≡ behind White t (i + 1)) where
            -- both are passed
            come : (k : Bracket) → c ≡ closing k → (h : Here) (due : List Bracket) → from h (k ∷ due) (phase_of opened) t at ≡ from h (k ∷ due) value t m
            come k q h due =
                rw f
                (arrive false h (k ∷ due) ∙ another t i l (dark l) h k due (λ z. n (z ∙ sym q)) e
                ∙ white-value t h (k ∷ due) (i + 1) ∙ ap (from h (k ∷ due) value t) (sym there))

            -- the text ends there
            pub next-missing : m ≤ length t → length t ≤ m → NextItem c t at opened (Err m)
            next-missing w r = record { goes_on = λ k q h due. come k q h due ∙ from_end t h (k ∷ due) value m r; ahead = (omega arith, w) }

            module _ (r : m < length t) (lit : white (get_or t m 0) ≡ false) where
              -- the closing bracket stands there
              pub next-closes : get_or t m 0 ≡ c → NextItem c t at opened (Err m)
              next-closes z = record { goes_on = λ k q h due. come k q h due ∙ no_value t m r lit h k (k ∷ due) (z ∙ q); ahead = (omega arith, omega arith) }

              -- an item begins there
              pub next_more : length t < stops_at → (get_or t m 0 ≡ c → ⊥) → NextItem c t at opened (skip_of_number m)
              next_more short z =
                  rw (number_behind m (omega arith))
                  (record {
                    goes_on = λ k q h due. come k q h due ∙ rw (ne_eqb (get_or t m 0) (closing k) (λ x. z (x ∙ sym q)));
                    ahead = (omega arith, r, lit);
                  })

-- ---- to the next bracket

-- an opening sign opens its bracket
bracket_of-opening : (k : Bracket) → bracket_of (opening_of k) ≡ k
bracket_of-opening list = refl
bracket_of-opening tuple = refl

-- from a place to j there is no bracket
pub record Along (c : ℕ) (t : List ℕ) (at : ℕ) (opened : Bool) (j : ℕ) (fresh : Bool) : Type 0 where
  pub goes_on : (k : Bracket) → c ≡ closing k → (h : Here) (due : List Bracket) → from h (k ∷ due) (phase_of opened) t at ≡ from h (k ∷ due) (phase_of fresh) t j
  pub ahead : at ≤ j
  pub within : j ≤ length t

-- before the first item
pub along-none : (c : ℕ) (t : List ℕ) (at : ℕ) (opened : Bool) → at ≤ length t → Along c t at opened at opened
along-none c t at opened l = record { goes_on = λ k q h due. refl; ahead = le_refl at; within = l }

module _ (c : ℕ) (t : List ℕ) (at : ℕ) (opened : Bool) (j : ℕ) (fresh : Bool) (A : Along c t at opened j fresh) (i : ℕ) (N : NextItem c t j fresh (skip_of_number i)) where
  -- nothing that may stand there follows
  pub along-stops : stops_at ≤ i → ToBracket c t at opened (skip_of_number i)
  along-stops l =
      let M = rw (number-stops i l) at N in
      rw (number-stops i l)
      (record { goes_on = λ k q h due. A.goes_on k q h due ∙ M.goes_on k q h due; ahead = (omega (arith, A.ahead, M.ahead.0), M.ahead.1) })

  -- i is the place of what follows
  module _ (l : i < stops_at) where
    -- it is the closing bracket, or an item
    follows : NextItem c t j fresh (Ok i)
    follows = rw (number_behind i l) at N

    -- a byte stands there
    pub along-inside : i < length t
    along-inside = follows.ahead.1

    -- the bracket there is passed
    ahead-by-one : IsBeyond at t (Ok (i + 1))
    ahead-by-one = (omega (arith, A.ahead, follows.ahead.0), omega (arith, along-inside))

    -- it is the closing bracket
    pub along-closed : length t < stops_at → get_or t i 0 ≡ c → ToBracket c t at opened (skip_of_number (i + 1))
    along-closed short e =
        let s : i + 1 - 1 ≡ i = omega arith in
        rw (number_behind (i + 1) (omega (arith, along-inside)))
        (record {
          goes_on = λ k q h due. A.goes_on k q h due ∙ follows.goes_on k q h due ∙ rw (s, eq-eqb (get_or t i 0) (closing k) (e ∙ q));
          ahead = ahead-by-one;
        })

    module _ (n : get_or t i 0 ≡ c → ⊥) where
      -- an item is to begin there
      begins-there : (k : Bracket) → c ≡ closing k → (h : Here) (due : List Bracket) → from h (k ∷ due) (phase_of opened) t at ≡ from h (k ∷ due) value t i
      begins-there k q h due = A.goes_on k q h due ∙ follows.goes_on k q h due ∙ rw (ne_eqb (get_or t i 0) (closing k) (λ z. n (z ∙ sym q)))

      -- it is a bracket that opens
      pub along-opens : length t < stops_at → (o : Bracket) → get_or t i 0 ≡ opening_of o → ToBracket c t at opened (skip_of_number (i + 1))
      along-opens short o e =
          let s : i + 1 - 1 ≡ i = omega arith in
          rw (number_behind (i + 1) (omega (arith, along-inside)))
          (record {
            goes_on = λ k q h due.
                begins-there k q h due ∙ opening t i along-inside follows.ahead.2 h o (k ∷ due) e
                ∙ rw (s, ne_eqb (get_or t i 0) (closing k) (λ z. n (z ∙ sym q)), e, bracket_of-opening o);
            ahead = ahead-by-one;
          })

      -- it is an atom or a number
      module _ (a : get_or t i 0 ≡ ascii open_list → ⊥) (b : get_or t i 0 ≡ ascii open_tuple → ⊥) (r : ℕ) (S : skip_of_number r ≡ skip_of (token_at t i)) where
        -- the text goes on behind it
        skips : (s : Result ℕ ℕ) → skip_of_number r ≡ s → (k : Bracket) → c ≡ closing k → (h : Here) (due : List Bracket) → from h (k ∷ due) (phase_of opened) t at ≡ resumed h (k ∷ due) t s
        skips s d k q h due =
            begins-there k q h due
            ∙ plain-goes_on h (k ∷ due) t i along-inside follows.ahead.2 a b
            ∙ ap (resumed h (k ∷ due) t) (sym S ∙ d)

        -- that is further on
        passes : (s : Result ℕ ℕ) → skip_of_number r ≡ s → IsBeyond i t s
        passes s d = rw (sym d ∙ S) (plain-beyond t i along-inside)

        -- there is neither
        pub along-refused : stops_at ≤ r → ToBracket c t at opened (skip_of_number r)
        along-refused z =
            let g = passes _ (number-stops r z) in
            rw (number-stops r z) (record { goes_on = skips _ (number-stops r z); ahead = (omega (arith, A.ahead, follows.ahead.0, g.0), g.1) })

        -- it ends at r, and what follows it is still to come
        pub along-more : r < stops_at → Along c t at opened r false
        along-more z = let g = passes _ (number_behind r z) in record { goes_on = skips _ (number_behind r z); ahead = omega (arith, A.ahead, follows.ahead.0, g.0); within = g.1 }

        -- r is further on
        pub along-falls : r < stops_at → length t - r < length t - j
        along-falls z = let g = passes _ (number_behind r z) in omega (arith, follows.ahead.0, g.0, g.1)
