-- The lists of pairs, turn by turn; the front of a file, its rest behind the groups, and its end. Assumes nothing.
use Rattle.std.specs.Prelude.{Result, Ok, Err, ◌≡◌, refl, Bool, true, false, cond, List, [], ◌∷◌, ℕ, suc, ◌+◌, ◌≤◌, ◌<◌, eqb, ltb, length, drop, get_or}
use Rattle.std.proofs.Common.{sym, ap, ◌∙◌, arith, ltb-true, ltb-false, le-ltb, length-drop}
use Rattle.tokens.specs.Bytes.{white}
use Rattle.tokens.specs.Runs.{run_of}
use Rattle.tokens.specs.declared.Class.TheVariants.{White}
use Rattle.grammar.specs.File.{Group, Level, file, kernel, Here, Phase, open_list, close_list, close_tuple, ascii, own_key, sign, first_pair, next_pair, first_group, full_stop, stops, dead, step, taken, refused, ends, outcome}
use Rattle.grammar.specs.Steps.{from}
use Rattle.walk.specs.Walk.{dark, sign_from, sign_at, then_sign, opened_to, bracket_at, entry_from, entry_at}
use Rattle.walk.specs.Groups.{groups, pass_groups}
use Rattle.walk.specs.Atoms.{moved, behind-white, passed, sign_read, then_sign-read}
use Rattle.walk.specs.Machine.{closed, groups-read}
use Rattle.walk.specs.declared.Entry.{Entry}
use Rattle.launch_file.specs.Reading.{entered, left, behind_list, paired, list_of, PairRead, ToOwn, ToEnd, ending_to, ending_at, from_groups, fronted, read_as, RestRead}
use Rattle.launch_file.specs.Pairs.{next-closed}
use Rattle.launch_file.specs.declared.Pair.{Pair}

-- ---- a list of pairs

-- in every such list, the text goes on at j as it does at a place
pub record Reached (such : Here → Type 0) (ph : Phase) (t : List ℕ) (at : ℕ) (f : Phase) (j : ℕ) : Type 0 where
  pub goes_on : (h : Here) → such h → from h [] ph t at ≡ from h [] f t j

pub reached-here : (such : Here → Type 0) (ph : Phase) (t : List ℕ) (at : ℕ) → Reached such ph t at ph at
reached-here such ph t at = record { goes_on = λ h s. refl }

module _ (such : Here → Type 0) (ph : Phase) (t : List ℕ) (at : ℕ) (f : Phase) (j : ℕ) (R : Reached such ph t at f j) (found : Bool) where
  next : (r : Result Pair ℕ) → PairRead such f t j found r → (h : Here) → such h → from h [] ph t at ≡ paired h t r
  next r P h s = R.goes_on h s ∙ P.goes_on h s

  pub reached-other : (n : ℕ) → PairRead such f t j found (Ok (Pair.Other n)) → Reached such ph t at next_pair n
  reached-other n P = record { goes_on = next (Ok (Pair.Other n)) P }

module _ (own t : List ℕ) (at : ℕ) (f : Phase) (j : ℕ) where
  -- up to the own entry: it was not found, so the list does not end
  module _ (R : Reached (list_of own false) first_pair t at f j) where
    pub own-stops : (p : ℕ) → PairRead (list_of own false) f t j false (Err p) → ToOwn own t at (Err p)
    own-stops p P = next (list_of own false) first_pair t at f j R false (Err p) P

    pub own-entered : (n : ℕ) → PairRead (list_of own false) f t j false (Ok (Pair.Own n)) → ToOwn own t at (Ok n)
    own-entered n P = next (list_of own false) first_pair t at f j R false (Ok (Pair.Own n)) P

  pub own_open : (n : ℕ) → PairRead (list_of own false) f t j false (Ok (Pair.Closed n)) → ToOwn own t at (Err n)
  own_open n P = absurd (let z : ◌≡◌ {A = ℕ} 0 1 = cc P.on in omega arith)

  -- up to the end: the own pair was found, so it does not stand there again
  module _ (R : Reached (list_of own true) next_pair t at f j) where
    pub end-stops : (p : ℕ) → PairRead (list_of own true) f t j true (Err p) → ToEnd own t at (Err p)
    end-stops p P = next (list_of own true) next_pair t at f j R true (Err p) P

    pub end-left : (n : ℕ) → PairRead (list_of own true) f t j true (Ok (Pair.Closed n)) → ToEnd own t at (Ok n)
    end-left n P = next (list_of own true) next_pair t at f j R true (Ok (Pair.Closed n)) P

  pub end-once : (n : ℕ) → PairRead (list_of own true) f t j true (Ok (Pair.Own n)) → ToEnd own t at (Err n)
  end-once n P = absurd (let z : ◌≡◌ {A = ℕ} 0 1 = cc P.on in omega arith)

-- ---- the end of the file

-- white space up to the end, or up to another byte
white-ends : (s : List ℕ) (gs : List Group) (p : ℕ) → length s ≤ run_of White s → ends gs p s ≡ taken gs
unfolding ends run_of
white-ends [] gs p l = refl
white-ends (b ∷ bs) gs p l = go (white b) l (white-ends bs gs (suc p))
  where
    go : (x : Bool) → suc (length bs) ≤ cond x (suc (run_of White bs)) 0 → (length bs ≤ run_of White bs → ends gs (suc p) bs ≡ taken gs) → cond x (ends gs (suc p) bs) (refused p) ≡ taken gs
    go true l ih = ih (omega arith)
    go false l ih = absurd (omega arith)

dark-ends : (s : List ℕ) (gs : List Group) (p : ℕ) → run_of White s < length s → ends gs p s ≡ refused (p + run_of White s)
unfolding ends run_of
dark-ends [] gs p l = absurd (omega arith)
dark-ends (b ∷ bs) gs p l = go (white b) l (dark-ends bs gs (suc p))
  where
    go : (x : Bool) → cond x (suc (run_of White bs)) 0 < suc (length bs) → (run_of White bs < length bs → ends gs (suc p) bs ≡ refused (suc p + run_of White bs))
        → cond x (ends gs (suc p) bs) (refused p) ≡ refused (p + cond x (suc (run_of White bs)) 0)
    go true l ih = let e : suc p + run_of White bs ≡ p + suc (run_of White bs) = omega arith in ih (omega arith) ∙ ap refused e
    go false l ih = let e : p ≡ p + 0 = omega arith in ap refused e

ends_at : (t : List ℕ) (gs : List Group) (n : ℕ) → ends gs n (drop n t) ≡ cond (ltb (dark t n) (length t)) (refused (dark t n)) (taken gs)
ends_at t gs n = go (ltb (dark t n) (length t)) refl
  where
    go : (x : Bool) → ltb (dark t n) (length t) ≡ x → ends gs n (drop n t) ≡ cond x (refused (dark t n)) (taken gs)
    go true e = let l = ltb-true (dark t n) (length t) e in dark-ends (drop n t) gs n (omega (arith, length-drop n t))
    go false e = let l = ltb-false (dark t n) (length t) e in white-ends (drop n t) gs n (omega (arith, length-drop n t))

stop-moves : (t : List ℕ) (i : ℕ) (g : ℕ) → cond (ltb i (length t)) (moved t i (cond (eqb (get_or t i 0) 46) (stops (groups t g)) dead)) (refused i) ≡ read_as t (ending_to t g (sign_from t i 46))
unfolding sign_from
stop-moves t i g = go (ltb i (length t)) (eqb (get_or t i 0) 46)
  where
    whole : (x : Bool) (p : ℕ) → cond x (refused p) (taken (groups t g)) ≡ read_as t (cond x (Err p) (Ok g))
    whole true p = refl
    whole false p = refl

    go : (x y : Bool) → cond x (moved t i (cond y (stops (groups t g)) dead)) (refused i) ≡ read_as t (ending_to t g (cond x (cond y (Ok (i + 1)) (Err i)) (Err i)))
    go true true = ends_at t (groups t g) (i + 1) ∙ whole (ltb (dark t (i + 1)) (length t)) (dark t (i + 1))
    go true false = refl
    go false y = refl

stop-read : (t : List ℕ) (at g : ℕ) → from (left (groups t g)) [] full_stop t at ≡ read_as t (ending_at t at g)
unfolding step sign_at ending_at
stop-read t at g = behind-white (left (groups t g)) full_stop (λ b. cond (eqb b 46) (stops (groups t g)) dead) (λ b. refl) t at ∙ stop-moves t (dark t at) g

-- ---- the front of a file

abbrev start : Here
start = record { level = file; found = false; groups = [] }

module _ (t : List ℕ) where
  bracket-read : (r : Result ℕ ℕ) → sign_at t 0 (ascii open_list) ≡ r → outcome t ≡ passed start first_pair t r
  bracket-read r e = sign_read t 0 open_list start first_pair ∙ ap (passed start first_pair t) e

  pub front_cut : (p : ℕ) → sign_at t 0 (ascii open_list) ≡ Err p → outcome t ≡ fronted t (Err p)
  front_cut p e = bracket-read (Err p) e

  module _ (n : ℕ) (e : sign_at t 0 (ascii open_list) ≡ Ok n) where
    pub front-stops : (p : ℕ) → ToOwn (own_key file) t n (Err p) → outcome t ≡ fronted t (Err p)
    front-stops p K = bracket-read (Ok n) e ∙ K start (refl, refl)

    pub front_read : (m : ℕ) → ToOwn (own_key file) t n (Ok m) → (r : Result ℕ ℕ) → ToOwn (own_key kernel) t m r → outcome t ≡ fronted t r
    front_read m K r G = bracket-read (Ok n) e ∙ K start (refl, refl) ∙ G (entered []) (refl, refl) ∙ alike r
      where
        alike : (r : Result ℕ ℕ) → passed (entered []) first_group t r ≡ fronted t r
        alike (Ok g) = refl
        alike (Err p) = refl

-- ---- the rest of a file

-- where a file is taken, its groups are where they were
pub whole-place : (t : List ℕ) (at g k : ℕ) → ending_at t at g ≡ Ok k → k ≡ g
unfolding ending_at
whole-place t at g k e = go (sign_at t at 46) e
  where
    by_end : (x : Bool) (p : ℕ) → cond x (Err p) (Ok g) ≡ Ok k → k ≡ g
    by_end true p e = absurd (let z : ◌≡◌ {A = ℕ} 0 1 = cc in omega arith)
    by_end false p e = cc

    go : (r : Result ℕ ℕ) → ending_to t g r ≡ Ok k → k ≡ g
    go (Ok n) e = by_end (ltb (dark t n) (length t)) (dark t n) e
    go (Err p) e = absurd (let z : ◌≡◌ {A = ℕ} 0 1 = cc in omega arith)

-- where it is refused, nothing is taken
pub refused-place : (p g k : ℕ) → Err p ≡ Ok k → k ≡ g
refused-place p g k e = absurd (let z : ◌≡◌ {A = ℕ} 0 1 = cc in omega arith)

module _ (t : List ℕ) (g : ℕ) where
  -- behind the groups, in the kernel entry's list
  groups-passed : (r : Result ℕ ℕ) → then_sign t (pass_groups t g) (ascii close_tuple) ≡ r → from_groups t g ≡ passed (closed (groups t g)) next_pair t r
  groups-passed r e =
      groups-read t g (entered [])
      ∙ then_sign-read t (pass_groups t g) close_tuple (closed (groups t g)) next_pair
      ∙ ap (passed (closed (groups t g)) next_pair t) e

  -- it stops in the groups
  pub rest-cut : (p : ℕ) → Err p ≡ pass_groups t g → RestRead t g (Err p)
  rest-cut p e = (groups-passed (Err p) (ap (λ r. then_sign t r (ascii close_tuple)) (sym e)), λ k q. refused-place p g k q)

  -- the groups end at i
  module _ (i : ℕ) (e : Ok i ≡ pass_groups t g) where
    groups-closed : (r : Result ℕ ℕ) → r ≡ sign_at t i (ascii close_tuple) → from_groups t g ≡ passed (closed (groups t g)) next_pair t r
    groups-closed r q = groups-passed r (ap (λ r. then_sign t r (ascii close_tuple)) (sym e) ∙ sym q)

    -- their pair does not
    pub rest-open : (p : ℕ) → Err p ≡ sign_at t i (ascii close_tuple) → RestRead t g (Err p)
    rest-open p q = (groups-closed (Err p) q, λ k z. refused-place p g k z)

    -- behind their pair, in the kernel entry's list
    module _ (n : ℕ) (q : Ok n ≡ sign_at t i (ascii close_tuple)) where
      kernel-passed : (r : Result ℕ ℕ) → ToEnd (own_key kernel) t n r → from_groups t g ≡ passed (left (groups t g)) (sign close_tuple next_pair) t r
      kernel-passed r K = groups-closed (Ok n) q ∙ K (closed (groups t g)) (refl, refl)

      -- it stops in that list
      pub kernel-stops : (p : ℕ) → ToEnd (own_key kernel) t n (Err p) → RestRead t g (Err p)
      kernel-stops p K = (kernel-passed (Err p) K, λ k z. refused-place p g k z)

      -- that list ends at j
      module _ (j : ℕ) (K : ToEnd (own_key kernel) t n (Ok j)) where
        kernel-closed : (r : Result ℕ ℕ) → r ≡ sign_at t j (ascii close_tuple) → from_groups t g ≡ passed (left (groups t g)) next_pair t r
        kernel-closed r q =
            kernel-passed (Ok j) K ∙ sign_read t j close_tuple (left (groups t g)) next_pair ∙ ap (passed (left (groups t g)) next_pair t) (sym q)

        -- its pair does not
        pub kernel-open : (p : ℕ) → Err p ≡ sign_at t j (ascii close_tuple) → RestRead t g (Err p)
        kernel-open p q = (kernel-closed (Err p) q, λ k z. refused-place p g k z)

        -- behind its pair, in the file's list
        module _ (m : ℕ) (u : Ok m ≡ sign_at t j (ascii close_tuple)) where
          file-passed : (r : Result ℕ ℕ) → ToEnd (own_key file) t m r → from_groups t g ≡ passed (left (groups t g)) full_stop t r
          file-passed r F = kernel-closed (Ok m) u ∙ F (left (groups t g)) (refl, refl)

          -- it stops in that list
          pub rest-stops : (p : ℕ) → ToEnd (own_key file) t m (Err p) → RestRead t g (Err p)
          rest-stops p F = (file-passed (Err p) F, λ k z. refused-place p g k z)

          -- that list ends
          pub rest_read : (k : ℕ) → ToEnd (own_key file) t m (Ok k) → RestRead t g (ending_at t k g)
          rest_read k F = (file-passed (Ok k) F ∙ stop-read t k g, λ x z. whole-place t k g x z)

-- ---- a file that ends at once behind its groups

-- a step that was taken
abbrev Taken : Result ℕ ℕ → Type 0
Taken (Ok n) = Unit {0}
Taken (Err p) = ⊥

taken-before : (t : List ℕ) (r : Result ℕ ℕ) (c : ℕ) → Taken (then_sign t r c) → Taken r
taken-before t (Ok n) c k = tt
taken-before t (Err p) c k = k

-- the bracket that ends a list
bracket-ends : (t : List ℕ) (at n : ℕ) → sign_at t at (ascii close_list) ≡ Ok n → entry_at t at true ≡ Ok (Entry.Closed n)
unfolding sign_at sign_from entry_at entry_from
bracket-ends t at n e = go (ltb (dark t at) (length t)) (eqb (get_or t (dark t at) 0) (ascii close_list)) e
  where
    go : (x y : Bool) → cond x (cond y (Ok (dark t at + 1)) (Err (dark t at))) (Err (dark t at)) ≡ Ok n
        → cond x (cond y (Ok (Entry.Closed (dark t at + 1))) (opened_to (bracket_at t (dark t at) true))) (Err (dark t at)) ≡ Ok (Entry.Closed n)
    go true true e = cc
    go true false e = absurd (let z : ◌≡◌ {A = ℕ} 0 1 = cc in omega arith)
    go false y e = absurd (let z : ◌≡◌ {A = ℕ} 0 1 = cc in omega arith)

list_left : (t : List ℕ) (r : Result ℕ ℕ) (l : Level) (gs : List Group) → Taken (then_sign t r (ascii close_list))
    → passed (record { level = l; found = true; groups = gs }) next_pair t r ≡ passed (left gs) (behind_list l) t (then_sign t r (ascii close_list))
list_left t (Ok m) l gs k = go (sign_at t m (ascii close_list)) refl k
  where
    go : (r : Result ℕ ℕ) → sign_at t m (ascii close_list) ≡ r → Taken r → from (record { level = l; found = true; groups = gs }) [] next_pair t m ≡ passed (left gs) (behind_list l) t r
    go (Ok n) e k = (next-closed t m true (own_key l) true n (bracket-ends t m n e) refl).goes_on (record { level = l; found = true; groups = gs }) (refl, refl)
    go (Err p) e k = absurd k
list_left t (Err p) l gs k = absurd k

-- white space alone behind the full stop
stop-left : (t : List ℕ) (r : Result ℕ ℕ) (g n : ℕ) → then_sign t r 46 ≡ Ok n → length t ≤ dark t n → passed (left (groups t g)) full_stop t r ≡ taken (groups t g)
unfolding ending_at
stop-left t (Ok m) g n e l = stop-read t m g ∙ rw (e, le-ltb (dark t n) (length t) l)
stop-left t (Err p) g n e l = absurd (let z : ◌≡◌ {A = ℕ} 0 1 = cc in omega arith)

-- the signs that end the kernel entry, and those that end the file
abbrev pub list_closed : List ℕ → Result ℕ ℕ → Result ℕ ℕ
list_closed t r = then_sign t (then_sign t r (ascii close_tuple)) (ascii close_list)

pub ends_read : (t : List ℕ) (g at n : ℕ) → pass_groups t g ≡ Ok at → then_sign t (list_closed t (list_closed t (Ok at))) 46 ≡ Ok n → length t ≤ dark t n
    → from_groups t g ≡ taken (groups t g)
ends_read t g at n p e l =
    let gs = groups t g in
    let pair = then_sign t (Ok at) (ascii close_tuple) in
    let entry = list_closed t (Ok at) in
    let whole = list_closed t entry in
    let k : Taken whole = taken-before t whole 46 (rw e tt) in
    let k' : Taken entry = taken-before t entry (ascii close_tuple) (taken-before t (then_sign t entry (ascii close_tuple)) (ascii close_list) k) in
    groups-passed t g (then_sign t (Ok at) (ascii close_tuple)) (rw p)
    ∙ list_left t pair kernel gs k'
    ∙ then_sign-read t entry close_tuple (left gs) next_pair
    ∙ list_left t (then_sign t entry (ascii close_tuple)) file gs k
    ∙ stop-left t whole g n e l

pub no_end : (t : List ℕ) (g : ℕ) → false ≡ true → from_groups t g ≡ taken (groups t g)
no_end t g e = absurd (let z : ◌≡◌ {A = ℕ} 0 1 = cc in omega arith)
