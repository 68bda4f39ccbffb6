-- One pair of a list, from behind its bracket and from between the pairs: what is read is what the machine of `grammar` reads. Assumes nothing.
use Rattle.std.specs.Prelude.{Result, Ok, Err, ◌≡◌, refl, Bool, true, ◌&&◌, cond, List, [], ℕ, ◌+◌, ◌-◌, ◌≤◌, ◌<◌, drop}
use Rattle.std.proofs.Common.{ap, ◌∙◌, arith}
use Rattle.std.proofs.Math.Bool.{false}
use Rattle.tokens.specs.Reserved.{same}
use Rattle.tokens.specs.declared.Atom.{Atom}
use Rattle.grammar.specs.File.{Group, Level, file, kernel, Here, comma, open_list, close_tuple, ascii, own_key, key, sign, atom, first_pair, next_pair, value, Move, dead, reads, ended_pairs, ends_pairs, nowhere, enters, keyed, named, step, Outcome, refused}
use Rattle.grammar.specs.Steps.{from, led}
use Rattle.values.specs.Skipping.{reached, over, PassedOver}
use Rattle.walk.specs.Walk.{part, sign_at, then_sign, atom_at, entry_at}
use Rattle.walk.specs.Unfold.{StepOn, sign-on, atom-ahead, EntryOn, entry_at-on}
use Rattle.walk.specs.Atoms.{moved, passed, sign_read, then_sign-read, atom-read}
use Rattle.walk.specs.Machine.{listed, first_read, next-read}
use Rattle.walk.specs.declared.Entry.{Entry}
use Rattle.launch_file.specs.Reading.{entry_of, behind_list, paired, PairOn, list_of, IsAnyList, PairRead, own_to, own_pair}
use Rattle.launch_file.specs.declared.Pair.{Pair}

-- behind a later place, so behind an earlier one
pair-sooner : (t : List ℕ) (at i : ℕ) (found : Bool) → at ≤ i → (r : Result Pair ℕ) → PairOn t i found r → PairOn t at found r
pair-sooner t at i found l (Ok (Pair.Own n)) h = h
pair-sooner t at i found l (Ok (Pair.Other n)) h = (omega arith, h.1)
pair-sooner t at i found l (Ok (Pair.Closed n)) h = h
pair-sooner t at i found l (Err p) h = tt

-- ---- the own pair

entering : (l : Level) (gs : List Group) (e at : ℕ) (t : List ℕ) → led (enters l gs) e at (drop at t) ≡ from (record { level = kernel; found = false; groups = gs }) [] (sign comma (sign open_list (entry_of l))) t at
entering file gs e at t = refl
entering kernel gs e at t = refl

own-goes_on : (t : List ℕ) (at e : ℕ) (h : Here) → led (keyed h true) e at (drop at t) ≡ paired h t (own_pair t at e h.found)
unfolding keyed own_pair
own-goes_on t at e h = go h.found
  where
    inner : Here
    inner = record { level = kernel; found = false; groups = h.groups }

    to-own : (r : Result ℕ ℕ) → passed inner (entry_of h.level) t r ≡ paired h t (own_to r)
    to-own (Ok n) = refl
    to-own (Err p) = refl

    go : (x : Bool) → led (cond x nowhere (enters h.level h.groups)) e at (drop at t)
        ≡ paired h t (cond x (Err e) (own_to (then_sign t (sign_at t at (ascii comma)) (ascii open_list))))
    go true = refl
    go false =
        entering h.level h.groups e at t
        ∙ sign_read t at comma inner (sign open_list (entry_of h.level))
        ∙ then_sign-read t (sign_at t at (ascii comma)) open_list inner (entry_of h.level)
        ∙ to-own (then_sign t (sign_at t at (ascii comma)) (ascii open_list))

own_on : (t : List ℕ) (at e : ℕ) (found : Bool) → PairOn t at found (own_pair t at e found)
unfolding own_pair
own_on t at e true = tt
own_on t at e false = go (then_sign t (sign_at t at (ascii comma)) (ascii open_list))
  where
    go : (r : Result ℕ ℕ) → PairOn t at false (own_to r)
    go (Ok n) = refl
    go (Err p) = tt

-- ---- another pair, behind its key

abbrev pub other_to : Result ℕ ℕ → Result Pair ℕ
other_to (Ok n) = Ok (Pair.Other n)
other_to (Err p) = Err p

abbrev pub skipped_to : List ℕ → Result ℕ ℕ → Result Pair ℕ
skipped_to t (Ok e) = other_to (sign_at t e (ascii close_tuple))
skipped_to t (Err p) = Err p

pub other_cut : (t : List ℕ) (at : ℕ) (found : Bool) (p : ℕ) → sign_at t at (ascii comma) ≡ Err p → PairRead IsAnyList (sign comma value) t at found (Err p)
other_cut t at found p e = record { goes_on = λ h s. sign_read t at comma h value ∙ rw e; on = tt }

pub other-read : (t : List ℕ) (at n : ℕ) (found : Bool) → sign_at t at (ascii comma) ≡ Ok n → (k : Result ℕ ℕ) → PassedOver t n k → PairRead IsAnyList (sign comma value) t at found (skipped_to t k)
other-read t at n found e k P = record { goes_on = λ h s. sign_read t at comma h value ∙ rw e (P.goes_on h ∙ behind h k); on = ahead k P.ahead }
  where
    ended : (h : Here) (r : Result ℕ ℕ) → passed h next_pair t r ≡ paired h t (other_to r)
    ended h (Ok m) = refl
    ended h (Err p) = refl

    behind : (h : Here) (k : Result ℕ ℕ) → over h t k ≡ paired h t (skipped_to t k)
    behind h (Ok i) = sign_read t i close_tuple h next_pair ∙ ended h (sign_at t i (ascii close_tuple))
    behind h (Err p) = refl

    begins : StepOn t at (Ok n)
    begins = rw e at (sign-on t at (ascii comma))

    closes : (i : ℕ) → n ≤ i → (r : Result ℕ ℕ) → StepOn t i r → PairOn t at found (other_to r)
    closes i l (Ok m) a = let b = begins.0 in (omega arith, a.1)
    closes i l (Err p) a = tt

    ahead : (k : Result ℕ ℕ) → n ≤ reached k → PairOn t at found (skipped_to t k)
    ahead (Ok i) l = closes i l (sign_at t i (ascii close_tuple)) (sign-on t i (ascii close_tuple))
    ahead (Err p) l = tt

pub other-ends : (t : List ℕ) (at n i : ℕ) (found : Bool) → sign_at t at (ascii comma) ≡ Ok n → PassedOver t n (Ok i) → (r : Result ℕ ℕ) → sign_at t i (ascii close_tuple) ≡ r
    → PairRead IsAnyList (sign comma value) t at found (other_to r)
other-ends t at n i found e P r q = rw q at (other-read t at n found e (Ok i) P)

-- ---- a pair, behind its bracket

module _ (t : List ℕ) (at : ℕ) (own : List ℕ) (found : Bool) where
  pub pair-stops : (p : ℕ) → atom_at t at ≡ Err p → PairRead (list_of own found) (atom key) t at found (Err p)
  pair-stops p e = record { goes_on = λ h s. atom-read t at h key ∙ rw e; on = tt }

  module _ (a : Atom) (is : atom_at t at ≡ Ok a) where
    further : at ≤ a.past
    further = omega (arith, (atom-ahead t at a is).0)

    keyed-read : (h : Here) (x : Bool) → same (part t a.from a.to) own ≡ x → own ≡ own_key h.level
        → from h [] (atom key) t at ≡ led (keyed h x) a.to a.past (drop a.past t)
    unfolding named
    keyed-read h x q o = atom-read t at h key ∙ rw (is, ← o, q)

    pub pair-own : same (part t a.from a.to) own ≡ true → PairRead (list_of own found) (atom key) t at found (own_pair t a.past a.to found)
    pair-own q = record {
      goes_on = λ h s. keyed-read h true q s.0 ∙ rw s.1 (own-goes_on t a.past a.to h);
      on = pair-sooner t at a.past found further (own_pair t a.past a.to found) (own_on t a.past a.to found);
    }

    pub pair-other : same (part t a.from a.to) own ≡ false → (r : Result Pair ℕ) → PairRead IsAnyList (sign comma value) t a.past found r
        → PairRead (list_of own found) (atom key) t at found r
    unfolding keyed
    pair-other q r P = record { goes_on = λ h s. keyed-read h false q s.0 ∙ P.goes_on h tt; on = pair-sooner t at a.past found further r P.on }

-- ---- between the pairs

-- the bracket that closes the list stands at the place before
abbrev closing : Here → List ℕ → ℕ → Outcome
closing h t n = cond h.found (from (record { level = file; found = true; groups = h.groups }) [] (behind_list h.level) t n) (refused (n - 1))

abbrev pairs_end : Here → Move
pairs_end h = cond h.found (ended_pairs h.level h.groups) dead

ends : (t : List ℕ) (h : Here) (i : ℕ) → moved t i (pairs_end h) ≡ closing h t (i + 1)
ends t h i = go h.found h.level
  where
    go : (x : Bool) (l : Level) → moved t i (cond x (ended_pairs l h.groups) dead)
        ≡ cond x (from (record { level = file; found = true; groups = h.groups }) [] (behind_list l) t (i + 1)) (refused (i + 1 - 1))
    go true file = refl
    go true kernel = refl
    go false l = let e : i ≡ i + 1 - 1 = omega arith in ap refused e

-- the two tests of the closing bracket, one after the other
both : (x y : Bool) (a b : Move) → cond (x && y) a b ≡ cond x (cond y a b) b
both true y a b = refl
both false y a b = refl

pairs-read : (t : List ℕ) (at : ℕ) (h : Here) (begun : Bool) → from h [] (cond begun next_pair first_pair) t at ≡ listed h key (closing h t) t (entry_at t at begun)
unfolding step reads ends_pairs
pairs-read t at h true = next-read t h key (pairs_end h) (closing h t) (ends t h) next_pair (λ b. rw both) at
pairs-read t at h false = first_read t h key (pairs_end h) (closing h t) (ends t h) first_pair (λ b. rw both) at

module _ (t : List ℕ) (at : ℕ) (begun : Bool) (own : List ℕ) (found : Bool) where
  module _ (x : Result Entry ℕ) (is : entry_at t at begun ≡ x) where
    there : (h : Here) → from h [] (cond begun next_pair first_pair) t at ≡ listed h key (closing h t) t x
    there h = pairs-read t at h begun ∙ ap (listed h key (closing h t) t) is

    further-on : EntryOn t at x
    further-on = rw is at (entry_at-on t at begun)

  pub next-stops : (p : ℕ) → entry_at t at begun ≡ Err p → PairRead (list_of own found) (cond begun next_pair first_pair) t at found (Err p)
  next-stops p e = record { goes_on = λ h s. there (Err p) e h; on = tt }

  pub next-pairs : (n : ℕ) → entry_at t at begun ≡ Ok (Entry.Group n) → (r : Result Pair ℕ) → PairRead (list_of own found) (atom key) t n found r
      → PairRead (list_of own found) (cond begun next_pair first_pair) t at found r
  next-pairs n e r P =
      let a = further-on (Ok (Entry.Group n)) e in
      record { goes_on = λ h s. there (Ok (Entry.Group n)) e h ∙ P.goes_on h s; on = pair-sooner t at n found (omega arith) r P.on }

  pub next-closed : (n : ℕ) → entry_at t at begun ≡ Ok (Entry.Closed n) → found ≡ true → PairRead (list_of own found) (cond begun next_pair first_pair) t at found (Ok (Pair.Closed n))
  next-closed n e f = record { goes_on = λ h s. there (Ok (Entry.Closed n)) e h ∙ rw (← s.1, f); on = f }

  pub next-missing : (n : ℕ) → entry_at t at begun ≡ Ok (Entry.Closed n) → found ≡ false → PairRead (list_of own found) (cond begun next_pair first_pair) t at found (Err (n - 1))
  next-missing n e f = record { goes_on = λ h s. there (Ok (Entry.Closed n)) e h ∙ rw (← s.1, f); on = tt }

  pub closed-within : (n : ℕ) → entry_at t at begun ≡ Ok (Entry.Closed n) → at < n
  closed-within n e = (further-on (Ok (Entry.Closed n)) e).0
