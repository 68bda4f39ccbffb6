-- A pass over the words of a namespace, one after the other, with a slot for each pid: what is known of those passed, and that it decides whether the names ascend and the
-- pids are distinct. Assumes nothing.
use Rattle.std.proofs.Common.{arith, add-one, ap, ◌∙◌, ⊎_elim, length-set, get_or-set_same, get_or-set_other}
use Rattle.std.proofs.Math.Decide.{le_ind}
use Rattle.std.proofs.Math.Nat.{sub-zero}
use Rattle.std.specs.Prelude.{◌≡◌, refl, List, [], ◌∷◌, ◌++◌, Bool, true, false, not, ◌&&◌, ◌||◌, ℕ, zero, suc, ◌+◌, ◌-◌, ◌*◌, ◌/◌, ◌%◌, ◌≤◌, ◌<◌, length, get_or, set, eqb, leb}
use Rattle.std.proofs.Math.Path.{sym}
use Rattle.std.proofs.lemmas.Bool.{false≢true}
use Rattle.std.proofs.Math.Bool.{and-false}
use borrow.Author.Tests.{lt-ltb, le-ltb, eq-eqb, ne_eqb, eqb-true, eqb-false, leb-false}
use Rattle.nodes.specs.Bools.{by_test, by_eq}
use Rattle.entries.specs.Entries.{Entry, half_word, entry_of, holds_pid, entries}
use Rattle.entries.specs.NamespaceSound.{is_ascending, is_distinct}
use Rattle.entries.specs.EntryLaws.{holds_pid-snoc}
use Rattle.entries.specs.Storage.{entries_suc, holds_pid-more, rest, rest-next, rest-none}
use Rattle.namespace_test.specs.Slots.{slot, slot_count}

-- the name of the word before the one at an index, and 0 before the first
unfoldable pub name_before : ℕ → List ℕ → ℕ
name_before zero ws = 0
name_before (suc i) ws = get_or ws i 0 / half_word

-- whether a word is plainly right after one of the name last: a higher name, and a slot that does not hold the stamp
abbrev pub is_plain : ℕ → ℕ → ℕ → List ℕ → Bool
is_plain word last stamp seen = not (leb (word / half_word) last || eqb (get_or seen (slot (word % half_word)) 0) stamp)

-- the slot of each pid of the first i words holds the stamp
abbrev pub Kept : List ℕ → ℕ → ℕ → List ℕ → Type 0
Kept ws stamp i seen = (p : ℕ) → holds_pid p (entries i ws) ≡ true → get_or seen (slot p) 0 ≡ stamp

-- the first i of count words are passed: their names ascend, so that those of the rest decide, their pids are distinct, all slots are there, and the slot of each pid holds
-- the stamp
pub record Passed (ws : List ℕ) (count stamp i : ℕ) (seen : List ℕ) : Type 0 where
  pub inside : i ≤ count
  pub order : is_ascending (name_before i ws) (rest i count ws) ≡ is_ascending 0 (entries count ws)
  pub distinct : is_distinct (entries i ws) ≡ true
  pub long : length seen ≡ slot_count
  pub kept : Kept ws stamp i seen

-- the words before i are passed, and last is the name of the one before it
abbrev pub Reached : List ℕ → ℕ → ℕ → ℕ → ℕ → List ℕ → Type 0
Reached ws count stamp i last seen = (last ≡ name_before i ws) × Passed ws count stamp i seen

-- ---- the name before

pub name_first : (ws : List ℕ) → name_before 0 ws ≡ 0
unfolding name_before
name_first ws = refl

pub name-next : (i : ℕ) (ws : List ℕ) → name_before (i + 1) ws ≡ get_or ws i 0 / half_word
unfolding name_before
name-next i ws = rw add-one

pub name-later : (i : ℕ) (ws : List ℕ) → 0 < i → name_before i ws ≡ get_or ws (i - 1) 0 / half_word
name-later i ws h =
    let same : i ≡ i - 1 + 1 = omega arith in
    ap (λ (n : ℕ). name_before n ws) same ∙ name-next (i - 1) ws

-- ---- pids: one entry more

eqb-turn : (a b : ℕ) → eqb a b ≡ eqb b a
eqb-turn a b =
    ⊎_elim
    (λ (t : a ≡ b). rw (eq-eqb a b, eq-eqb b a (sym t)))
    (λ (t : a ≡ b → ⊥). rw (ne_eqb a b, ne_eqb b a (λ q. t (sym q))))
    (by_eq a b)

distinct_snoc : (es : List Entry) (e : Entry) → is_distinct (es ++ e ∷ []) ≡ is_distinct es && not (holds_pid e.pid es)
unfolding is_distinct holds_pid
distinct_snoc [] e = refl
distinct_snoc (f ∷ fs) e =
    rw (holds_pid-snoc f.pid fs e, distinct_snoc fs e, eqb-turn e.pid f.pid)
    (regroup (holds_pid f.pid fs) (eqb f.pid e.pid) (is_distinct fs) (holds_pid e.pid fs))
  where
    regroup : (a b d h : Bool) → not (a || b) && (d && not h) ≡ not a && d && not (b || h)
    regroup true b d h = refl
    regroup false true true h = refl
    regroup false true false h = refl
    regroup false false true h = refl
    regroup false false false h = refl

module _ (ws : List ℕ) (i : ℕ) (inside : i < length ws) where
  distinct_more : is_distinct (entries (i + 1) ws) ≡ is_distinct (entries i ws) && not (holds_pid (get_or ws i 0 % half_word) (entries i ws))
  distinct_more = rw (add-one, entries_suc i ws) (distinct_snoc (entries i ws) (entry_of (get_or ws i 0)))

  not-distinct : holds_pid (get_or ws i 0 % half_word) (entries i ws) ≡ true → (count : ℕ) → i + 1 ≤ count → count ≤ length ws → is_distinct (entries count ws) ≡ false
  not-distinct h count =
      le_ind (λ (n : ℕ). n ≤ length ws → is_distinct (entries n ws) ≡ false)
      (λ b. rw (distinct_more, h) (and-false (is_distinct (entries i ws))))
      (λ n a e b. rw (entries_suc n ws b, distinct_snoc (entries n ws) (entry_of (get_or ws n 0)), e (omega arith)))
      count

-- ---- slots

-- once the slot of q is stamped, the slot of p holds the stamp, where it is that one or held the stamp before
still : (seen : List ℕ) (stamp q p : ℕ) → length seen ≡ slot_count → ((slot p ≡ slot q → ⊥) → get_or seen (slot p) 0 ≡ stamp) → get_or (set seen (slot q) stamp) (slot p) 0 ≡ stamp
still seen stamp q p long h =
    ⊎_elim
    (λ (u : slot p ≡ slot q). rw u (get_or-set_same seen (slot q) stamp 0 (omega arith)))
    (λ (u : slot p ≡ slot q → ⊥). rw (get_or-set_other seen (slot q) (slot p) stamp 0) (h u))
    (by_eq (slot p) (slot q))

module _ (ws : List ℕ) (stamp i : ℕ) (seen : List ℕ) (kept : Kept ws stamp i seen) where
  -- a pid whose slot does not hold the stamp was not passed
  pub fresh : (p : ℕ) → (get_or seen (slot p) 0 ≡ stamp → ⊥) → holds_pid p (entries i ws) ≡ false
  fresh p h =
      ⊎_elim
      (λ (t : holds_pid p (entries i ws) ≡ true). absurd (h (kept p t)))
      (λ (t : holds_pid p (entries i ws) ≡ false). t)
      (by_test (holds_pid p (entries i ws)))

  kept_more : length seen ≡ slot_count → i < length ws → Kept ws stamp (i + 1) (set seen (slot (get_or ws i 0 % half_word)) stamp)
  kept_more long inside p h = still seen stamp (get_or ws i 0 % half_word) p long (λ u. kept p (earlier u))
    where
      earlier : (slot p ≡ slot (get_or ws i 0 % half_word) → ⊥) → holds_pid p (entries i ws) ≡ true
      earlier u =
          ⊎_elim
          (λ (t : holds_pid p (entries i ws) ≡ true). t)
          (λ (t : holds_pid p (entries i ws) ≡ false).
          absurd (u (sym (ap slot (eqb-true (get_or ws i 0 % half_word) p (rw t at (sym (holds_pid-more p i ws inside) ∙ h)))))))
          (by_test (holds_pid p (entries i ws)))

-- ---- a pass

-- nothing is passed
pub passed_none : (ws : List ℕ) (count stamp : ℕ) (seen : List ℕ) → length seen ≡ slot_count → Passed ws count stamp 0 seen
unfolding name_before entries is_distinct holds_pid
passed_none ws count stamp seen long =
    record { inside = omega arith; order = simp sub-zero; distinct = refl; long = long; kept = λ p h. absurd (false≢true h) }

-- a stamp more does no harm
pub passed-still : {ws : List ℕ} {count stamp i : ℕ} {seen : List ℕ} → Passed ws count stamp i seen → (q : ℕ) (seen' : List ℕ) → seen' ≡ set seen (slot q) stamp → Passed ws count stamp i seen'
passed-still {stamp = stamp} {seen = seen} passed q seen' e = record {
  inside = passed.inside;
  order = passed.order;
  distinct = passed.distinct;
  long = ap length e ∙ simp length-set passed.long;
  kept = rw e (λ p h. still seen stamp q p passed.long (λ u. passed.kept p h));
}

module _ {ws : List ℕ} {count stamp i : ℕ} {seen : List ℕ} (passed : Passed ws count stamp i seen) where
  -- all is passed
  pub passed-all : count ≤ i → true ≡ is_ascending 0 (entries count ws) && is_distinct (entries count ws)
  unfolding is_ascending
  passed-all end =
      let same : i ≡ count = omega (arith, passed.inside) in
      rw (sym (ap (λ (n : ℕ). is_distinct (entries n ws)) same) ∙ passed.distinct, sym (rw (rest-none i count ws end) at passed.order))

  module _ (used : count ≤ length ws) (more : i < count) where
    -- a word that is not right
    pub low : get_or ws i 0 / half_word ≤ name_before i ws → false ≡ is_ascending 0 (entries count ws) && is_distinct (entries count ws)
    unfolding is_ascending
    low h = rw (sym (rw (rest-next i count ws more (omega arith), le-ltb (name_before i ws) (get_or ws i 0 / half_word) h) at passed.order))

    pub double : holds_pid (get_or ws i 0 % half_word) (entries i ws) ≡ true → false ≡ is_ascending 0 (entries count ws) && is_distinct (entries count ws)
    double h = rw (not-distinct ws i (omega arith) h count (omega arith) used) (sym (and-false (is_ascending 0 (entries count ws))))

    -- a word that is right
    module _ (b : get_or ws i 0 < half_word * half_word) (n : name_before i ws < get_or ws i 0 / half_word) where
      order-more : is_ascending (name_before (i + 1) ws) (rest (i + 1) count ws) ≡ is_ascending 0 (entries count ws)
      unfolding is_ascending
      order-more =
          rw name-next
          (rw (
            rest-next i count ws more (omega arith),
            lt-ltb (name_before i ws) (get_or ws i 0 / half_word) n,
            lt-ltb (get_or ws i 0 / half_word) half_word (omega arith),
            lt-ltb (get_or ws i 0 % half_word) half_word (omega arith),
          ) at passed.order)

      pub passed-more : holds_pid (get_or ws i 0 % half_word) (entries i ws) ≡ false → (seen' : List ℕ) → seen' ≡ set seen (slot (get_or ws i 0 % half_word)) stamp
          → Passed ws count stamp (i + 1) seen'
      passed-more h seen' e = record {
        inside = omega arith;
        order = order-more;
        distinct = rw (distinct_more ws i (omega arith), passed.distinct, h);
        long = ap length e ∙ simp length-set passed.long;
        kept = rw e (kept_more ws stamp i seen passed.kept passed.long (omega arith));
      }

-- one word more that is plainly right
pub reached-next : {ws : List ℕ} {count stamp i last : ℕ} {seen : List ℕ} → Reached ws count stamp i last seen → count ≤ length ws → i < count → get_or ws i 0 < half_word * half_word
    → is_plain (get_or ws i 0) last stamp seen ≡ true → (seen' : List ℕ) → seen' ≡ set seen (slot (get_or ws i 0 % half_word)) stamp
    → (j name : ℕ) → j ≡ i + 1 → name ≡ get_or ws i 0 / half_word → Reached ws count stamp j name seen'
reached-next {ws} {stamp = stamp} {i = i} {last = last} {seen = seen} r used more b h seen' e j name next named =
    let plain : (leb (get_or ws i 0 / half_word) last ≡ false) × (eqb (get_or seen (slot (get_or ws i 0 % half_word)) 0) stamp ≡ false) = neither _ _ h in
    let new = fresh ws stamp i seen r.1.kept (get_or ws i 0 % half_word) (eqb-false (get_or seen (slot (get_or ws i 0 % half_word)) 0) stamp plain.1) in
    rw (next, named) (sym (name-next i ws), passed-more r.1 used more b (omega (arith, leb-false (get_or ws i 0 / half_word) last plain.0)) new seen' e)
  where
    neither : (x y : Bool) → not (x || y) ≡ true → (x ≡ false) × (y ≡ false)
    neither false false h = (refl, refl)
    neither false true h = absurd (false≢true h)
    neither true y h = absurd (false≢true h)
