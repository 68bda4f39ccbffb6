-- What the place of a name means where s_groups are in order of name: the s_group that stands there, or the room for one; and for a node,
-- that it is a member, or the reason why not. Assumes nothing.
use Rattle.std.specs.Prelude.{◌≡◌, refl, true, false, List, [], ◌∷◌, ◌++◌, map, ℕ, suc, ◌+◌, ◌≤◌, ◌<◌, eqb, length, take, drop, Ok, Err}
use Rattle.std.proofs.Common.{sym, ap, ◌∙◌, subst, ⊎_elim, add-zero, zero-add, arith, lit<, lt-ltb, le-ltb, eq-eqb, ne_eqb}
use Rattle.std.proofs.Math.Option.{Option, none, some}
use Rattle.std.proofs.lemmas.List.{get_or_at, length-append, length-map, take-append-le}
use Rattle.std.proofs.Math.Seq.{take-append_seam}
use Rattle.std.proofs.lemmas.Bool.{eqb-false}
use Rattle.nodes.specs.Sets.{has}
use Rattle.nodes.specs.Bools.{by_lt, by_eq, by_test}
use Rattle.entries.specs.Entries.{Entry}
use Rattle.semantics.specs.Sizes.{contents_at}
use Rattle.semantics.specs.Soundness.{count_of}
use Rattle.semantics.specs.State.{Group, State, find, put, add_group, drop_group}
use Rattle.semantics.specs.Steps.{Result, error, Outcome, say, as_member, look_in, nothing_found, for_member}
use Rattle.semantics.specs.Table.{contents, sections}
use Rattle.semantics.specs.Regular.{Every, Rising, RegularGroup, Regular}
use Rattle.semantics.specs.Places.{group_at, contents-name}
use Rattle.semantics.specs.Groups.{found, found_name}
use Rattle.semantics.specs.Sections.{onward}
use Rattle.semantics.specs.WordsOfState.{Laid, count-is}
use Rattle.answers.specs.declared.Value.{Value}
use Rattle.answers.specs.declared.Reason.{Reason}
use Rattle.place.specs.Place.{Place, Access, place_in, place_from, place_of, open_at, place_for}

-- ---- the words

-- the contents words of s_groups
place_words : (cap N i s : ℕ) (gs : List Group) → Every (RegularGroup cap N) gs → place_in i s (map contents gs) ≡ place_from i s gs
place_words cap N i s [] h = refl
place_words cap N i s (g ∷ gs) h = rw (contents-name g h.0.small, place_words cap N (i + 1) s gs h.1)

-- the first words of a section are those of the s_groups
front : (n : ℕ) (a z y ws : List ℕ) → ws ≡ (a ++ z) ++ y → n ≡ length a → take n ws ≡ a
front n a z y ws is m =
    ap (take n) is
    ∙ take-append-le n (a ++ z) y (omega (arith, length-append a z))
    ∙ rw m (take-append_seam a z)

pub place-laid : {cap : ℕ} {st : State} {t : List ℕ} → Laid cap st t → Regular cap st → (s : ℕ)
    → place_in 0 s (take (count_of t) (drop contents_at t)) ≡ place_of s st.groups
unfolding sections
place-laid {cap} {st} {t} l r s =
    rw (front (count_of t) (map contents st.groups) _ _ _ (onward l.run 1 (lit< tt)) (count-is l ∙ sym (length-map st.groups contents)))
    (place_words cap st.size 0 s st.groups r.each)

-- ---- what it means

-- the s_group s stands at place k
pub record Seat (s k : ℕ) (gs : List Group) : Type 0 where
  pub group : Group
  pub before : List Group
  pub after : List Group
  pub is : gs ≡ before ++ group ∷ after
  pub stands : length before ≡ k
  pub named : group.name ≡ s
  pub finds : find s gs ≡ some group
  pub putting : (m : ℕ) (ns : List Entry) → put s m ns gs ≡ before ++ record { name = group.name; members = m; names = ns } ∷ after
  pub dropping : drop_group s gs ≡ before ++ after

-- there is no s_group s, and it would stand at place k
pub record Room (s k : ℕ) (gs : List Group) : Type 0 where
  pub before : List Group
  pub after : List Group
  pub is : gs ≡ before ++ after
  pub stands : length before ≡ k
  pub finds : find s gs ≡ none
  pub adding : (g : Group) → g.name ≡ s → add_group g gs ≡ before ++ g ∷ after

-- what a place says
abbrev pub Sought : ℕ → List Group → Place → Type 0
Sought s gs (Ok k) = Seat s k gs
Sought s gs (Err k) = Room s k gs

-- names below s
abbrev Low : ℕ → List Group → Type 0
Low s gs = Every (λ h. h.name < s) gs

past : (i s : ℕ) (a z : List Group) → Low s a → place_from i s (a ++ z) ≡ place_from (i + length a) s z
past i s [] z l = rw add-zero
past i s (g ∷ a) z l =
    let e : i + 1 + length a ≡ i + suc (length a) = omega arith in
    rw (lt-ltb g.name s l.0, past (i + 1) s a z l.1, e)

above : (b : ℕ) (a : List Group) (g : Group) (z : List Group) → Rising b (a ++ g ∷ z) → b < g.name
above b [] g z r = r.0
above b (h ∷ a) g z r = omega (arith, r.0, above h.name a g z r.1)

low : (b : ℕ) (a : List Group) (g : Group) (z : List Group) → Rising b (a ++ g ∷ z) → Low g.name a
low b [] g z r = tt
low b (h ∷ a) g z r = (above h.name a g z r.1, low h.name a g z r.1)

-- no s_group s: where it would stand
record Vacant (s : ℕ) (gs : List Group) : Type 0 where
  before : List Group
  after : List Group
  is : gs ≡ before ++ after
  lows : Low s before
  next : (i : ℕ) → place_from i s after ≡ Err i
  adding : (g : Group) → g.name ≡ s → add_group g gs ≡ before ++ g ∷ after

other : (s : ℕ) (h : Group) (gs : List Group) → find s (h ∷ gs) ≡ none → (h.name ≡ s → ⊥) × (find s gs ≡ none)
unfolding find
other s h gs f =
    ⊎_elim
    (λ (t : eqb h.name s ≡ true). let q : some h ≡ none = rw t at f in let z : ◌≡◌ {A = ℕ} 0 1 = cc in absurd (omega arith))
    (λ (t : eqb h.name s ≡ false). (eqb-false h.name s t, rw t at f))
    (by_test (eqb h.name s))

vacant : (s : ℕ) (gs : List Group) → find s gs ≡ none → Vacant s gs
unfolding add_group
vacant s [] f = record { before = []; after = []; is = refl; lows = tt; next = λ i. refl; adding = λ g e. refl }
vacant s (h ∷ gs) f =
    let o = other s h gs f in
    ⊎_elim
    (λ (t : h.name < s).
    let w = vacant s gs o.1 in
    record {
      before = h ∷ w.before;
      after = w.after;
      is = ap (λ (l : List Group). h ∷ l) w.is;
      lows = (t, w.lows);
      next = w.next;
      adding = λ g e. rw (le-ltb g.name h.name (omega arith), w.adding g e);
    })
    (λ (t : s ≤ h.name).
    let n : s < h.name = ⊎_elim (λ (q : h.name ≡ s). absurd (o.0 q)) (λ (q : h.name ≡ s → ⊥). omega arith) (by_eq h.name s) in
    record {
      before = [];
      after = h ∷ gs;
      is = refl;
      lows = tt;
      next = λ i. rw (le-ltb h.name s t, ne_eqb h.name s o.0);
      adding = λ g e. rw (lt-ltb g.name h.name (omega arith));
    })
    (by_lt h.name s)

pub sought : (s : ℕ) (gs : List Group) → Rising 0 gs → Sought s gs (place_of s gs)
sought s gs r = go (find s gs) refl
  where
    go : (o : Option Group) → find s gs ≡ o → Sought s gs (place_of s gs)
    go none f =
        let w = vacant s gs f in
        let e : place_of s gs ≡ Err (length w.before) = ap (place_of s) w.is ∙ past 0 s w.before w.after w.lows ∙ w.next _ ∙ rw zero-add in
        subst (λ (p : Place). Sought s gs p) (sym e)
        (record { before = w.before; after = w.after; is = w.is; stands = refl; finds = f; adding = w.adding })
    go (some g) f =
        let w = found s 0 gs g r f in
        let n : g.name ≡ s = found_name s gs g f in
        let q : Rising 0 (w.before ++ g ∷ w.after) = rw (← w.is) r in
        let l : Low s w.before = subst (λ (x : ℕ). Low x w.before) n (low 0 w.before g w.after q) in
        let e : place_of s gs ≡ Ok (length w.before) =
        ap (place_of s) w.is ∙ past 0 s w.before (g ∷ w.after) l ∙ rw (le-ltb g.name s (omega arith), eq-eqb g.name s n, zero-add) in
        subst (λ (p : Place). Sought s gs p) (sym e)
        (record { group = g; before = w.before; after = w.after; is = w.is; stands = refl; named = n; finds = f; putting = w.putting; dropping = w.dropping })

-- ---- for a node

-- node i is a member of the s_group s, which stands at place k
pub record Open (i s k : ℕ) (gs : List Group) : Type 0 where
  pub seat : Seat s k gs
  pub member : has seat.group.members i ≡ true

-- node i has no s_group s, by reason r: so say the rules, whatever they do for a member
pub record Shut (i s : ℕ) (gs : List Group) (r : Reason) : Type 0 where
  pub outcomes : (v : Value) (k : Group → Outcome) → as_member i v (find s gs) k ≡ say v r
  pub results : (st : State) (k : Group → Result) → for_member i (find s gs) st k ≡ error r st
  pub lookups : (n : ℕ) → look_in i n (find s gs) ≡ nothing_found r

-- what the place for a node says
abbrev pub Granted : ℕ → ℕ → List Group → Access → Type 0
Granted i s gs (Ok k) = Open i s k gs
Granted i s gs (Err r) = Shut i s gs r

-- the s_group that stands there is the one at that place
pub seat-group : {s k : ℕ} {gs : List Group} (w : Seat s k gs) → group_at gs k ≡ w.group
seat-group {k = k} w = rw w.is (get_or_at w.before w.group w.after _ k w.stands)

pub granted : (i s : ℕ) (gs : List Group) → Rising 0 gs → Granted i s gs (place_for i s gs)
granted i s gs r = go (place_of s gs) (sought s gs r)
  where
    go : (p : Place) → Sought s gs p → Granted i s gs (open_at i gs p)
    go (Ok k) w =
        ⊎_elim
        (λ (h : has w.group.members i ≡ true). rw (seat-group w, h) (record { seat = w; member = h }))
        (λ (h : has w.group.members i ≡ false).
        rw (seat-group w, h) (record { outcomes = λ v f. rw (w.finds, h); results = λ st f. rw (w.finds, h); lookups = λ n. rw (w.finds, h) }))
        (by_test (has w.group.members i))
    go (Err k) w = record { outcomes = λ v f. rw w.finds; results = λ st f. rw w.finds; lookups = λ n. rw w.finds }
