-- The groups are taken one after another: what is known between two of them, what each turn makes of it, and what holds at the end. Assumes nothing.
use Rattle.std.specs.Prelude.{◌≡◌, refl, Bool, true, false, List, [], ◌∷◌, ◌++◌, ℕ, suc, ◌+◌, ◌≤◌, ◌<◌, eqb, length, take, set, get_or, Ok, Some}
use Rattle.std.proofs.Common.{sym, ap, ◌∙◌, arith, le-ltb, take-suc-set, length-append, append_assoc, append-nil}
use borrow.Author.Tests.{eq-eqb}
use Rattle.pairs.specs.declared.Made.{Made}
use Rattle.pairs.specs.Plans.{seen}
use Rattle.pairs.specs.Woven.{woven, woven-append}
use Rattle.semantics.specs.Sizes.{group_limit}
use Rattle.tokens.specs.Reserved.{same}
use Rattle.tokens.specs.Words.{same_eq}
use Rattle.tokens.specs.declared.Atom.{Atom}
use Rattle.grammar.specs.File.{Group}
use Rattle.walk.specs.Walk.{part, head_at, entry_at}
use Rattle.walk.specs.Groups.{nodes, groups_from, groups, pass_groups_from, pass_groups}
use Rattle.walk.specs.Unfold.{groups-unfold, pass_groups-unfold}
use Rattle.walk.specs.declared.Entry.{Entry}
use Rattle.book.specs.Book.{lines, place_of, group_atoms_of, number_in}
use Rattle.book.specs.Finding.{number_some}
use Rattle.duplicates.specs.Duplicates.{named}
use Rattle.duplicates.specs.Names.{neither, apart, apart_snoc, apart-kept, apart-clash}
use Rattle.plan.specs.Plan.{number_of, listed, all_listed, plan_words, fitting, verdict}
use Rattle.plan.specs.Turns.{all_listed-append, plan_words-append}
use Rattle.gathering.specs.Gathering.{Noded, Planned}

-- ---- a number that was not seen

module _ (N : ℕ) (book : List ℕ) (g : Group) where
  other : (x : Group) → eqb (number_of N book x) (number_of N book g) ≡ false → same x.name g.name ≡ false
  other x h = go (same x.name g.name) refl
    where
      go : (b : Bool) → same x.name g.name ≡ b → b ≡ false
      go true e =
          let n : number_of N book x ≡ number_of N book g = ap (λ a. suc (place_of a (group_atoms_of N book))) (same_eq x.name g.name e) in
          sym (eq-eqb (number_of N book x) (number_of N book g) n) ∙ h
      go false e = refl

  -- so none of the groups that are written has the name
  unnamed : (ms : List Made) (gs : List Group) → woven ms ≡ plan_words N book gs → seen ms (number_of N book g) ≡ false → named gs g.name ≡ false
  unfolding woven plan_words
  unnamed [] [] w h = refl
  unnamed [] (x ∷ gs) w h = cc
  unnamed (m ∷ ms) [] w h = cc
  unnamed (m ∷ ms) (x ∷ gs) w h =
      let (p, q) = neither (eqb m.number (number_of N book g)) (seen ms (number_of N book g)) h in
      let n : m.number ≡ number_of N book x = cc in
      let rest : woven ms ≡ plan_words N book gs = cc in
      rw (other x (rw n at p)) (unnamed ms gs rest q)

-- ---- between two groups

-- the group of a front that was read
abbrev group_at : List ℕ → Atom → Group
group_at t a = record { name = part t a.from a.to; nodes = nodes t a.past }

-- those passed are in the book, told apart by their names, and written
pub record Taken (N : ℕ) (book t : List ℕ) (g j : ℕ) (begun : Bool) (k : ℕ) (written : List Made) : Type 0 where
  pub passed : List Group
  pub parts : groups t g ≡ passed ++ groups_from t j begun
  pub ends : pass_groups t g ≡ pass_groups_from t j begun
  pub many : length passed ≡ k
  pub few : k ≤ group_limit
  pub known : all_listed N book passed ≡ true
  pub lone : apart passed ≡ true
  pub makes : woven (take k written) ≡ plan_words N book passed

-- before the first
pub taken_none : (N : ℕ) (book t : List ℕ) (g : ℕ) (written : List Made) → Taken N book t g g false 0 written
unfolding all_listed plan_words woven
taken_none N book t g written = record { passed = []; parts = refl; ends = refl; many = refl; few = omega arith; known = refl; lone = refl; makes = refl }

module _ (N : ℕ) (book t : List ℕ) (g j : ℕ) (begun : Bool) (k : ℕ) (written : List Made) (T : Taken N book t g j begun k written) where
  -- one more, whose number is new
  module _ (front : ℕ) (a : Atom) (opens : entry_at t j begun ≡ Ok (Entry.Group front)) (head : head_at t front ≡ Ok a)
      (m : Made) (number : Some m.number ≡ number_in N book (part t a.from a.to)) (less : k < group_limit)
      (room : length written ≡ group_limit) (new : seen (take k written) m.number ≡ false) (next : ℕ) (peopled : Noded N book t a.past 0 m.set next) where
    rest : groups_from t j begun ≡ group_at t a ∷ groups_from t next true
    rest = groups-unfold t j begun ∙ rw (opens, head, peopled.past)

    behind : pass_groups_from t j begun ≡ pass_groups_from t next true
    behind = pass_groups-unfold t j begun ∙ rw (opens, head, peopled.past)

    number-is : m.number ≡ number_of N book (group_at t a)
    number-is = (number_some N book (part t a.from a.to) m.number number).1

    here : listed N book (group_at t a) ≡ true
    here = rw (number_some N book (part t a.from a.to) m.number number).0 peopled.known

    alone : named T.passed (part t a.from a.to) ≡ false
    alone = unnamed N book (group_at t a) (take k written) T.passed T.makes (rw number-is at new)

    pub taken_more : Taken N book t g next true (k + 1) (set written k m)
    unfolding all_listed plan_words
    taken_more = record {
      passed = T.passed ++ (group_at t a ∷ []);
      parts = T.parts ∙ ap (λ l. T.passed ++ l) rest ∙ sym (append_assoc T.passed (group_at t a ∷ []) (groups_from t next true));
      ends = T.ends ∙ behind;
      many = length-append T.passed (group_at t a ∷ []) ∙ omega (arith, T.many);
      few = omega arith;
      known = all_listed-append N book T.passed (group_at t a ∷ []) ∙ rw (T.known, here);
      lone = apart_snoc T.passed (group_at t a) T.lone alone;
      makes =
          let more : suc k ≡ k + 1 = omega arith in
          let in_room : k < length written = omega arith in
          rw (← more, take-suc-set written k m in_room, woven-append (take k written) m, T.makes, number-is, ← peopled.makes)
          (sym (plan_words-append N book T.passed (group_at t a ∷ [])));
    }

  -- none is left
  pub taken_all : (e : ℕ) → entry_at t j begun ≡ Ok (Entry.Closed e) → Planned N book t g written k e
  unfolding verdict fitting
  taken_all e closed =
      let none : groups_from t j begun ≡ [] = groups-unfold t j begun ∙ rw closed in
      let is : groups t g ≡ T.passed = T.parts ∙ ap (λ l. T.passed ++ l) none ∙ append-nil T.passed in
      let lone : apart (groups t g) ≡ true = rw is T.lone in
      record {
        past = T.ends ∙ pass_groups-unfold t j begun ∙ rw closed;
        fits = λ start. rw (apart-clash (groups t g) (get_or (lines book) start []) lone, apart-kept (groups t g) lone, is, T.known, T.many, le-ltb group_limit k T.few);
        makes = T.makes ∙ ap (plan_words N book) (sym (apart-kept (groups t g) lone ∙ is));
      }
