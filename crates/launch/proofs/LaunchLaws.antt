-- What a launch is, test by test, and after the plan of its groups. Assumes nothing.
use Rattle.std.specs.Prelude.{◌≡◌, Result, Ok, Err, Bool, true, false, not, ◌||◌, cond, List, [], ◌∷◌, ℕ, ◌*◌, ◌≤◌, ◌<◌, eqb, ltb, length, get_or, take}
use Rattle.std.proofs.Math.Path.{refl}
use Rattle.std.proofs.Common.{sym, ap, ◌∙◌, true≢false}
use Rattle.std.proofs.lemmas.Bool.{false≢true}
use native.Mathlib.Omega.{arith}
use borrow.Author.Tests.{eq-eqb, ne_eqb, lt-ltb, le-ltb, ltb-false}
use Rattle.nodes.specs.NodeSets.{node_limit, beyond}
use Rattle.answers.specs.Answers.{refuses, answer_of}
use Rattle.answers.specs.declared.Answer.{Answer}
use Rattle.answers.specs.declared.Value.TheVariants as Value
use Rattle.answers.specs.declared.Reason.{Reason}
use Rattle.answers.specs.declared.Reason.TheVariants.{Done, TableLength, RosterSize, NodeUnknown, GroupsFull, NoLaunchFile, GroupsDiffer, AtomUnknown}
use Rattle.semantics.specs.Sizes.{group_limit, names_per_group, table_words}
use Rattle.semantics.specs.FirstReason.{Test, ◌when◌, first}
use Rattle.semantics.specs.Call.{opening}
use Rattle.semantics.proofs.Calls.{opening-gives-sound}
use Rattle.semantics.proofs.Agree.{sound-iff}
use Rattle.semantics.specs.Test.{sound}
use Rattle.pairs.specs.declared.Made.{Made}
use Rattle.pairs.specs.Woven.{woven, woven-take}
use Rattle.creating.specs.Creating.{created}
use Rattle.grammar.specs.File.{Group, Outcome, taken, refused, outcome}
use Rattle.walk.specs.Groups.{groups}
use Rattle.launch_file.specs.Reading.{from_groups, fronted, read_as, RestRead}
use Rattle.book.specs.Book.{lines, fit}
use Rattle.duplicates.specs.Duplicates.{kept, clash}
use Rattle.plan.specs.declared.Misfit.TheVariants.{Clash, Unknown, TooMany}
use Rattle.plan.specs.Plan.{all_listed, plan_words, fitting, verdict}
use Rattle.gathering.specs.Gathering.{Planned}
use Rattle.launch.specs.Launch.{Launch, found, no_file, place_of_refusal, made, launch}
use Rattle.launch.specs.Launches.{refusal, Open, InOrder, by_plan, Tells, AtOnce}

module _ (N hidden start : ℕ) (book file t : List ℕ) where
  pub length-wrong : (length t ≡ table_words names_per_group → ⊥) → launch N hidden start book file t ≡ refusal TableLength 0 t
  unfolding launch
  length-wrong h = rw (ne_eqb (length t) (table_words names_per_group) h)

  module _ (long : length t ≡ table_words names_per_group) where
    pub nobody : N < 1 → launch N hidden start book file t ≡ refusal RosterSize 0 t
    unfolding launch
    nobody h = let z : N ≡ 0 = omega arith in rw (eq-eqb (length t) (table_words names_per_group) long, eq-eqb N 0 z)

    module _ (some : 1 ≤ N) where
      no_zero : eqb N 0 ≡ false
      no_zero = ne_eqb N 0 (λ e. omega arith)

      pub too_many : node_limit < N → launch N hidden start book file t ≡ refusal RosterSize 0 t
      unfolding launch
      too_many h = rw (eq-eqb (length t) (table_words names_per_group) long, no_zero, lt-ltb node_limit N h)

      module _ (few : N ≤ node_limit) where
        pub hidden-beyond : beyond hidden N ≡ true → launch N hidden start book file t ≡ refusal NodeUnknown 0 t
        unfolding launch
        hidden-beyond h = rw (eq-eqb (length t) (table_words names_per_group) long, no_zero, le-ltb node_limit N few, h)

        module _ (on : beyond hidden N ≡ false) where
          pub start-beyond : N ≤ start → launch N hidden start book file t ≡ refusal NodeUnknown 0 t
          unfolding launch
          start-beyond h = rw (eq-eqb (length t) (table_words names_per_group) long, no_zero, le-ltb node_limit N few, on, le-ltb start N h)

module _ (N hidden : ℕ) (t : List ℕ) (k : Open N hidden t) where
  pub opened-ok : (opening N hidden t).answer ≡ answer_of Value.Ok Done
  unfolding opening
  opened-ok = rw (eq-eqb (length t) (table_words names_per_group) k.long, ne_eqb N 0 (λ z. omega (arith, k.some)), le-ltb node_limit N k.few, k.on)

  -- the opened table is sound
  pub opened-sound : sound names_per_group (opening N hidden t).table ≡ true
  opened-sound = (sound-iff names_per_group (opening N hidden t).table).1 (opening-gives-sound N hidden t opened-ok)

-- the tests that come after those of the run, the roster and the nodes
abbrev later_tests : ℕ → ℕ → List ℕ → Outcome → List Test
later_tests N start book o =
    NoLaunchFile when (not (fit N book) || no_file o) ∷ GroupsDiffer when clash (found o) (get_or (lines book) start [])
    ∷ AtomUnknown when not (all_listed N book (kept (found o))) ∷ GroupsFull when ltb group_limit (length (kept (found o))) ∷ []

-- a launch by the reason that is given
abbrev given : ℕ → ℕ → List ℕ → Outcome → List ℕ → Reason → Launch
given N hidden book o t r =
    cond (refuses r)
    (record { answer = answer_of Value.Error r; place = place_of_refusal r N book o; table = t })
    (record { answer = answer_of Value.Ok Done; place = 0; table = made N book (kept (found o)) (opening N hidden t).table })

module _ (N hidden start : ℕ) (book file t : List ℕ) (k : InOrder N hidden start t) where
  -- they decide
  later : (o : Outcome) → outcome file ≡ o → launch N hidden start book file t ≡ given N hidden book o t (first (later_tests N start book o))
  unfolding launch
  later o e =
      rw (e, eq-eqb (length t) (table_words names_per_group) k.opens.long, ne_eqb N 0 (λ z. omega (arith, k.opens.some)), le-ltb node_limit N k.opens.few, k.opens.on, lt-ltb start N k.known)

  pub no-book : fit N book ≡ false → launch N hidden start book file t ≡ refusal NoLaunchFile 0 t
  no-book b = later (outcome file) refl ∙ rw b

  module _ (b : fit N book ≡ true) where
    pub no_file-at : (p : ℕ) → outcome file ≡ refused p → launch N hidden start book file t ≡ refusal NoLaunchFile p t
    no_file-at p e = later (refused p) e ∙ rw b

    module _ (gs : List Group) (e : outcome file ≡ taken gs) where
      planned-by : (x y z : Bool) → clash gs (get_or (lines book) start []) ≡ x → not (all_listed N book (kept gs)) ≡ y → ltb group_limit (length (kept gs)) ≡ z
          → launch N hidden start book file t ≡ by_plan N hidden book gs t (cond x (Err Clash) (cond y (Err Unknown) (cond z (Err TooMany) (Ok (length (kept gs))))))
      planned-by true y z p q r = later (taken gs) e ∙ rw (b, p)
      planned-by false true z p q r = later (taken gs) e ∙ rw (b, p, q)
      planned-by false false true p q r = later (taken gs) e ∙ rw (b, p, q, r)
      planned-by false false false p q r = later (taken gs) e ∙ rw (b, p, q, r)

      pub planned : launch N hidden start book file t ≡ by_plan N hidden book gs t (verdict N book start gs)
      unfolding verdict fitting
      planned = planned-by _ _ _ refl refl refl

-- groups that fit are no more than can be made
pub fits-few : (N : ℕ) (book : List ℕ) (start : ℕ) (gs : List Group) (n : ℕ) → Ok n ≡ verdict N book start gs → n ≤ group_limit
unfolding verdict fitting
fits-few N book start gs n = go (clash gs (get_or (lines book) start [])) (all_listed N book (kept gs)) (ltb group_limit (length (kept gs))) refl
  where
    go : (x y z : Bool) → ltb group_limit (length (kept gs)) ≡ z → Ok n ≡ cond x (Err Clash) (cond (not y) (Err Unknown) (cond z (Err TooMany) (Ok (length (kept gs))))) → n ≤ group_limit
    go true y z l e = absurd (let q : ◌≡◌ {A = ℕ} 0 1 = cc in omega arith)
    go false false z l e = absurd (let q : ◌≡◌ {A = ℕ} 0 1 = cc in omega arith)
    go false true true l e = absurd (let q : ◌≡◌ {A = ℕ} 0 1 = cc in omega arith)
    go false true false l e = let q : n ≡ length (kept gs) = cc in omega (arith, ltb-false group_limit (length (kept gs)) l)

-- the words of the plan make the groups
pub words-make : (N : ℕ) (book : List ℕ) (gs : List Group) (t : List ℕ) → created (plan_words N book gs) t ≡ made N book gs t
unfolding created plan_words made
words-make N book [] t = refl
words-make N book (g ∷ gs) t = words-make N book gs _

-- a refusal leaves the table
pub refuses-so : {l : Launch} {r : Reason} {p : ℕ} {t : List ℕ} {a : Answer} {q : ℕ} → l ≡ refusal r p t → (a ≡ answer_of Value.Error r) × (q ≡ p) → Tells l a q t
refuses-so e w = rw e (w.0, (w.1, refl))

-- a launch that goes through makes the groups of the plan's words
pub makes_so : (N hidden : ℕ) (book : List ℕ) (gs : List Group) (t : List ℕ) (ms : List Made) (k : ℕ) {l : Launch} {u : List ℕ}
    → l ≡ record { answer = answer_of Value.Ok Done; place = 0; table = made N book gs (opening N hidden t).table }
    → u ≡ created (woven (take k ms)) (opening N hidden t).table → take (2 * k) (woven ms) ≡ plan_words N book gs → Tells l (answer_of Value.Ok Done) 0 u
makes_so N hidden book gs t ms k e w q =
    rw e (refl, (refl, w ∙ ap (λ ws. created ws (opening N hidden t).table) (sym (woven-take ms k) ∙ q) ∙ words-make N book gs _))

-- what tells the same tells it too
pub tells-so : {l : Launch} {a b : Answer} {p q : ℕ} {t : List ℕ} → (a ≡ b) × (p ≡ q) → Tells l b q t → Tells l a p t
tells-so w h = (w.0 ∙ h.0, (w.1 ∙ h.1.0, h.1.1))

pub not-at-once : {N hidden : ℕ} {book file t : List ℕ} → AtOnce N hidden book file t t false
not-at-once = record { went_through = λ e. absurd (false≢true e); untouched = λ e. refl }

-- what one walk gathered makes the table
pub made-at-once : (N hidden : ℕ) (book file t : List ℕ) (g k e : ℕ) (ms : List Made) (u : List ℕ) → Open N hidden t → fit N book ≡ true
    → outcome file ≡ taken (groups file g) → Planned N book file g ms k e → u ≡ created (woven (take k ms)) (opening N hidden t).table
    → AtOnce N hidden book file t u true
made-at-once N hidden book file t g k e ms u o b w P c = record {
  went_through = λ _ start known.
      planned N hidden start book file t (record { opens = o; known = known }) b (groups file g) w
      ∙ ap (by_plan N hidden book (groups file g) t) (P.fits start)
      ∙ ap (λ v. record { answer = answer_of Value.Ok Done; place = 0; table = v })
      (sym (c ∙ ap (λ ws. created ws (opening N hidden t).table) P.makes ∙ words-make N book (kept (groups file g)) _));
  untouched = λ e. absurd (true≢false e);
}

-- a launch that went through is told so
pub tells-through : {l : Launch} {u : List ℕ} {a : Answer} {p : ℕ} → l ≡ record { answer = answer_of Value.Ok Done; place = 0; table = u } → (a ≡ answer_of Value.Ok Done) × (p ≡ 0) → Tells l a p u
tells-through e w = rw e (w.0, (w.1, refl))

-- what a reader says of its text and place is so of a file and a place that they are
pub front-of : {text file : List ℕ} (r : Result ℕ ℕ) → text ≡ file → outcome text ≡ fronted text r → outcome file ≡ fronted file r
front-of r e f = rw e at f

pub rest-of : {text file : List ℕ} {at g : ℕ} {r : Result ℕ ℕ} → text ≡ file → at ≡ g → RestRead text at r → RestRead file g r
rest-of e k f = rw (e, k) at f

-- reading said that a file whose groups begin at g is whole
pub read_whole : (file : List ℕ) (g k : ℕ) (r : Result ℕ ℕ) → outcome file ≡ from_groups file g → from_groups file g ≡ read_as file r → ((i : ℕ) → r ≡ Ok i → i ≡ g) → r ≡ Ok k
    → outcome file ≡ taken (groups file g)
read_whole file g k r o f same is = o ∙ f ∙ ap (read_as file) is ∙ ap (λ i. taken (groups file i)) (same k is)

-- what is told of a table is told of the same table
pub told_of : (N hidden start : ℕ) (book file : List ℕ) {t u v : List ℕ} {a : Answer} {p : ℕ} → u ≡ t → Tells (launch N hidden start book file u) a p v → Tells (launch N hidden start book file t) a p v
told_of N hidden start book file e w = rw e at w
