-- What a launch leaves: refused, for the lowest reason that holds, the table as it was; otherwise a sound table in which every kept group was made. Assumes nothing.
use Rattle.std.specs.Prelude.{◌≡◌, ◌⊎◌, Bool, ◌||◌, List, [], ◌∷◌, ℕ, ◌*◌, ◌^◌, ◌≤◌, eqb, length, get_or}
use Rattle.std.proofs.Math.Path.{refl}
use Rattle.std.proofs.Common.{sym, ap, arith, pow_mono}
use Rattle.std.proofs.Math.Logic.{inl, inr}
use Rattle.std.proofs.Math.Bool.{true, false, not, cond}
use Rattle.std.proofs.lemmas.Bool.{false≢true}
use Rattle.std.proofs.Math.Dec.{ltb}
use borrow.Author.Tests.{eqb-true, eqb-false, ltb-true, ltb-false, not-false}
use Rattle.nodes.specs.Sets.{node_limit, beyond}
use Rattle.answers.specs.Answers.{refuses, answer_of}
use Rattle.answers.specs.Outputs.{kind}
use Rattle.answers.specs.declared.Answer.{Answer}
use Rattle.answers.specs.declared.Value.TheVariants.{Ok, Error}
use Rattle.answers.specs.declared.Reason.{Reason}
use Rattle.answers.specs.declared.Reason.TheVariants.{Done, TableLength, RosterSize, NodeUnknown, GroupsFull, NoLaunchFile, GroupsDiffer, AtomUnknown}
use Rattle.semantics.specs.Sizes.{group_limit, names_per_group, table_words}
use Rattle.semantics.specs.Truth.{neither}
use Rattle.semantics.specs.FirstReason.{first}
use Rattle.semantics.specs.Soundness.{Sound}
use Rattle.semantics.specs.Call.{opening}
use Rattle.semantics.proofs.Calls.{calls-keep-sound, opening-gives-sound}
use Rattle.semantics.specs.State as State
use Rattle.semantics.specs.Table.{state_of}
use Rattle.creating.specs.Creations.{makeable, EachMade, AllThere}
use Rattle.creating.proofs.NoneRefused.{none-refused-opened, groups_there}
use Rattle.grammar.specs.File.{Group, Outcome, taken, refused, outcome}
use Rattle.book.specs.Book.{lines, fit}
use Rattle.duplicates.specs.Duplicates.{kept, clash}
use Rattle.duplicates.specs.Names.{both, kept-apart}
use Rattle.plan.specs.Plan.{listed, all_listed, plan_words}
use Rattle.plan.proofs.Creatable.{number-high}
use Rattle.plan.specs.Peopled.{kept-peopled}
use Rattle.published.specs.Refusals.{Lowest}
use Rattle.published.proofs.LowestReason.{first-lowest}
use Rattle.launch.specs.Launch.{Launch, found, no_file, launch_tests, place_of_refusal, made, launch}
use Rattle.launch.specs.Launches.{InOrder}
use Rattle.launch.proofs.LaunchLaws.{opened-ok, words-make}
use Rattle.launch.specs.TakenGroups.{taken-peopled}
use Rattle.launch.specs.Makeable.{two-each, set_below, words-makeable}

-- the reason that is given is the one of lowest rank that holds
pub launch-lowest : (run N hidden start : ℕ) (book : List ℕ) (o : Outcome)
    → Lowest (launch_tests run N hidden start book o) (first (launch_tests run N hidden start book o))
launch-lowest run N hidden start book o = first-lowest 0 (launch_tests run N hidden start book o) refl

-- groups of the book are made on a sound table, which stays so
made-sound : (N : ℕ) (book : List ℕ) → fit N book ≡ true → N ≤ node_limit → (gs : List Group) (t : List ℕ) → all_listed N book gs ≡ true
    → Sound names_per_group t → Sound names_per_group (made N book gs t)
unfolding made all_listed
made-sound N book b few [] t a s = s
made-sound N book b few (g ∷ gs) t a s =
    let p = both (listed N book g) (all_listed N book gs) a in
    let m : 2 ^ N ≤ 2 ^ node_limit = pow_mono few in
    made-sound N book b few gs _ p.1
    (calls-keep-sound 0 _ _ t (omega (arith, number-high N book b g p.0), omega (arith, set_below N book b few g p.0)) s)

-- what is a file is taken with its groups
is-taken : (o : Outcome) → no_file o ≡ false → o ≡ taken (found o)
is-taken (taken gs) h = refl
is-taken (refused p) h = absurd (false≢true (sym h))

module _ (N hidden start : ℕ) (book file t : List ℕ) where
  -- the words of the groups that are kept
  abbrev words : List ℕ
  words = plan_words N book (kept (found (outcome file)))

  -- what is given for a reason, which refuses or not
  abbrev given : Reason → Bool → Launch
  given r x =
      cond x
      (record { answer = answer_of Error r; place = place_of_refusal r N book (outcome file); table = t })
      (record { answer = answer_of Ok Done; place = 0; table = made N book (kept (found (outcome file))) (opening N hidden t).table })

  -- a launch that is refused writes not one word
  pub launch-refused : refuses (launch N hidden start book file t).answer.reason ≡ true → (launch N hidden start book file t).table ≡ t
  unfolding launch
  launch-refused = go (first (launch_tests (length t) N hidden start book (outcome file))) (refuses (first (launch_tests (length t) N hidden start book (outcome file))))
    where
      go : (r : Reason) (x : Bool) → refuses (given r x).answer.reason ≡ true → (given r x).table ≡ t
      go r true h = refl
      go r false h = absurd (false≢true h)

  -- and one that is not refused has 0: no other reason stands beside Ok
  pub launch_done_or_refused : ((launch N hidden start book file t).answer.reason ≡ Done) ⊎ (refuses (launch N hidden start book file t).answer.reason ≡ true)
  unfolding launch
  launch_done_or_refused =
      go (first (launch_tests (length t) N hidden start book (outcome file))) (refuses (first (launch_tests (length t) N hidden start book (outcome file)))) refl
    where
      go : (r : Reason) (x : Bool) → refuses r ≡ x → ((given r x).answer.reason ≡ Done) ⊎ (refuses (given r x).answer.reason ≡ true)
      go r true h = inr h
      go r false h = inl refl

  -- no refusal is Ok
  never : (r : Reason) → answer_of Error r ≡ answer_of Ok Done → ⊥
  never r e = let z : kind Error ≡ kind Ok = ap (λ (a : Answer). kind a.value) e in omega arith

  -- what a launch that goes through goes by: no test holds
  record Through : Type 0 where
    order : InOrder N hidden start t
    booked : fit N book ≡ true
    whole : no_file (outcome file) ≡ false
    known : all_listed N book (kept (found (outcome file))) ≡ true
    few : length (kept (found (outcome file))) ≤ group_limit

  module _ (ok : (launch N hidden start book file t).answer ≡ answer_of Ok Done) where
    -- by the tests, one after another
    through : Through
    unfolding launch
    through = go _ refl _ refl _ refl _ refl _ refl _ refl _ refl ok
      where
        go : (a : Bool) → not (eqb (length t) (table_words names_per_group)) ≡ a → (b : Bool) → (eqb N 0 || ltb node_limit N) ≡ b
            → (c : Bool) → (beyond hidden N || not (ltb start N)) ≡ c → (d : Bool) → (not (fit N book) || no_file (outcome file)) ≡ d
            → (e : Bool) → clash (found (outcome file)) (get_or (lines book) start []) ≡ e → (f : Bool) → not (all_listed N book (kept (found (outcome file)))) ≡ f
            → (g : Bool) → ltb group_limit (length (kept (found (outcome file)))) ≡ g
            → let r : Reason = cond a TableLength (cond b RosterSize (cond c NodeUnknown (cond d NoLaunchFile (cond e GroupsDiffer (cond f AtomUnknown (cond g GroupsFull Done)))))) in
            (given r (refuses r)).answer ≡ answer_of Ok Done → Through
        go true p b q c s d u e v f w g x h = absurd (never TableLength h)
        go false p true q c s d u e v f w g x h = absurd (never RosterSize h)
        go false p false q true s d u e v f w g x h = absurd (never NodeUnknown h)
        go false p false q false s true u e v f w g x h = absurd (never NoLaunchFile h)
        go false p false q false s false u true v f w g x h = absurd (never GroupsDiffer h)
        go false p false q false s false u false v true w g x h = absurd (never AtomUnknown h)
        go false p false q false s false u false v false w true x h = absurd (never GroupsFull h)
        go false p false q false s false u false v false w false x h =
            let n = neither (eqb N 0) (ltb node_limit N) q in
            let m = neither (beyond hidden N) (not (ltb start N)) s in
            let k = neither (not (fit N book)) (no_file (outcome file)) u in
            let z = eqb-false N 0 n.0 in
            record {
              order = record {
                opens = record {
                  long = eqb-true _ _ (not-false _ p);
                  some = omega arith;
                  few = ltb-false node_limit N n.1;
                  on = m.0;
                };
                known = ltb-true start N (not-false _ m.1);
              };
              booked = not-false _ k.0;
              whole = k.1;
              known = not-false _ w;
              few = ltb-false group_limit _ x;
            }

    -- the table that it leaves
    made_table : (launch N hidden start book file t).table ≡ made N book (kept (found (outcome file))) (opening N hidden t).table
    unfolding launch
    made_table = go (first (launch_tests (length t) N hidden start book (outcome file))) (refuses (first (launch_tests (length t) N hidden start book (outcome file)))) ok
      where
        go : (r : Reason) (x : Bool) → (given r x).answer ≡ answer_of Ok Done → (given r x).table ≡ made N book (kept (found (outcome file))) (opening N hidden t).table
        go r true h = absurd (never r h)
        go r false h = refl

    -- it leaves a sound table
    pub launch-sound : Sound names_per_group (launch N hidden start book file t).table
    launch-sound =
        let w = through in
        rw made_table
        (made-sound N book w.booked w.order.opens.few (kept (found (outcome file))) _ w.known
        (opening-gives-sound N hidden t (opened-ok N hidden t w.order.opens)))

    -- its words can be made
    can-be-made : makeable N words ≡ true
    can-be-made =
        let w = through in
        let gs : List Group = found (outcome file) in
        words-makeable N book w.booked w.order.opens.few (kept gs) w.known
        (kept-peopled gs (taken-peopled file gs (is-taken (outcome file) w.whole))) (kept-apart gs)

    -- in the room that there is
    enough : length words ≤ 2 * group_limit
    enough = omega (arith, through.few, two-each N book (kept (found (outcome file))))

    -- the table was opened
    was-opened : (opening N hidden t).answer.reason ≡ Done
    was-opened = ap (λ (a : Answer). a.reason) (opened-ok N hidden t through.order.opens)

    -- none of its creations was refused: each answers its number and its set
    pub launch-all-made : EachMade words (opening N hidden t).table
    launch-all-made = none-refused-opened N hidden words t was-opened can-be-made enough

    -- its table has an s_group for each group that is kept, of its number and its set and with no names, and no other
    pub launch_groups_there : let gs : List State.Group = (state_of names_per_group (launch N hidden start book file t).table).groups in
        AllThere words gs × (length gs ≡ length (kept (found (outcome file))))
    launch_groups_there =
        let w = groups_there N hidden words t was-opened can-be-made enough in
        rw (made_table, ← (words-make N book (kept (found (outcome file))) (opening N hidden t).table))
        (w.0, omega (arith, w.1, two-each N book (kept (found (outcome file)))))
