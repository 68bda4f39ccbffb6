-- Opening: an accepted one gives a sound table with the published opening state, and a refused one leaves every word. Assumes nothing.
use Rattle.std.specs.Prelude.{◌≡◌, refl, Bool, true, false, not, ◌&&◌, ◌||◌, cond, List, [], ℕ, zero, suc, ◌^◌, ◌≤◌, eqb, ltb, length, get_or, replicate}
use Rattle.std.proofs.Common.{sym, ap, ap₂, ◌∙◌, true≢false, arith, ltb-false, leb-false, le-ltb}
use Rattle.std.proofs.Math.Path.{fun_ext}
use Rattle.std.proofs.Math.Bool.{and-true}
use Rattle.std.proofs.lemmas.Bool.{false≢true, eqb-false}
use Rattle.std.proofs.Math.Option.{none, some}
use Rattle.std.proofs.lemmas.List.{length-replicate}
use Rattle.nodes.specs.Sets.{node_limit, has, single, beyond}
use Rattle.nodes.proofs.SetLaws.{has-none, has-single}
use Rattle.semantics.specs.Sizes.{names_per_group, group_names, table_words}
use Rattle.semantics.specs.State.{find}
use Rattle.answers.specs.Answers.{refuses, answer_of}
use Rattle.semantics.specs.Steps.{opened}
use Rattle.semantics.specs.Table.{layout}
use Rattle.semantics.specs.FirstReason.{first, opening_tests}
use Rattle.semantics.specs.Call.{refused, opening}
use Rattle.semantics.specs.Regular.{Regular}
use Rattle.semantics.specs.Truth.{neither}
use Rattle.semantics.specs.Members.{at-mapi}
use Rattle.semantics.specs.OpenedRegular.{opened-regular}
use Rattle.semantics.proofs.Agree.{regular-test, sound-iff}
use Rattle.answers.specs.declared.Value.TheVariants.{Ok}
use Rattle.answers.specs.declared.Reason.{Reason}
use Rattle.answers.specs.declared.Reason.TheVariants.{Done, TableLength, RosterSize, NodeUnknown}
use Rattle.published.specs.Published.{Set, any, only, nobody, NoGroup, Names, Opening}
use Rattle.published.proofs.SeenState.{published, layout-seen}
use Rattle.published.specs.Opens.{Opens}
use Rattle.published.proofs.SomeBelow.{any-no}

zeros : (n i : ℕ) → ◌≡◌ {A = ℕ} (get_or (replicate n 0) i 0) 0
zeros zero i = refl
zeros (suc n) zero = refl
zeros (suc n) (suc i) = zeros n i

pub opens : (N hidden : ℕ) → N ≤ node_limit → published (opened N hidden) ≡ Opening N (has hidden)
unfolding published opened find
opens N hidden high =
    λ k. record {
      grs = λ s. none;
      fgs = fun_ext (λ i. ap has (at-mapi (λ j x. cond (ltb j N && not (has hidden j)) (single j) 0) (replicate node_limit 0)
          (λ j l. rw (le-ltb j N (omega (arith, length-replicate {A = ℕ} node_limit 0)))) i) ∙ alone i (ltb i N && not (has hidden i))) k;
      fhs = fun_ext (λ i. ap (λ (x : Bool). has hidden i && not x) nobody-in ∙ and-true (has hidden i)) k;
      nds = fun_ext (λ i. ap₂ (λ (x : Bool) (cs : Set). cond (ltb i N)
          (some (record { hidden = has hidden i; connections = cs; gr_names = cond x (Names (λ s. false)) NoGroup })) none) nobody-in (no-links i)) k;
    }
  where
    alone : (i : ℕ) (x : Bool) → has (cond x (single i) 0) ≡ cond x (only i) nobody
    alone i true = fun_ext (has-single i)
    alone i false = fun_ext has-none

    nobody-in : any group_names (λ s. false) ≡ false
    nobody-in = any-no group_names (λ s. false) (λ s. refl)

    no-links : (i : ℕ) → has (get_or (replicate node_limit 0) i 0) ≡ nobody
    no-links i = ap has (zeros node_limit i) ∙ fun_ext has-none

-- ---- on tables

pub exact-opening : (N hidden : ℕ) (t : List ℕ) → Opens (first (opening_tests (length t) N hidden)) N hidden t (opening N hidden t)
unfolding opening opened
exact-opening N hidden t = go (eqb (length t) (table_words names_per_group)) (eqb N 0 || ltb node_limit N) refl (beyond hidden N) refl
  where
    -- a reason that refuses
    turned_down : (r : Reason) → refuses r ≡ true → Opens r N hidden t (refused r t)
    turned_down r e =
        record {
          answer_is = rw e;
          no_list = refl;
          accepted = λ d. absurd (true≢false (sym e ∙ d));
          left = λ d. refl;
        }

    whole : (eqb N 0 || ltb node_limit N) ≡ false → beyond hidden N ≡ false → Regular names_per_group (opened N hidden)
    whole y z =
        let p = neither (eqb N 0) (ltb node_limit N) y in
        let n : N ≡ 0 → ⊥ = eqb-false N 0 p.0 in
        opened-regular N hidden (omega arith) (ltb-false node_limit N p.1) (leb-false (2 ^ N) hidden z) names_per_group

    go : (x y : Bool) → (eqb N 0 || ltb node_limit N) ≡ y → (z : Bool) → beyond hidden N ≡ z
        → let r : Reason = cond (not x) TableLength (cond y RosterSize (cond z NodeUnknown Done)) in
        Opens r N hidden t
        (cond (refuses r) (refused r t) (record { answer = answer_of Ok Done; list = []; table = layout names_per_group (opened N hidden) }))
    go false y p z q = turned_down TableLength refl
    go true true p z q = turned_down RosterSize refl
    go true false p true q = turned_down NodeUnknown refl
    go true false p false q =
        record {
          answer_is = refl;
          no_list = refl;
          accepted = λ d. (
            (sound-iff names_per_group (layout names_per_group (opened N hidden))).0 (regular-test names_per_group (opened N hidden) (whole p q)),
            layout-seen (opened N hidden) (whole p q) ∙ opens N hidden (whole p q).size_high,
          );
          left = λ d. absurd (false≢true d);
        }
