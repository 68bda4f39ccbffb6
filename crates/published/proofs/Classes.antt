-- 000's property of states: the three classes of groups divide the nodes; and an answer leaves a well-formed state well-formed.
-- Assumes nothing.
use Rattle.std.specs.Prelude.{◌≡◌, refl, Bool, true, false, not, ◌&&◌, ◌||◌, ℕ}
use Rattle.std.proofs.Common.{sym, ap, ap₂, ◌∙◌, subst, eq-eqb, lt-ltb}
use Rattle.std.proofs.lemmas.Bool.{false≢true}
use Rattle.std.proofs.Math.Bool.{and_self, and-true}
use Rattle.std.proofs.Math.Option.{Option, none, some}
use Rattle.semantics.specs.Sizes.{group_names}
use Rattle.commands.specs.declared.Command.{Command}
use Rattle.semantics.specs.Ranges.{held}
use Rattle.semantics.specs.Fits.{Fits}
use Rattle.semantics.proofs.StepsKeep.{keeps}
use Rattle.published.specs.Published.{of_some, SGroup, Node, Published, those, IsSGroupNode, IsFreeNormalNode, IsFreeHiddenNode}
use Rattle.published.specs.Refusals.{Answered, answer}
use Rattle.published.specs.WellFormed.{free, WellFormed}
use Rattle.published.proofs.SomeBelow.{any_case}
use Rattle.published.proofs.GroupsSeen.{member}
use Rattle.published.proofs.Exact.{exact}
use Rattle.published.proofs.Built.{built, built-regular, built-seen}
use Rattle.published.proofs.Fair.{fair}

module _ (X : Published) (wf : WellFormed X) where
  pub normal-is : (ni : ℕ) → IsFreeNormalNode ni X.fgs ≡ free false X ni
  normal-is ni = wf.free_normal ni ni ∙ rw (eq-eqb ni ni refl, and-true (free false X ni)) (and_self (free false X ni))

  -- a member of an s_group is a node
  in_group : (ni : ℕ) → IsSGroupNode ni X.grs ≡ true → held (X.nds ni) ≡ true
  in_group ni h = any_case group_names (λ s. member ni (X.grs s)) h (λ s l e. go s (X.grs s) refl e)
    where
      go : (s : ℕ) (o : Option SGroup) → X.grs s ≡ o → member ni o ≡ true → held (X.nds ni) ≡ true
      go s none e k = absurd (false≢true k)
      go s (some g) e k = wf.roster ni ∙ lt-ltb ni wf.size ((wf.groups s g e).on_roster ni k)

  -- the nodes are those of the three classes
  pub covered : (ni : ℕ) → held (X.nds ni) ≡ IsSGroupNode ni X.grs || (IsFreeNormalNode ni X.fgs || IsFreeHiddenNode ni X.fhs)
  covered ni =
      go (IsSGroupNode ni X.grs) refl (X.nds ni) refl
      ∙ sym (ap₂ (λ (x y : Bool). IsSGroupNode ni X.grs || (x || y)) (normal-is ni) (wf.free_hidden ni))
    where
      either : (x : Bool) → true ≡ (not x && true) || (x && true)
      either true = refl
      either false = refl

      go : (g : Bool) → IsSGroupNode ni X.grs ≡ g → (o : Option Node) → X.nds ni ≡ o
          → held o ≡ g || ((of_some false (λ nd. not nd.hidden) o && not g) || (of_some false (λ nd. nd.hidden) o && not g))
      go true e o q = sym (ap held q) ∙ in_group ni e
      go false e none q = refl
      go false e (some nd) q = either nd.hidden

  -- no node is in two of them
  pub apart : (ni : ℕ) → (IsSGroupNode ni X.grs && IsFreeNormalNode ni X.fgs ≡ false) × (IsSGroupNode ni X.grs && IsFreeHiddenNode ni X.fhs ≡ false)
      × (IsFreeNormalNode ni X.fgs && IsFreeHiddenNode ni X.fhs ≡ false)
  apart ni = (
    ap (λ (x : Bool). IsSGroupNode ni X.grs && x) (normal-is ni) ∙ not-both (IsSGroupNode ni X.grs) (those (λ nd. not nd.hidden) X.nds ni),
    ap (λ (x : Bool). IsSGroupNode ni X.grs && x) (wf.free_hidden ni) ∙ not-both (IsSGroupNode ni X.grs) (those (λ nd. nd.hidden) X.nds ni),
    ap₂ (λ (x y : Bool). x && y) (normal-is ni) (wf.free_hidden ni) ∙ not-two (IsSGroupNode ni X.grs) (X.nds ni),
  )
    where
      not-both : (g x : Bool) → g && (x && not g) ≡ false
      not-both true true = refl
      not-both true false = refl
      not-both false x = refl

      types : (x g : Bool) → (not x && not g) && (x && not g) ≡ false
      types true g = refl
      types false true = refl
      types false false = refl

      not-two : (g : Bool) (o : Option Node) → (of_some false (λ nd. not nd.hidden) o && not g) && (of_some false (λ nd. nd.hidden) o && not g) ≡ false
      not-two g none = refl
      not-two g (some nd) = types nd.hidden g

  -- an answer leaves it well-formed
  pub still-fair : (room ni : ℕ) (c : Command) → Fits c → WellFormed (answer room c ni X).state
  still-fair room ni c fits =
      subst (λ (Y : Published). WellFormed (answer room c ni Y).state) (built-seen X wf)
      (subst (λ (a : Answered). WellFormed a.state) (exact room ni c (built X wf) (built-regular X wf) fits)
      (fair _ (keeps room ni c (built X wf) (built-regular X wf) fits)))
