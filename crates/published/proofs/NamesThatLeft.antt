-- What remove_nodes leaves of the names (02, request 2), as lookups find them: a name whose pid lives on a member that left is found by nobody in that
-- s_group, those who stay find every other name as before, a stranger's as a stranger's, and the other s_groups are as they were. Assumes nothing.
use Rattle.std.proofs.Math.Path.{◌≡◌, refl, ap, subst}
use Rattle.std.proofs.Common.{sym, ◌∙◌, true≢false, arith, eq-eqb, ne_eqb}
use Rattle.std.proofs.Math.Bool.{Bool, true, false, cond}
use Rattle.std.specs.Prelude.{not, ◌&&◌, List, ℕ, ◌<◌, eqb}
use Rattle.std.proofs.Math.Option.{Option, none, some}
use Rattle.nodes.specs.NodeSets.{node_limit, has}
use Rattle.entries.specs.Pids.{host}
use Rattle.entries.specs.EntryLaws.{held_or_not}
use Rattle.commands.specs.declared.Command.TheVariants.{WhereisName, RemoveNodes}
use Rattle.answers.specs.Answers.{answer_of}
use Rattle.answers.specs.declared.Value.TheVariants as W
use Rattle.answers.specs.declared.Reason.TheVariants.{Done}
use Rattle.semantics.specs.Sizes.{names_per_group}
use Rattle.semantics.specs.Soundness.{Sound}
use Rattle.semantics.specs.Fits.{Fits}
use Rattle.semantics.specs.Steps.{beside}
use Rattle.semantics.proofs.Lookups.{beside-refuses}
use Rattle.semantics.specs.Asks.{lookup_here}
use Rattle.semantics.specs.Call.{call}
use Rattle.semantics.proofs.Calls.{calls-keep-sound}
use Rattle.published.specs.Published.{Set, Map, of_some, ◌∖◌, ◌∩◌, any, with_at, less_at, SGroup, Published, IsSGroupSNode, FindName, MergeFreeNormalGroups, AddFreeNormalGroup, NewFreeNodes, True, Error, Undefined, Pid, gives, leaving, less_hosted, less_members, transition}
use Rattle.published.proofs.SomeBelow.{any-hit}
use Rattle.published.proofs.SeenState.{said, seen_table}
use Rattle.published.proofs.Exact.{accepted_call}
use Rattle.published.proofs.Strangers.{beside-a-pid}

-- ---- nodes that become free change no s_group

either : (x : Bool) (X Y Z : Published) → Y.grs ≡ X.grs → Z.grs ≡ X.grs → (cond x Y Z).grs ≡ X.grs
either true X Y Z p q = p
either false X Y Z p q = q

merged_keeps : (nis css : Set) (X : Published) → (MergeFreeNormalGroups nis css X).grs ≡ X.grs
unfolding MergeFreeNormalGroups
merged_keeps nis css X = either (not (any node_limit nis)) X X _ refl (either (not (any node_limit css)) X _ _ refl refl)

freed-keeps : (X : Published) → (NewFreeNodes X).grs ≡ X.grs
unfolding NewFreeNodes AddFreeNormalGroup
freed-keeps X = merged_keeps _ _ _

-- ---- a removal by the member ni of the s_group g, which is s

module _ (s set ni : ℕ) (X : Published) (g : SGroup) (is : X.grs s ≡ some g) (member : g.nodes ni ≡ true) where
  -- those who leave, and those who stay
  abbrev leave : Set
  leave = g.nodes ∩ has set

  abbrev stay : Set
  stay = g.nodes ∖ has set

  -- the s_group of those who stay
  abbrev rest : SGroup
  rest = record { nodes = stay; namespace = less_hosted leave g.namespace }

  -- the s_groups afterwards
  abbrev after : Map SGroup
  after = (transition (RemoveNodes s set) ni X).state.grs

  after_is : after ≡ cond (any node_limit stay) (with_at s rest X.grs) (less_at s X.grs)
  unfolding transition
  after_is =
      ap (λ (o : Option SGroup). (of_some (gives Error X) (λ h. cond (h.nodes ni) (gives True (leaving s (has set) (less_members s (has set) h X.grs) X)) (gives Error X)) o).state.grs) is
      ∙ ap (λ (x : Bool). (cond x (gives True (leaving s (has set) (less_members s (has set) g X.grs) X)) (gives Error X)).state.grs) member ∙ freed-keeps _

  -- other s_groups have the members and names that they had
  pub others-stay : (t : ℕ) → (s ≡ t → ⊥) → after t ≡ X.grs t
  others-stay t n = ap (λ (m : Map SGroup). m t) after_is ∙ go (any node_limit stay)
    where
      go : (x : Bool) → cond x (with_at s rest X.grs) (less_at s X.grs) t ≡ X.grs t
      go true = rw (ne_eqb s t)
      go false = rw (ne_eqb s t)

  after-s : after s ≡ cond (any node_limit stay) (some rest) none
  after-s = ap (λ (m : Map SGroup). m s) after_is ∙ go (any node_limit stay)
    where
      go : (x : Bool) → cond x (with_at s rest X.grs) (less_at s X.grs) s ≡ cond x (some rest) none
      go true = rw (eq-eqb s s refl)
      go false = rw (eq-eqb s s refl)

  -- a pid that is found there lives on no member that left
  pub moved-away : (j n p : ℕ) → FindName j s n after ≡ some p → leave (host p) ≡ false
  moved-away j n p e =
      go (eqb s 0) (any node_limit stay)
      (sym (ap (λ (o : Option SGroup). cond (eqb s 0) none (of_some none (λ h. cond (h.nodes j) (h.namespace n) none) o)) after-s) ∙ e)
    where
      kept : (q : ℕ) (x : Bool) → leave (host q) ≡ x → cond x none (some q) ≡ some p → leave (host p) ≡ false
      kept q true l r = held_or_not r
      kept q false l r = let same : q ≡ p = cc in ap (λ (k : ℕ). leave (host k)) (sym same) ∙ l

      here : (x : Bool) (o : Option ℕ) → cond x (of_some none (λ q. cond (leave (host q)) none (some q)) o) none ≡ some p → leave (host p) ≡ false
      here false o r = held_or_not r
      here true none r = held_or_not r
      here true (some q) r = kept q (leave (host q)) refl r

      go : (x y : Bool) → cond x none (of_some none (λ h. cond (h.nodes j) (h.namespace n) none) (cond y (some rest) none)) ≡ some p → leave (host p) ≡ false
      go true y r = held_or_not r
      go false false r = held_or_not r
      go false true r = here (stay j) (g.namespace n) r

  -- and on a member exactly where it lived on one before
  pub same-member : (j n p : ℕ) → FindName j s n after ≡ some p → IsSGroupSNode (host p) s after ≡ g.nodes (host p)
  same-member j n p e =
      ap (of_some false (λ (h : SGroup). h.nodes (host p))) after-s ∙ go (any node_limit stay)
      (sym (ap (λ (o : Option SGroup). cond (eqb s 0) none (of_some none (λ h. cond (h.nodes j) (h.namespace n) none) o)) after-s) ∙ e)
    where
      still : (x y : Bool) → x && y ≡ false → x && not y ≡ x
      still true true q = sym q
      still true false q = refl
      still false y q = refl

      nobody-finds : (x : Bool) → ◌≡◌ {A = Option ℕ} (cond x none none) none
      nobody-finds true = refl
      nobody-finds false = refl

      go : (x : Bool) → cond (eqb s 0) none (of_some none (λ h. cond (h.nodes j) (h.namespace n) none) (cond x (some rest) none)) ≡ some p
          → of_some false (λ (h : SGroup). h.nodes (host p)) (cond x (some rest) none) ≡ g.nodes (host p)
      go true r = still (g.nodes (host p)) (has set (host p)) (moved-away j n p e)
      go false r = held_or_not (sym (nobody-finds (eqb s 0)) ∙ r)

  -- a member that stays finds what it found, but for those
  pub others-found : (j n : ℕ) → j < node_limit → stay j ≡ true → FindName j s n after ≡ less_hosted leave (λ m. FindName j s m X.grs) n
  others-found j n l h =
      ap (λ (o : Option SGroup). cond (eqb s 0) none (of_some none (λ k. cond (k.nodes j) (k.namespace n) none) o))
      (after-s ∙ ap (λ (x : Bool). cond x (some rest) none) (any-hit node_limit stay j l h))
      ∙ rw (h, is) (go (eqb s 0) (g.nodes j) (was (g.nodes j) (has set j) h))
    where
      was : (x y : Bool) → x && not y ≡ true → x ≡ true
      was true y e = refl
      was false y e = e

      go : (x y : Bool) → y ≡ true → cond x none (less_hosted leave g.namespace n)
          ≡ of_some none (λ p. cond (leave (host p)) none (some p)) (cond x none (cond y (g.namespace n) none))
      go true y e = refl
      go false true e = refl
      go false false e = absurd (true≢false (sym e))

-- ---- on tables

module _ (i s set : ℕ) (t : List ℕ) (h : Sound names_per_group t) (fits : Fits (RemoveNodes s set)) (g : SGroup) (is : (seen_table t).grs s ≡ some g)
    (done : (call 0 i (RemoveNodes s set) t).answer ≡ answer_of W.True Done) where
  -- who is heard is a member
  by-member : g.nodes i ≡ true
  unfolding transition
  by-member = go (g.nodes i) refl
    where
      X : Published
      X = seen_table t

      go : (x : Bool) → g.nodes i ≡ x → x ≡ true
      go true e = refl
      go false e =
          let v : W.Error ≡ W.True =
          sym (ap (λ (o : Option SGroup). (said (of_some (gives Error X) (λ k. cond (k.nodes i) (gives True (leaving s (has set) (less_members s (has set) k X.grs) X)) (gives Error X)) o).value).0) is
          ∙ ap (λ (x : Bool). (said (cond x (gives True (leaving s (has set) (less_members s (has set) g X.grs) X)) (gives Error X)).value).0) e)
          ∙ (accepted_call 0 i (RemoveNodes s set) t h fits W.True Done done refl).0 in
          let z : ◌≡◌ {A = ℕ} 0 1 = cc in absurd (omega arith)

  -- the table that is left
  abbrev left : List ℕ
  left = (call 0 i (RemoveNodes s set) t).table

  left-sound : Sound names_per_group left
  left-sound = calls-keep-sound 0 i (RemoveNodes s set) t fits h

  removed : seen_table left ≡ (transition (RemoveNodes s set) i (seen_table t)).state
  removed = (accepted_call 0 i (RemoveNodes s set) t h fits W.True Done done refl).1

  -- what a lookup tells is what FindName finds
  found : (j n p : ℕ) → Fits (WhereisName s n) → (call 0 j (WhereisName s n) left).answer.value ≡ W.Pid p
      → FindName j s n (transition (RemoveNodes s set) i (seen_table t)).state.grs ≡ some p
  unfolding transition
  found j n p f e =
      let x : Bool = IsSGroupSNode (host p) s (seen_table left).grs in
      let a = accepted_call 0 j (WhereisName s n) left left-sound f (W.Pid p) (beside x)
      (λ k. record { value = e k; reason = beside-a-pid 0 j lookup_here left left-sound p e k }) (beside-refuses x) in
      subst (λ (Y : Published). FindName j s n Y.grs ≡ some p) removed (asked (IsSGroupSNode j s (seen_table left).grs) (FindName j s n (seen_table left).grs) a.0)
    where
      asked : (x : Bool) (o : Option ℕ) → (said (of_some Undefined Pid (cond x o none))).0 ≡ W.Pid p → o ≡ some p
      asked true (some q) r = let same : q ≡ p = cc in ap some same
      asked true none r = let z : ◌≡◌ {A = ℕ} 0 1 = cc in absurd (omega arith)
      asked false o r = let z : ◌≡◌ {A = ℕ} 0 1 = cc in absurd (omega arith)

  -- A node that left is not found there any more: no plain lookup in the s_group, by whatever node, answers a pid of a member that this call removed
  pub not_found : (j n p : ℕ) → Fits (WhereisName s n) → (call 0 j (WhereisName s n) left).answer.value ≡ W.Pid p → g.nodes (host p) && has set (host p) ≡ false
  not_found j n p f e = moved-away s set i (seen_table t) g is by-member j n p (found j n p f e)

  -- and what is still found there is a stranger's or a member's as before: no removal makes a stranger
  pub as_before : (j n p : ℕ) → Fits (WhereisName s n) → (call 0 j (WhereisName s n) left).answer.value ≡ W.Pid p
      → (call 0 j (WhereisName s n) left).answer.reason ≡ beside (g.nodes (host p))
  as_before j n p f e =
      beside-a-pid 0 j lookup_here left left-sound p e
      ∙ ap beside (ap (λ (Y : Published). IsSGroupSNode (host p) s Y.grs) removed ∙ same-member s set i (seen_table t) g is by-member j n p (found j n p f e))
