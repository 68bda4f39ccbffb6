-- The ends of a command on a sound table: refused, denied, settled in its s_group, or told as a list. Assumes nothing.
use Rattle.std.specs.Prelude.{◌≡◌, true, Ok, Err, List, ℕ, ◌<◌, length}
use Rattle.std.proofs.Common.{ap, ◌∙◌, arith}
use Rattle.semantics.specs.Sizes.{group_limit, names_per_group}
use Rattle.semantics.specs.State.{Group}
use Rattle.commands.specs.declared.Command.{Command}
use Rattle.semantics.specs.GroupCommands.{GroupCommand, within}
use Rattle.answers.specs.Answers.{answer_of}
use Rattle.semantics.specs.Steps.{target, Outcome, Result}
use Rattle.semantics.specs.Test.{sound}
use Rattle.semantics.specs.Call.{listed_over}
use Rattle.semantics.specs.Places.{group_at}
use Rattle.answers.specs.declared.Answer.{Answer}
use Rattle.answers.specs.declared.Value.{Value}
use Rattle.answers.specs.declared.Value.TheVariants.{Error}
use Rattle.answers.specs.declared.Reason.{Reason}
use Rattle.place.specs.Place.{Access, place_for}
use Rattle.inputs.specs.Judge.{Verdict, checked}
use Rattle.returns.specs.Judged.{Goes, ForMembers, refused, denied, allowed}
use Rattle.place.specs.Seats.{Open, seat-group}
use Rattle.place.specs.Sound.{here, groups_few, granted-here, seat-below}
use Rattle.returns.specs.Shown.{Says, Lists, says-kept, lists}
use Rattle.returns.specs.Settled.{Settles, said}
use Rattle.returns.specs.Listing.{Told}

module _ (t : List ℕ) (ok : sound names_per_group t ≡ true) where
  -- the s_group of a member stands below their limit
  pub open-below : {i s k : ℕ} → Open i s k (here t).groups → k < group_limit
  open-below o = omega (arith, seat-below t ok o.seat, groups_few t ok)

  -- where the code found that node i is a member, it is
  pub opened : (i s : ℕ) {k : ℕ} (a : Access) → a ≡ place_for i s (here t).groups → a ≡ Ok k → Open i s k (here t).groups
  opened i s {k} a e d = granted-here t ok i s a (Ok k) e d

  module _ {room i : ℕ} {c : GroupCommand} {r : Reason} {v : Value} {k : Group → Outcome} (f : ForMembers room i c (here t) r v k) {x : Verdict} (e : x ≡ checked r) where
    pub says-refused : {q : Reason} → x ≡ Err q → Says room i (within c) t (answer_of Error q) t
    says-refused h = says-kept t ok (refused f.judging e h)

    module _ (h : x ≡ Ok tt) where
      pub says-denied : {d : Reason} (a : Access) → a ≡ place_for i (target c) (here t).groups → a ≡ Err d → Says room i (within c) t (answer_of v d) t
      says-denied {d} a p n = says-kept t ok (denied f e h (granted-here t ok i (target c) a (Err d) p n))

      pub says-settled : {at : ℕ} (o : Open i (target c) at (here t).groups) {a : Answer} {u : List ℕ}
          → Settles (target c) (k o.seat.group) (here t) a u → Says room i (within c) t a u
      says-settled o w = said t ok (allowed f e h o) w

  -- ---- with a run that is lent for a list

  module _ (out : List ℕ) where
    -- the answer and the list of the step
    pub heard : (o : List ℕ) {i : ℕ} {c : Command} {w : Result} {a : Answer} → Goes (length out) i c (here t) w → a ≡ w.answer → o ≡ listed_over w.list out
        → Lists i c t out a o
    heard o g e l = let q = lists t ok out g in record { value = e ∙ q.value; out_after = l ∙ q.out_after }

    module _ {i : ℕ} {c : GroupCommand} {r : Reason} {v : Value} {k : Group → Outcome} (f : ForMembers (length out) i c (here t) r v k) {x : Verdict} (e : x ≡ checked r) where
      pub lists-refused : {q : Reason} → x ≡ Err q → Lists i (within c) t out (answer_of Error q) out
      lists-refused h = lists t ok out (refused f.judging e h)

      module _ (h : x ≡ Ok tt) where
        pub lists-denied : {d : Reason} (a : Access) → a ≡ place_for i (target c) (here t).groups → a ≡ Err d → Lists i (within c) t out (answer_of v d) out
        lists-denied {d} a p n = lists t ok out (denied f e h (granted-here t ok i (target c) a (Err d) p n))

        pub lists-told : {at : ℕ} → Open i (target c) at (here t).groups → {a : Answer} (o : List ℕ) → Told (k (group_at (here t).groups at)) out a o → Lists i (within c) t out a o
        lists-told p o w =
            let is = seat-group p.seat in
            heard o (allowed f e h p) (w.answer ∙ ap (λ (g : Group). (k g).answer) is) (w.listed ∙ ap (λ (g : Group). listed_over (k g).list out) is)
