-- What holds of the arguments where no reason speaks against them. Assumes nothing.
use Rattle.std.specs.Prelude.{◌≡◌, refl, Bool, true, false, not, cond, ℕ, ◌<◌, eqb, leb}
use Rattle.std.proofs.Common.{sym, ap, ◌∙◌, true≢false, arith, leb-false}
use Rattle.std.proofs.lemmas.Bool.{false≢true, eqb-false, not-false}
use Rattle.nodes.specs.Sets.{has}
use Rattle.entries.specs.Entries.{host}
use Rattle.semantics.specs.Sizes.{group_limit, group_names}
use Rattle.semantics.specs.Ranges.{bad_group}
use Rattle.semantics.specs.Truth.{neither}
use Rattle.answers.specs.declared.Reason.{Reason}
use Rattle.answers.specs.declared.Reason.TheVariants.{Done, TableLength, RosterSize, Unsound, CallerUnknown, GroupNameRange, NameZero, NodeUnknown, GroupUnknown, NotMember, NameTaken, PidTaken, NotRegistered, NamespaceFull, CallerOutside, GroupTaken, GroupsFull, RunShort, NoLaunchFile, GroupsDiffer, AtomUnknown, HostOutside, IndexWrong}
use Rattle.inputs.specs.Judge.{is_done, first_reason, caller_reason, group_reason, name_reason, set_reason, creation_reason, asking_reason, host_reason}

-- ---- reasons

pub done-is : (r : Reason) → is_done r ≡ true → r ≡ Done
done-is Done h = refl
done-is TableLength h = absurd (false≢true h)
done-is RosterSize h = absurd (false≢true h)
done-is Unsound h = absurd (false≢true h)
done-is CallerUnknown h = absurd (false≢true h)
done-is GroupNameRange h = absurd (false≢true h)
done-is NameZero h = absurd (false≢true h)
done-is NodeUnknown h = absurd (false≢true h)
done-is GroupUnknown h = absurd (false≢true h)
done-is NotMember h = absurd (false≢true h)
done-is NameTaken h = absurd (false≢true h)
done-is PidTaken h = absurd (false≢true h)
done-is NotRegistered h = absurd (false≢true h)
done-is NamespaceFull h = absurd (false≢true h)
done-is CallerOutside h = absurd (false≢true h)
done-is GroupTaken h = absurd (false≢true h)
done-is GroupsFull h = absurd (false≢true h)
done-is RunShort h = absurd (false≢true h)
done-is NoLaunchFile h = absurd (false≢true h)
done-is GroupsDiffer h = absurd (false≢true h)
done-is AtomUnknown h = absurd (false≢true h)
done-is HostOutside h = absurd (false≢true h)
done-is IndexWrong h = absurd (false≢true h)

-- a test with a reason of its own did not hold
missed : (b : Bool) (k r : Reason) → is_done k ≡ false → cond b k r ≡ Done → (b ≡ false) × (r ≡ Done)
missed true k r h e = absurd (true≢false (sym (ap is_done e) ∙ h))
missed false k r h e = (refl, e)

-- neither of two reasons
none_of : (r q : Reason) → first_reason r q ≡ Done → (r ≡ Done) × (q ≡ Done)
none_of r q e = go (is_done r) refl e
  where
    go : (b : Bool) → is_done r ≡ b → cond b q r ≡ Done → (r ≡ Done) × (q ≡ Done)
    go true h d = (done-is r h, d)
    go false h d = absurd (true≢false (sym (ap is_done d) ∙ h))

-- ---- arguments

pub caller-done : (N i : ℕ) → caller_reason N i ≡ Done → i < N
caller-done N i e = leb-false N i (missed (leb N i) CallerUnknown Done refl e).0

pub group_done : (N i s : ℕ) → group_reason N i s ≡ Done → (i < N) × (0 < s) × (s < group_names)
group_done N i s e =
    let a = none_of (caller_reason N i) _ e in
    let b = neither (eqb s 0) (leb group_names s) (missed (bad_group s) GroupNameRange Done refl a.1).0 in
    (caller-done N i a.0, omega (arith, eqb-false s 0 b.0), leb-false group_names s b.1)

pub name_done : (N i s n : ℕ) → name_reason N i s n ≡ Done → (group_reason N i s ≡ Done) × (0 < n)
name_done N i s n e =
    let a = none_of (group_reason N i s) _ e in
    (a.0, omega (arith, eqb-false n 0 (missed (eqb n 0) NameZero Done refl a.1).0))

pub creation_done : (N G i s set : ℕ) (taken : Bool) → creation_reason N G i s set taken ≡ Done
    → (set_reason N i s set ≡ Done) × (has set i ≡ true) × (taken ≡ false) × (G < group_limit)
creation_done N G i s set taken e =
    let a = none_of (set_reason N i s set) _ e in
    let b = missed (not (has set i)) CallerOutside _ refl a.1 in
    let c = missed taken GroupTaken _ refl b.1 in
    (a.0, not-false _ b.0, c.0, leb-false group_limit G (missed (leb group_limit G) GroupsFull Done refl c.1).0)

pub asking_done : (N i j s n : ℕ) → asking_reason N i j s n ≡ Done → (i < N) × (s < group_names) × (0 < n) × (j < N)
asking_done N i j s n e =
    let a = none_of (caller_reason N i) _ e in
    let b = missed (leb group_names s) GroupNameRange _ refl a.1 in
    let c = missed (eqb n 0) NameZero _ refl b.1 in (
      caller-done N i a.0,
      leb-false group_names s b.0,
      omega (arith, eqb-false n 0 c.0),
      leb-false N j (missed (leb N j) NodeUnknown Done refl c.1).0,
    )

pub host_done : (N i p : ℕ) → host_reason N i p ≡ Done → (i < N) × (host p < N)
host_done N i p e =
    let a = none_of (caller_reason N i) _ e in
    (caller-done N i a.0, leb-false N (host p) (missed (leb N (host p)) NodeUnknown Done refl a.1).0)
