-- What the steps of the lookup by another node and of the sends have at their returns, on a sound table. Assumes nothing.
use Rattle.std.specs.Prelude.{◌≡◌, refl, true, Ok, List, ℕ, ◌<◌}
use Rattle.std.proofs.Common.{sym, ap, subst, arith}
use Rattle.nodes.specs.Sets.{node_limit}
use Rattle.entries.specs.Entries.{host}
use Rattle.semantics.specs.Sizes.{names_per_group}
use Rattle.semantics.specs.State.{State}
use Rattle.commands.specs.declared.Command.TheVariants.{WhereisNameAt, Send, SendName, SendAt}
use Rattle.answers.specs.Answers.{answer_of}
use Rattle.semantics.specs.Steps.{connect, pid_or_undefined, Looked, ask, send_on}
use Rattle.semantics.specs.Test.{sound}
use Rattle.semantics.proofs.Lookups.{host-asked}
use Rattle.semantics.specs.WordsOfState.{Laid}
use Rattle.answers.specs.declared.Value.TheVariants.{Pid}
use Rattle.answers.specs.declared.Reason.{Reason}
use Rattle.answers.specs.declared.Reason.TheVariants.{Done}
use Rattle.inputs.specs.Judge.{Verdict, checked, name_reason, asking_reason, host_reason}
use Rattle.names.specs.Looked.{Lookup, looked_up}
use Rattle.connecting.specs.PairConnected.{connect-same}
use Rattle.place.specs.Sound.{here, regular}
use Rattle.returns.specs.Judged.{passed, step-whereis-at, step-send, step-send_at, step-send-name}
use Rattle.returns.specs.Shown.{Says, says}

module _ (t : List ℕ) (ok : sound names_per_group t ≡ true) where
  -- a node of the roster is one of those that there can be
  pub in-limit : {i : ℕ} → i < (here t).size → i < node_limit
  in-limit h = omega (arith, h, (regular t ok).size_high)

  -- the host of a pid that the code found
  pub host-here : (j s n p : ℕ) {r : Reason} → looked_up (Ok (p, r)) ≡ ask j s n (here t) → host p < (here t).size
  host-here j s n p e = host-asked (regular t ok) j s n p (ap (λ (l : Looked). l.found) (sym e))

module _ (t : List ℕ) (ok : sound names_per_group t ≡ true) (i : ℕ) where
  module _ (j s n : ℕ) {v : Verdict} (e : v ≡ checked (asking_reason (here t).size i j s n)) (h : v ≡ Ok tt) (x : Lookup) (f : looked_up x ≡ ask j s n (here t)) (u : List ℕ) where
    pub whereis-told : Laid names_per_group (connect i j (here t)) u
        → Says 0 i (WhereisNameAt j s n) t (answer_of (pid_or_undefined (looked_up x).found) (looked_up x).reason) u
    whereis-told l =
        subst (λ (y : Looked). Says 0 i (WhereisNameAt j s n) t (answer_of (pid_or_undefined y.found) y.reason) u) (sym f)
        (says t ok (passed (step-whereis-at 0 i (here t) j s n) e h) u l)

    pub send_at-told : Laid names_per_group (send_on i (looked_up x).found (connect i j (here t))) u
        → Says 0 i (SendAt j s n) t (answer_of (pid_or_undefined (looked_up x).found) (looked_up x).reason) u
    send_at-told =
        subst (λ (y : Looked). Laid names_per_group (send_on i y.found (connect i j (here t))) u
        → Says 0 i (SendAt j s n) t (answer_of (pid_or_undefined y.found) y.reason) u) (sym f)
        (says t ok (passed (step-send_at 0 i (here t) j s n) e h) u)

  module _ (s n : ℕ) {v : Verdict} (e : v ≡ checked (name_reason (here t).size i s n)) (h : v ≡ Ok tt) (x : Lookup) (f : looked_up x ≡ ask i s n (here t)) (u : List ℕ) where
    pub send-name-told : Laid names_per_group (send_on i (looked_up x).found (here t)) u
        → Says 0 i (SendName s n) t (answer_of (pid_or_undefined (looked_up x).found) (looked_up x).reason) u
    send-name-told =
        subst (λ (y : Looked). Laid names_per_group (send_on i y.found (here t)) u
        → Says 0 i (SendName s n) t (answer_of (pid_or_undefined y.found) y.reason) u) (sym f)
        (says t ok (passed (step-send-name 0 i (here t) s n) e h) u)

  module _ (p : ℕ) {v : Verdict} (e : v ≡ checked (host_reason (here t).size i p)) (h : v ≡ Ok tt) (u : List ℕ) where
    -- a node connects with itself by doing nothing, so that the caller connects with the host alone
    pub send-told : Laid names_per_group (connect i (host p) (connect i i (here t))) u → Says 0 i (Send p) t (answer_of (Pid p) Done) u
    send-told l =
        says t ok (passed (step-send 0 i (here t) p) e h) u
        (subst (λ (st : State). Laid names_per_group (connect i (host p) st) u) (connect-same i i (here t) refl) l)
