-- Strangers (02, request 3). Beside the pid of a lookup stands 21 exactly where its host is not a member of the s_group in which the name was looked up, and
-- 0 where it is one. No other answer has 21. A call that says it does what it does with 0. Assumes nothing.
use Rattle.std.specs.Prelude.{◌≡◌, ◌↔◌, ◌⊎◌, Bool, true, false, ◌&&◌, ◌||◌, cond, List, [], ◌∷◌, ℕ}
use Rattle.std.proofs.Math.Path.{refl, sym, ap}
use Rattle.std.proofs.Common.{◌∙◌, subst, inl, inr, ⊎_elim, true≢false, arith, eq-eqb}
use Rattle.std.proofs.lemmas.Bool.{false≢true}
use Rattle.std.proofs.Math.Bool.{and-eq-true_iff}
use Rattle.std.proofs.Math.Option.{Option, none, some}
use Rattle.nodes.specs.Sets.{has}
use Rattle.entries.specs.Entries.{host}
use Rattle.entries.specs.EntryLaws.{held_or_not}
use Rattle.commands.specs.declared.Command.{Command}
use Rattle.commands.specs.declared.Command.TheVariants.{RegisterName, ReRegisterName, UnregisterName, RegisteredNames, WhereisName, WhereisNameAt, Send, SendName, SendAt, NewSGroup, AddNodes, RemoveNodes, DeleteSGroup, OwnNodes, OwnSGroups}
use Rattle.answers.specs.Answers.{number, refuses, answer_of}
use Rattle.answers.specs.declared.Answer.{Answer}
use Rattle.answers.specs.declared.Value.TheVariants.{Pid, Grouped}
use Rattle.answers.specs.declared.Reason.TheVariants.{Done, HostOutside}
use Rattle.semantics.specs.Sizes.{names_per_group}
use Rattle.semantics.specs.State.{Group, find}
use Rattle.semantics.specs.Table.{state_of}
use Rattle.semantics.specs.Soundness.{Sound}
use Rattle.semantics.proofs.Agree.{sound-iff}
use Rattle.semantics.specs.FirstReason.{Test, first}
use Rattle.semantics.specs.Fits.{Fits}
use Rattle.semantics.specs.Asks.{Looks, lookup_here, lookup_at, send_here, send_at, LooksNone}
use Rattle.semantics.proofs.Lookups.{pid_of, Told, asker, lookup-told}
use Rattle.semantics.specs.Steps.{beside}
use Rattle.semantics.specs.Call.{Call, call}
use Rattle.semantics.proofs.Calls.{call-sound, calls-keep-sound}
use Rattle.published.specs.Published as P
use Rattle.published.specs.Published.{of_some, Published, SGroup, IsSGroupSNode, gives, joining, ◌∪◌, transition}
use Rattle.published.proofs.SeenState.{seen, published, said, seen_table, seen-sound}
use Rattle.published.proofs.GroupsSeen.{on_some, member}
use Rattle.published.specs.Refusals.{Answered, tests, answer}
use Rattle.published.proofs.Exact.{exact-call, accepted_call}

-- the reason beside a pid tells whether its host is a member
pub beside-outside : (x : Bool) → beside x ≡ HostOutside → x ≡ false
beside-outside true e = let z : number Done ≡ number HostOutside = ap number e in absurd (omega arith)
beside-outside false e = refl

-- an answer to a lookup in s: a pid, and whether its host is a member of s; or a refusal, without a pid
abbrev pub PidOrRefused : ℕ → Published → Answer → Type 0
PidOrRefused s X a =
    ((p : ℕ) × (a ≡ answer_of (Pid p) (beside (IsSGroupSNode (host p) s X.grs)))) ⊎ ((refuses a.reason ≡ true) × (pid_of a.value ≡ none))

-- ---- the four lookups

module _ (room i : ℕ) {c : Command} {s n : ℕ} (k : Looks c s n) (t : List ℕ) (h : Sound names_per_group t) where
  abbrev heard : Answer
  heard = (call room i c t).answer

  -- the members of s
  members-seen : (g : Group) → find s (state_of names_per_group t).groups ≡ some g → (m : ℕ) → has g.members m ≡ IsSGroupSNode m s (seen_table t).grs
  unfolding published
  members-seen g f m = sym (ap (λ (X : Published). IsSGroupSNode m s X.grs) (seen-sound t h) ∙ ap (λ (o : Option Group). member m (on_some seen o)) f)

  -- the answer of the step is one of these
  pub pid-or-refused : PidOrRefused s (seen_table t) heard
  pid-or-refused =
      ⊎_elim
      (λ w. inl (w.0, w.2 ∙ ap (answer_of (Pid w.0)) (w.1.told ∙ ap beside (members-seen w.1.group w.1.there (host w.0)))))
      (λ r. inr r)
      (subst (λ (x : Call). Told (asker k i) s n (state_of names_per_group t) x.answer) (sym (call-sound room i c t ((sound-iff names_per_group t).1 h)))
      (lookup-told room i k (state_of names_per_group t))).is

  -- beside a pid stands 0 where its host is a member of s, and 21 where it is not
  pub beside-a-pid : (p : ℕ) → heard.value ≡ Pid p → heard.reason ≡ beside (IsSGroupSNode (host p) s (seen_table t).grs)
  beside-a-pid p e = go pid-or-refused
    where
      go : PidOrRefused s (seen_table t) heard → heard.reason ≡ beside (IsSGroupSNode (host p) s (seen_table t).grs)
      go (inl (q, a)) =
          let v : Pid p ≡ Pid q = sym e ∙ ap (λ (x : Answer). x.value) a in
          let same : q ≡ p = cc in
          ap (λ (x : Answer). x.reason) a ∙ ap (λ (x : ℕ). beside (IsSGroupSNode (host x) s (seen_table t).grs)) same
      go (inr r) = held_or_not (sym r.1 ∙ ap pid_of e)

  -- 21 is said exactly then
  pub exactly : (heard.reason ≡ HostOutside) ↔ ((p : ℕ) × (heard.value ≡ Pid p) × (IsSGroupSNode (host p) s (seen_table t).grs ≡ false))
  exactly = (λ e. go e pid-or-refused, λ w. beside-a-pid w.0 w.1 ∙ ap beside w.2)
    where
      go : heard.reason ≡ HostOutside → PidOrRefused s (seen_table t) heard
          → (p : ℕ) × (heard.value ≡ Pid p) × (IsSGroupSNode (host p) s (seen_table t).grs ≡ false)
      go e (inl (q, a)) = (q, ap (λ (x : Answer). x.value) a, beside-outside _ (sym (ap (λ (x : Answer). x.reason) a) ∙ e))
      go e (inr r) = absurd (false≢true (ap refuses (sym e) ∙ r.0))

  -- and what the call does is 000's rule, as with 0
  pub as-with-0 : Fits c → heard.reason ≡ HostOutside → seen_table (call room i c t).table ≡ (transition c i (seen_table t)).state
  as-with-0 fits e = (accepted_call room i c t h fits heard.value HostOutside (ap (answer_of heard.value) e) refl).1

-- ---- all others

-- whether each of these reasons refuses
abbrev all_refuse : List Test → Bool
all_refuse [] = true
all_refuse (t ∷ ts) = refuses t.reason && all_refuse ts

none-stranger : (ts : List Test) → all_refuse ts ≡ true → first ts ≡ HostOutside → ⊥
none-stranger [] a e = let z : number Done ≡ number HostOutside = ap number e in omega arith
none-stranger (t ∷ ts) a e =
    let both = (and-eq-true_iff (refuses t.reason) (all_refuse ts)).0 a in
    go t.holds e (none-stranger ts both.1) both.0
  where
    go : (x : Bool) → cond x t.reason (first ts) ≡ HostOutside → (first ts ≡ HostOutside → ⊥) → refuses t.reason ≡ true → ⊥
    go true q f r = true≢false (sym r ∙ ap refuses q)
    go false q f r = f q

others-refuse : (room : ℕ) (c : Command) (i : ℕ) (X : Published) → LooksNone c → all_refuse (tests room c i X) ≡ true
unfolding tests
others-refuse room (RegisterName s n p) i X k = refl
others-refuse room (ReRegisterName s n p) i X k = refl
others-refuse room (UnregisterName s n) i X k = refl
others-refuse room (RegisteredNames s) i X k = refl
others-refuse room (WhereisName s n) i X k = absurd (k s n lookup_here)
others-refuse room (WhereisNameAt j s n) i X k = absurd (k s n lookup_at)
others-refuse room (Send p) i X k = refl
others-refuse room (SendName s n) i X k = absurd (k s n send_here)
others-refuse room (SendAt j s n) i X k = absurd (k s n send_at)
others-refuse room (NewSGroup s set) i X k = refl
others-refuse room (AddNodes s set) i X k = refl
others-refuse room (RemoveNodes s set) i X k = refl
others-refuse room (DeleteSGroup s) i X k = refl
others-refuse room OwnNodes i X k = refl
others-refuse room OwnSGroups i X k = refl

-- a command that looks nothing up, send to a pid among them, never says 21
pub no_other : (room i : ℕ) (c : Command) → LooksNone c → Fits c → (t : List ℕ) → Sound names_per_group t → (call room i c t).answer.reason ≡ HostOutside → ⊥
unfolding answer
no_other room i c k fits t h e =
    none-stranger (tests room c i (seen_table t)) (others-refuse room c i (seen_table t) k)
    (sym (ap (λ (x : Answered). x.answer.reason) (exact-call room i c t h fits)) ∙ e)

-- ---- a stranger that joins

module _ (i s set : ℕ) (t : List ℕ) (h : Sound names_per_group t) (fits : Fits (AddNodes s set))
    (done : (call 0 i (AddNodes s set) t).answer ≡ answer_of (Grouped s set) Done) where
  abbrev joined : List ℕ
  joined = (call 0 i (AddNodes s set) t).table

  -- what add_nodes gives where this stands at s
  abbrev given : Option SGroup → P.Step
  given = of_some (gives P.Error (seen_table t)) (λ g.
      cond (g.nodes i) (gives (P.Grp s (has set)) (joining s (has set) (g.nodes ∪ has set) g.namespace (seen_table t))) (gives P.Error (seen_table t)))

  in-union : (x y : Bool) → y ≡ true → x || y ≡ true
  in-union true y e = refl
  in-union false y e = e

  joins : (m : ℕ) → has set m ≡ true → (o : Option SGroup) → (said (given o).value).0 ≡ Grouped s set → IsSGroupSNode m s (given o).state.grs ≡ true
  joins m e none q = let z : ◌≡◌ {A = ℕ} 0 1 = cc in absurd (omega arith)
  joins m e (some g) q = by-caller (g.nodes i) q
    where
      by-caller : (x : Bool)
          → (said (cond x (gives (P.Grp s (has set)) (joining s (has set) (g.nodes ∪ has set) g.namespace (seen_table t))) (gives P.Error (seen_table t))).value).0 ≡ Grouped s set
          → IsSGroupSNode m s (cond x (gives (P.Grp s (has set)) (joining s (has set) (g.nodes ∪ has set) g.namespace (seen_table t))) (gives P.Error (seen_table t))).state.grs ≡ true
      by-caller true r = rw (eq-eqb s s refl) (in-union (g.nodes m) (has set m) e)
      by-caller false r = let z : ◌≡◌ {A = ℕ} 0 1 = cc in absurd (omega arith)

  -- the nodes of the set are members
  now-members : (m : ℕ) → has set m ≡ true → IsSGroupSNode m s (seen_table joined).grs ≡ true
  unfolding transition
  now-members m e =
      let w = accepted_call 0 i (AddNodes s set) t h fits (Grouped s set) Done done refl in
      ap (λ (X : Published). IsSGroupSNode m s X.grs) w.1 ∙ joins m e ((seen_table t).grs s) w.0

  -- a pid that lives on one of them is found with 0 from then on
  pub found-with-0 : (room j : ℕ) {c : Command} {n : ℕ} (k : Looks c s n) (p : ℕ) → has set (host p) ≡ true → (call room j c joined).answer.value ≡ Pid p
      → (call room j c joined).answer.reason ≡ Done
  found-with-0 room j k p e v =
      beside-a-pid room j k joined (calls-keep-sound 0 i (AddNodes s set) t fits h) p v ∙ ap beside (now-members (host p) e)
