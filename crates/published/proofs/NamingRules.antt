-- register_name, re_register_name, unregister_name, whereis_name/2 and registered_names are the published ones. Assumes nothing.
use Rattle.std.specs.Prelude.{◌≡◌, Bool, ◌&&◌, List, ℕ, ◌*◌, ◌<◌, eqb, leb, ltb, length}
use Rattle.std.proofs.Math.Path.{refl, ap, fun_ext}
use Rattle.std.proofs.Common.{◌∙◌, subst, true≢false, eqb-true}
use Rattle.std.proofs.Math.Bool.{true, false, not, cond}
use Rattle.std.proofs.lemmas.Bool.{false≢true}
use Rattle.std.proofs.Math.Option.{Option, none, some}
use Rattle.nodes.specs.Sets.{has, word_at}
use Rattle.entries.specs.Entries.{Entry, half_word, host, insert, remove, lookup, holds_pid}
use Rattle.entries.specs.NamespaceSound.{Ascending}
use Rattle.entries.specs.EntryLaws.{lookup-remove-same}
use Rattle.semantics.specs.Sizes.{group_names}
use Rattle.semantics.specs.State.{Group, State, find, put}
use Rattle.semantics.specs.Steps as W
use Rattle.commands.specs.declared.Command.TheVariants.{RegisterName, ReRegisterName, UnregisterName, RegisteredNames, WhereisName}
use Rattle.semantics.specs.GroupCommands.{register_name, re_register_name, unregister_name, whereis_name, registered_names}
use Rattle.semantics.specs.Ranges.{held}
use Rattle.semantics.specs.Steps.{Result, Outcome, hold, apply, done, say, settle, inside, full, look_reason, name_words, listed}
use Rattle.answers.specs.declared.Value.TheVariants.{True, False, Error, Undefined, Listed}
use Rattle.answers.specs.declared.Reason.TheVariants.{NameZero, NodeUnknown, NotMember, NameTaken, PidTaken, NotRegistered, NamespaceFull, RunShort}
use Rattle.semantics.specs.Regular.{Regular}
use Rattle.semantics.specs.NamesKept.{not-held}
use Rattle.semantics.specs.Changed.{regular-found}
use Rattle.published.specs.Published as P
use Rattle.published.specs.Published.{Set, Map, of_some, any, with_at, less_at, SGroup, Namespace, GrNames, NoGroup, Names, gives, with_group, transition}
use Rattle.published.specs.Seen as Seen
use Rattle.published.proofs.SeenState.{seen, published}
use Rattle.published.proofs.Concatenated.{chained-none}
use Rattle.published.proofs.GroupsSeen.{on_some, member, groups_seen, free_seen, put-seen}
use Rattle.published.proofs.NamesSeen.{insert-seen, remove-seen, pid-seen, words-seen}
use Rattle.published.proofs.Follows.{Agrees, by-refusal, by_both, kept, by-member}

-- ---- the namespace of an s_group is another

abbrev memberships : Map SGroup → ℕ → Set
memberships grs i s = member i (grs s)

abbrev of_names : Set → GrNames
of_names a = cond (any group_names a) (Names a) NoGroup

hold-seen : (st : State) (s : ℕ) (g : Group) → find s st.groups ≡ some g → (es : List Entry) (ns : Namespace) → ((n : ℕ) → lookup n es ≡ ns n)
    → published (apply s (hold g.members es) st) ≡ with_group s (has g.members) ns (published st)
unfolding published apply
hold-seen st s g f es ns e =
    let same : (i : ℕ) → memberships (groups_seen (put s g.members es st.groups)) i ≡ memberships (groups_seen st.groups) i =
    λ i. fun_ext (λ t. ap (member i) (put-seen s st.groups g f g.members es t) ∙ keeps i t (eqb s t) refl) in
    λ k. record {
      grs = fun_ext (λ t. put-seen s st.groups g f g.members es t
          ∙ ap (λ (x : Namespace). with_at s (record { nodes = has g.members; namespace = x }) (groups_seen st.groups) t) (fun_ext e)) k;
      fgs = free_seen st.free;
      fhs = λ i. has st.hidden i && not (any group_names (same i k));
      nds = λ i. cond (ltb i st.size)
          (some (record { hidden = has st.hidden i; connections = has (word_at st.links i); gr_names = of_names (same i k) })) none;
    }
  where
    keeps : (i t : ℕ) (x : Bool) → eqb s t ≡ x
        → member i (cond x (some (record { nodes = has g.members; namespace = λ n. lookup n es })) (groups_seen st.groups t))
        ≡ member i (groups_seen st.groups t)
    keeps i t true h = let q : find t st.groups ≡ some g = subst (λ (x : ℕ). find x st.groups ≡ some g) (eqb-true s t h) f in rw q
    keeps i t false h = refl

-- ---- the commands

module _ {cap : ℕ} (st : State) (w : Regular cap st) (room G i s : ℕ) where
  names-up : (g : Group) → find s st.groups ≡ some g → Ascending 0 g.names
  names-up g f = (regular-found w s g f).names_sound.names

  abbrev settled : Outcome → Result
  settled o = settle s o st

  -- a namespace that is held is said to be
  holds : (g : Group) → find s st.groups ≡ some g → (es : List Entry) (ns : Namespace) → ((n : ℕ) → lookup n es ≡ ns n)
      → Agrees (settled (done (hold g.members es) True)) (gives P.True (with_group s (has g.members) ns (published st)))
  holds g f es ns e h = record { state = hold-seen st s g f es ns e; said_is = refl }

  pub registers : (n p : ℕ) → Agrees (settled (inside room st.size G i (register_name s n p) (find s st.groups)))
      (transition (RegisterName s n p) i (published st))
  unfolding inside published transition
  registers n p =
      by-refusal settled (eqb n 0) (say Error NameZero) _ _ refl λ x.
      by-refusal settled (leb st.size (host p)) (say Error NodeUnknown) _ _ refl λ y.
      by-member st s i False P.False refl (find s st.groups) _ _ λ g f.
      go g f (held (lookup n g.names)) refl (holds_pid p g.names) _ (pid-seen p g.names (names-up g f))
    where
      go : (g : Group) → find s st.groups ≡ some g → (x : Bool) → held (lookup n g.names) ≡ x → (y y' : Bool) → y' ≡ y
          → Agrees (settled (cond x (say False NameTaken) (cond y (say False PidTaken) (cond (full g.names) (say False NamespaceFull)
          (done (hold g.members (insert (record { name = n; pid = p }) g.names)) True)))))
          (cond (not x && not y') (gives P.True (with_group s (has g.members) (with_at n p (λ k. lookup k g.names)) (published st)))
          (gives P.False (published st)))
      go g f true e y y' q = kept st s i False NameTaken P.False refl
      go g f false e true true q = kept st s i False PidTaken P.False refl
      go g f false e true false q = absurd (false≢true q)
      go g f false e false true q = absurd (true≢false q)
      go g f false e false false q =
          let es : List Entry = insert (record { name = n; pid = p }) g.names in
          let ns : Namespace = with_at n p (λ k. lookup k g.names) in
          by-refusal settled (full g.names) (say False NamespaceFull) (done (hold g.members es) True)
          (gives P.True (with_group s (has g.members) ns (published st))) refl λ z.
          holds g f es ns (insert-seen n p g.names (not-held (lookup n g.names) e))

  pub re-registers : (n p : ℕ)
      → Agrees (settled (inside room st.size G i (re_register_name s n p) (find s st.groups)))
      (transition (ReRegisterName s n p) i (published st))
  unfolding inside published transition
  re-registers n p =
      by-refusal settled (eqb n 0) (say Error NameZero) _ _ refl λ x.
      by-refusal settled (leb st.size (host p)) (say Error NodeUnknown) _ _ refl λ y.
      by-member st s i False P.False refl (find s st.groups) _ _ λ g f.
      go g f (holds_pid p g.names) _ (pid-seen p g.names (names-up g f))
    where
      go : (g : Group) → find s st.groups ≡ some g → (y y' : Bool) → y' ≡ y
          → Agrees (settled (cond y (say False PidTaken) (cond (not (held (lookup n g.names)) && full g.names) (say False NamespaceFull)
          (done (hold g.members (insert (record { name = n; pid = p }) (remove n g.names))) True))))
          (cond (not y') (gives P.True (with_group s (has g.members) (with_at n p (less_at n (λ k. lookup k g.names))) (published st)))
          (gives P.False (published st)))
      go g f true true e = kept st s i False PidTaken P.False refl
      go g f true false e = absurd (false≢true e)
      go g f false true e = absurd (true≢false e)
      go g f false false e =
          let es : List Entry = insert (record { name = n; pid = p }) (remove n g.names) in
          let ns : Namespace = with_at n p (less_at n (λ k. lookup k g.names)) in
          by-refusal settled (not (held (lookup n g.names)) && full g.names) (say False NamespaceFull) (done (hold g.members es) True)
          (gives P.True (with_group s (has g.members) ns (published st))) refl λ z.
          holds g f es ns (λ m. insert-seen n p (remove n g.names) (lookup-remove-same 0 n g.names (names-up g f)) m
          ∙ ap (λ (o : Option ℕ). cond (eqb n m) (some p) o) (remove-seen n g.names (names-up g f) m))

  pub unregisters : (n : ℕ)
      → Agrees (settled (inside room st.size G i (unregister_name s n) (find s st.groups))) (transition (UnregisterName s n) i (published st))
  unfolding inside published transition
  unregisters n =
      by-refusal settled (eqb n 0) (say Error NameZero) _ _ refl λ x.
      by-member st s i False P.False refl (find s st.groups) _ _ λ g f.
      by_both settled (held (lookup n g.names)) _ _ _ _
      (λ e h. record { state = hold-seen st s g f _ _ (remove-seen n g.names (names-up g f)); said_is = refl })
      (λ e. kept st s i True NotRegistered P.True refl)

  looks : (m : ℕ) (o : Option ℕ) → Agrees (settled (say (W.pid_or_undefined o) (look_reason m o))) (gives (of_some P.Undefined P.Pid o) (published st))
  looks m none = kept st s i _ NotRegistered P.Undefined refl
  looks m (some p) = kept st s i _ _ (P.Pid p) refl

  pub looks-up : (n : ℕ) → eqb s 0 ≡ false
      → Agrees (settled (inside room st.size G i (whereis_name s n) (find s st.groups))) (transition (WhereisName s n) i (published st))
  unfolding inside published transition
  looks-up n named =
      by-refusal settled (eqb n 0) (say Error NameZero) _ _ refl λ x. rw named (go (find s st.groups))
    where
      inner : (g : Group) (x : Bool) → Agrees (settled (cond x (W.whereis_in n g)
          (say Undefined NotMember)))
          (gives (of_some P.Undefined P.Pid (cond x (cond x (lookup n g.names) none) none)) (published st))
      inner g true = looks g.members (lookup n g.names)
      inner g false = kept st s i Undefined _ P.Undefined refl

      go : (o : Option Group) → Agrees (settled (W.as_member i Undefined o
          (W.whereis_in n)))
          (gives (of_some P.Undefined P.Pid
          (cond (member i (on_some seen o)) (of_some none (λ g. cond (g.nodes i) (g.namespace n) none) (on_some seen o)) none)) (published st))
      go none = kept st s i Undefined _ P.Undefined refl
      go (some g) = inner g (has g.members i)

  pub lists : s < group_names
      → Agrees (settled (inside room st.size G i (registered_names s) (find s st.groups))) (transition (RegisteredNames s) i (published st))
  unfolding inside published transition apply
  lists small =
      by-member st s i (Listed 0) (P.Nss (λ t. P.nobody)) (ap Seen.listed (chained-none (group_names * half_word) 0)) (find s st.groups)
      (λ g. listed room (name_words s g.names)) _ λ g f.
      by-refusal settled (ltb room (length (name_words s g.names))) (say Error RunShort) _ _ refl λ x h.
      record { state = refl; said_is = ap Seen.listed (words-seen s small g.names (names-up g f)) }
