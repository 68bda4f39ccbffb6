-- What the steps of new_s_group, add_nodes, remove_nodes and delete_s_group have at their returns, on a sound table. Assumes nothing.
use Rattle.std.specs.Prelude.{◌≡◌, refl, Ok, Err, is_ok, Bool, true, ◌||◌, cond, ℕ, ◌+◌, ◌<◌, length, get_or}
use Rattle.std.proofs.Common.{sym, ap₂, ◌∙◌, subst, arith, eq-eqb, ne_eqb, eqb-true}
use Rattle.std.proofs.Math.Path.{ap}
use Rattle.std.proofs.Math.Bool.{or-true, and-eq-true_iff}
use mathlib.Core.List.{List, ◌∷◌, ◌++◌}
use Rattle.nodes.specs.Sets.{has, empty, union, inter, diff}
use Rattle.nodes.proofs.SetLaws.{has_diff, subset-diff}
use Rattle.entries.specs.Entries.{Entry, drop_hosted}
use Rattle.semantics.specs.Sizes.{group_limit, names_per_group, members_at}
use Rattle.semantics.specs.State.{Group, State, with_groups, with_links, with_free, find, put, drop_group, all_members}
use Rattle.commands.specs.declared.Command.{Command}
use Rattle.commands.specs.declared.Command.TheVariants.{NewSGroup, AddNodes, RemoveNodes, DeleteSGroup}
use Rattle.answers.specs.Answers.{answer_of}
use Rattle.semantics.specs.Ranges.{held}
use Rattle.semantics.specs.Steps.{interconnect, leave_free, become_free, Result, reply, error, for_member, kept_names, left_in, apply}
use Rattle.semantics.specs.Test.{sound}
use Rattle.semantics.specs.Truth.{or_cases}
use Rattle.semantics.specs.Groups.{Found, all_found, all-put}
use Rattle.semantics.specs.Changed.{place}
use Rattle.semantics.specs.WordsOfState.{Laid, size_is, count-is}
use Rattle.answers.specs.declared.Value.TheVariants.{True, Error, Grouped}
use Rattle.answers.specs.declared.Reason.{Reason}
use Rattle.answers.specs.declared.Reason.TheVariants.{Done}
use Rattle.inputs.specs.Judge.{Verdict, checked, group_reason, set_reason, creation_reason}
use Rattle.place.specs.Place.{Place, place_of}
use Rattle.place.specs.Seats.{Seat, Room, Open, Shut, seat-group}
use Rattle.place.specs.Sound.{here, sought-here, regular, base, groups_few, seat-below, members-here}
use Rattle.names.specs.NamesAt.{names_at, renamed}
use Rattle.names.specs.NamesHere.{names_of}
use Rattle.returns.specs.Judged.{Goes, Judging, refused, passed, allowed, step-new, step-add, step-remove, step-delete}
use Rattle.returns.specs.Shown.{Says, says, says-kept}
use Rattle.connecting.specs.Loosed.{Apart, apart-fewer}
use Rattle.groups.specs.Grouped.{fresh, manned}

-- ---- for a member, or a refusal

-- the step is a refusal by r, or Error with reasons 8 and 9, or what k makes of the s_group s
pub record ForResults (room i s : ℕ) (c : Command) (st : State) (r : Reason) (k : Group → Result) : Type 0 where
  pub judging : Judging room i c st r (for_member i (find s st.groups) st k)

module _ {room i s : ℕ} {c : Command} {st : State} {r : Reason} {k : Group → Result} (f : ForResults room i s c st r k) {v : Verdict} (e : v ≡ checked r) (h : v ≡ Ok tt) where
  pub turned_away : {d : Reason} → Shut i s st.groups d → Goes room i c st (error d st)
  turned_away d = record { is = (passed f.judging e h).is ∙ d.results st k }

  pub let-in : {at : ℕ} (o : Open i s at st.groups) → Goes room i c st (k o.seat.group)
  let-in o = record { is = (passed f.judging e h).is ∙ rw (o.seat.finds, o.member) }

-- nodes of the set leave the s_group, with the names of their pids
abbrev pub removed : ℕ → ℕ → State → Group → Result
removed s set st g = reply True Done (become_free (inter g.members set) (left_in s set g st.groups) st)

-- the s_group g, at a place of the state, with the members m left and without the names of the nodes that are gone
abbrev pub lessened : ℕ → ℕ → ℕ → State → Group → Group
lessened m gone at st g = manned m (renamed (drop_hosted gone (names_at at st)) g)

-- the s_group goes
abbrev pub gone : ℕ → State → Group → Result
gone s st g = reply True Done (become_free g.members (drop_group s st.groups) st)

pub step-removed : (room i : ℕ) (st : State) (s set : ℕ) → ForResults room i s (RemoveNodes s set) st (set_reason st.size i s set) (removed s set st)
step-removed room i st s set = record { judging = step-remove room i st s set }

pub step_gone : (room i : ℕ) (st : State) (s : ℕ) → ForResults room i s (DeleteSGroup s) st (group_reason st.size i s) (gone s st)
step_gone room i st s = record { judging = step-delete room i st s }

module _ (t : List ℕ) (ok : sound names_per_group t ≡ true) {s at : ℕ} (r : Seat s at (here t).groups) where
  -- its place is one of those that there are
  pub seat-few : at < group_limit
  seat-few = omega (arith, seat-below t ok r, groups_few t ok)

  -- the word of its members
  pub members-seated : get_or t (members_at + at) 0 ≡ r.group.members
  members-seated = members-here t ok at seat-few ∙ ap (λ (g : Group). g.members) (seat-group r)

-- the name of a new s_group is taken where a place was found
pub taken-by : (t : List ℕ) → sound names_per_group t ≡ true → (s : ℕ) (p : Place) → p ≡ place_of s (here t).groups → is_ok p ≡ held (find s (here t).groups)
taken-by t ok s (Ok k) e = ap held (sym (sought-here t ok s (Ok k) (Ok k) e refl).finds)
taken-by t ok s (Err k) e = ap held (sym (sought-here t ok s (Err k) (Err k) e refl).finds)

-- the s_groups are gs, the nodes of m have met, and those of the set have left the free groups
abbrev pub joined : ℕ → ℕ → List Group → State → State
joined m set gs st = with_groups gs (with_links (interconnect m st.links) (with_free (leave_free set st.free) st))

module _ (t : List ℕ) (ok : sound names_per_group t ≡ true) (i s : ℕ) where
  -- ---- new_s_group

  module _ (set : ℕ) where
    module _ {v : Verdict} {taken : Bool} (e : v ≡ checked (creation_reason (get_or t 0 0) (get_or t 2 0) i s set taken)) (f : taken ≡ held (find s (here t).groups)) where
      seen : v ≡ checked (creation_reason (here t).size (length (here t).groups) i s set (held (find s (here t).groups)))
      seen = e ∙ (λ j. checked (creation_reason (size_is (base t ok) j) (count-is (base t ok) j) i s set (f j)))

      pub new-refused : {q : Reason} → v ≡ Err q → Says 0 i (NewSGroup s set) t (answer_of Error q) t
      new-refused h = says-kept t ok (refused (step-new 0 i (here t) s set) seen h)

      pub new-made : v ≡ Ok tt → {at : ℕ} (r : Room s at (here t).groups) (u : List ℕ)
          → Laid names_per_group (joined set set (r.before ++ fresh s set ∷ r.after) (here t)) u
          → Says 0 i (NewSGroup s set) t (answer_of (Grouped s set) Done) u
      unfolding apply
      new-made h r u l =
          says t ok (passed (step-new 0 i (here t) s set) seen h) u
          (subst (λ (gs : List Group). Laid names_per_group (joined set set gs (here t)) u) (sym (r.adding (fresh s set) refl)) l)

    -- ---- add_nodes

    module _ {v : Verdict} (e : v ≡ checked (set_reason (here t).size i s set)) (h : v ≡ Ok tt) {at : ℕ} (o : Open i s at (here t).groups) where
      pub add-joined : (m : ℕ) → m ≡ union (get_or t (members_at + at) 0) set → (u : List ℕ)
          → Laid names_per_group (joined m set (o.seat.before ++ manned m o.seat.group ∷ o.seat.after) (here t)) u
          → Says 0 i (AddNodes s set) t (answer_of (Grouped s set) Done) u
      unfolding apply
      add-joined m em u l =
          let r = o.seat in
          let m-is : m ≡ union r.group.members set = em ∙ ap (λ (x : ℕ). union x set) (members-seated t ok r) in
          says t ok (allowed (step-add 0 i (here t) s set) e h o) u
          (subst (λ (x : State). Laid names_per_group x u)
          (ap (λ (x : ℕ). joined x set (r.before ++ manned x r.group ∷ r.after) (here t)) m-is
          ∙ ap (λ (gs : List Group). joined (union r.group.members set) set gs (here t)) (sym (r.putting (union r.group.members set) r.group.names))) l)

      -- ---- remove_nodes

      module _ (left : ℕ) (el : left ≡ diff (get_or t (members_at + at) 0) set) (u : List ℕ) where
        left_is : left ≡ diff o.seat.group.members set
        left_is = el ∙ ap (λ (x : ℕ). diff x set) (members-seated t ok o.seat)

        goes : {gs : List Group} → left_in s set o.seat.group (here t).groups ≡ gs
            → Laid names_per_group (become_free (inter o.seat.group.members set) gs (here t)) u → Says 0 i (RemoveNodes s set) t (answer_of True Done) u
        goes e' l =
            says t ok (let-in (step-removed 0 i (here t) s set) e h o) u
            (subst (λ (gs : List Group). Laid names_per_group (become_free (inter o.seat.group.members set) gs (here t)) u) (sym e') l)

        -- some are left
        pub remove-left : (left ≡ 0 → ⊥) → (gone : ℕ) → gone ≡ inter (get_or t (members_at + at) 0) set
            → Laid names_per_group (become_free gone (o.seat.before ++ lessened left gone at (here t) o.seat.group ∷ o.seat.after) (here t)) u
            → Says 0 i (RemoveNodes s set) t (answer_of True Done) u
        remove-left n gone eg l =
            let g = o.seat.group in
            goes (ap (λ (x : Bool). cond x (drop_group s (here t).groups) (put s (diff g.members set) (kept_names set g) (here t).groups)) (ne_eqb _ 0 (λ z. n (left_is ∙ z)))
            ∙ o.seat.putting _ _)
            (subst (λ (x : State). Laid names_per_group x u)
            (ap₂ (λ (x y : ℕ). become_free x (o.seat.before ++ lessened y x at (here t) g ∷ o.seat.after) (here t))
            (eg ∙ ap (λ (x : ℕ). inter x set) (members-seated t ok o.seat)) left_is
            ∙ ap (λ (ns : List Entry). become_free (inter g.members set) (o.seat.before ++ manned (diff g.members set) (renamed (drop_hosted (inter g.members set) ns) g) ∷ o.seat.after) (here t))
            (names_of (here t) o.seat)) l)

        -- none is left: all are gone
        pub remove-all : left ≡ 0 → Laid names_per_group (become_free (get_or t (members_at + at) 0) (o.seat.before ++ o.seat.after) (here t)) u
            → Says 0 i (RemoveNodes s set) t (answer_of True Done) u
        remove-all z l =
            let none : empty (diff o.seat.group.members set) ≡ true = eq-eqb _ 0 (sym left_is ∙ z) in
            let every : inter o.seat.group.members set ≡ o.seat.group.members = eqb-true _ _ (subset-diff o.seat.group.members set ∙ none) in
            goes (ap (λ (x : Bool). cond x (drop_group s (here t).groups) (put s (diff o.seat.group.members set) (kept_names set o.seat.group) (here t).groups)) none ∙ o.seat.dropping)
            (subst (λ (x : ℕ). Laid names_per_group (become_free x (o.seat.before ++ o.seat.after) (here t)) u) (members-seated t ok o.seat ∙ sym every) l)

  -- ---- delete_s_group

  module _ {v : Verdict} (e : v ≡ checked (group_reason (here t).size i s)) (h : v ≡ Ok tt) {at : ℕ} (o : Open i s at (here t).groups) where
    pub delete-done : (u : List ℕ) → Laid names_per_group (become_free (get_or t (members_at + at) 0) (o.seat.before ++ o.seat.after) (here t)) u
        → Says 0 i (DeleteSGroup s) t (answer_of True Done) u
    delete-done u l =
        says t ok (let-in (step_gone 0 i (here t) s) e h o) u
        (subst (λ (x : State). Laid names_per_group x u)
        (ap₂ (λ (x : ℕ) (gs : List Group). become_free x gs (here t)) (members-seated t ok o.seat) (sym o.seat.dropping)) l)

-- ---- the state before nodes become free

module _ (t : List ℕ) (ok : sound names_per_group t ≡ true) {s at : ℕ} (r : Seat s at (here t).groups) where
  -- an s_group less
  pub apart-deleted : Apart (with_groups (r.before ++ r.after) (here t))
  apart-deleted =
      apart-fewer (regular t ok) (r.before ++ r.after) (λ i h.
      all_found s (here t).groups r.group (place (regular t ok) s r.group r.finds) i
      ∙ ap (λ (x : Bool). x || has r.group.members i) (ap (λ (gs : List Group). has (all_members gs) i) r.dropping ∙ h))

  -- with fewer members, and other names
  pub apart-left : (set m : ℕ) (ns : List Entry) → m ≡ diff (get_or t (members_at + at) 0) set
      → Apart (with_groups (r.before ++ manned m (renamed ns r.group) ∷ r.after) (here t))
  apart-left set m ns e =
      apart-fewer (regular t ok) (r.before ++ manned m (renamed ns r.group) ∷ r.after) (λ i h.
      all_found s (here t).groups r.group p i
      ∙ or_cases (has (all_members (drop_group s (here t).groups)) i) (has m i)
      (sym (all-put s (here t).groups r.group p m ns i) ∙ ap (λ (gs : List Group). has (all_members gs) i) (r.putting m ns) ∙ h)
      (λ x. ap (λ (y : Bool). y || has r.group.members i) x)
      (λ x. ap (λ (y : Bool). has (all_members (drop_group s (here t).groups)) i || y) (still i x) ∙ or-true (has (all_members (drop_group s (here t).groups)) i)))
    where
      p : Found s (here t).groups r.group
      p = place (regular t ok) s r.group r.finds

      still : (i : ℕ) → has m i ≡ true → has r.group.members i ≡ true
      still i x =
          ((and-eq-true_iff (has r.group.members i) _).0
          (sym (has_diff r.group.members set i) ∙ ap (λ (y : ℕ). has y i) (sym (e ∙ ap (λ (y : ℕ). diff y set) (members-seated t ok r))) ∙ x)).0
