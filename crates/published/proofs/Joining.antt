-- add_nodes and new_s_group are the published ones. Assumes nothing.
use Rattle.std.specs.Prelude.{◌≡◌, Bool, not, ◌&&◌, ◌||◌, cond, ℕ, ◌^◌, ◌<◌, leb}
use Rattle.std.proofs.Math.Path.{refl, sym, ap, ap₂, fun_ext}
use Rattle.std.proofs.Common.{◌∙◌}
use Rattle.std.proofs.Math.Bool.{true, false, and-true, and-false, or-true, or-false, and-eq-true_iff}
use Rattle.std.proofs.lemmas.Bool.{false≢true}
use Rattle.std.proofs.Math.Option.{Option, none, some}
use mathlib.Core.List.{List, []}
use Rattle.std.proofs.Math.Dec.{eqb}
use borrow.Author.Tests.{eqb-true, eq-eqb, leb-false}
use Rattle.nodes.specs.Sets.{node_limit, has, union, beyond}
use Rattle.nodes.proofs.SetLaws.{has-union, union-lt}
use Rattle.entries.specs.Entries.{lookup}
use Rattle.semantics.specs.Sizes.{group_limit, group_names}
use Rattle.semantics.specs.State.{Group, State, with_groups, with_links, with_free, find, put, add_group}
use Rattle.commands.specs.declared.Command.TheVariants.{NewSGroup, AddNodes}
use Rattle.semantics.specs.GroupCommands.{add_nodes, new_s_group}
use Rattle.semantics.specs.Ranges.{held}
use Rattle.semantics.specs.Steps.{Result, Outcome, create, apply, done, say, settle, inside, interconnect, leave_free}
use Rattle.answers.specs.declared.Value.TheVariants.{Error, Grouped}
use Rattle.answers.specs.declared.Reason.TheVariants.{NodeUnknown, CallerOutside, GroupTaken, GroupsFull}
use Rattle.semantics.specs.Regular.{Regular}
use Rattle.semantics.specs.Truth.{or_cases, unless}
use Rattle.semantics.specs.NamesKept.{not-held}
use Rattle.semantics.specs.Members.{in-word}
use Rattle.semantics.specs.Changed.{regular-found, small-name}
use Rattle.published.specs.Published as P
use Rattle.published.specs.Published.{Set, Map, ◌∖◌, with_at, SGroup, Namespace, NoGroup, Names, IsSGroupNode, AddSGroupS, AddSGroup, gives, joining, transition}
use Rattle.published.proofs.SeenState.{seen, published, names_seen}
use Rattle.published.proofs.SomeBelow.{any-hit, any_case, any_none, any-is}
use Rattle.published.proofs.Concatenated.{word_of}
use Rattle.published.proofs.GroupsSeen.{on_some, member, groups_seen, hidden_seen, put-seen, add-seen}
use Rattle.published.proofs.Rewired.{interconnect-seen, regroup-seen, leave-seen}
use Rattle.published.proofs.Follows.{Agrees, by-refusal, kept, by-member}

-- an s_group that has a member has its name in range
pub name-low : {cap : ℕ} {st : State} → Regular cap st → (i s : ℕ) → member i (groups_seen st.groups s) ≡ true → s < group_names
name-low {st = st} w i s h = go (find s st.groups) refl h
  where
    go : (o : Option Group) → find s st.groups ≡ o → member i (on_some seen o) ≡ true → s < group_names
    go none e k = absurd (false≢true k)
    go (some g) e k = small-name w s g e

-- ---- the nodes of nis come into the s_group s

module _ (grs grs' : Map SGroup) (s : ℕ) (small : s < group_names) (nis : Set)
    (more : (i t : ℕ) → member i (grs' t) ≡ member i (grs t) || (nis i && eqb s t)) (low : (i t : ℕ) → member i (grs t) ≡ true → t < group_names) where
  in_some : (i : ℕ) → IsSGroupNode i grs' ≡ IsSGroupNode i grs || nis i
  in_some i =
      any-is group_names (λ t. member i (grs' t)) (IsSGroupNode i grs || nis i)
      (λ t l e. or_cases (member i (grs t)) _ (sym (more i t) ∙ e)
      (λ x. rw (any-hit group_names (λ u. member i (grs u)) t l x))
      (λ x. rw ((and-eq-true_iff (nis i) _).0 x).0 (or-true (IsSGroupNode i grs))))
      (λ e. or_cases (IsSGroupNode i grs) (nis i) e
      (λ x. any_case group_names (λ t. member i (grs t)) x (λ t l y. any-hit group_names (λ u. member i (grs' u)) t l (more i t ∙ rw y)))
      (λ x. any-hit group_names (λ u. member i (grs' u)) s small (more i s ∙ rw (x, eq-eqb s s refl) (or-true (member i (grs s))))))

  no_member : (i : ℕ) → IsSGroupNode i grs ≡ false → (t : ℕ) → member i (grs t) ≡ false
  no_member i h t = unless (member i (grs t)) (λ e. false≢true (sym (any_none group_names (λ u. member i (grs u)) h t (low i t e)) ∙ e))

  names-joined : (i : ℕ) → names_seen i grs' ≡ cond (nis i) (AddSGroupS s (names_seen i grs)) (names_seen i grs)
  names-joined i = go (nis i) refl (IsSGroupNode i grs) refl
    where
      go : (x : Bool) → nis i ≡ x → (y : Bool) → IsSGroupNode i grs ≡ y
          → names_seen i grs' ≡ cond x (AddSGroupS s (cond y (Names (λ t. member i (grs t))) NoGroup)) (cond y (Names (λ t. member i (grs t))) NoGroup)
      go true e true h = rw (in_some i, h) (ap Names (fun_ext (λ t. more i t ∙ rw e)))
      go true e false h = rw (in_some i, h, e) (ap Names (fun_ext (λ t. more i t ∙ rw (e, no_member i h t))))
      go false e true h = rw (in_some i, h) (ap Names (fun_ext (λ t. more i t ∙ rw e (or-false (member i (grs t))))))
      go false e false h = rw (in_some i, h, e)

  hidden-joined : (hidden : ℕ) → hidden_seen hidden grs' ≡ hidden_seen hidden grs ∖ nis
  hidden-joined hidden = fun_ext (λ i. rw (in_some i) (go (has hidden i) (IsSGroupNode i grs) (nis i)))
    where
      go : (x y z : Bool) → x && not (y || z) ≡ (x && not y) && not z
      go true true z = refl
      go true false z = refl
      go false y z = refl

-- the s_group s has the nodes m, of whom those of set come in
module _ {cap : ℕ} (st : State) (w : Regular cap st) (s : ℕ) (small : s < group_names) (set m : ℕ) (set-in : set < 2 ^ st.size)
    (m-in : m < 2 ^ st.size) where
  joined-seen : (gs : List Group) (ns : Namespace) → ((t : ℕ) → groups_seen gs t ≡ with_at s (record { nodes = has m; namespace = ns })
      (groups_seen st.groups) t)
      → ((i : ℕ) → has m i ≡ member i (groups_seen st.groups s) || has set i)
      → published (with_groups gs (with_free (leave_free set st.free) (with_links (interconnect m st.links) st)))
      ≡ joining s (has set) (has m) ns (published st)
  unfolding published
  joined-seen gs ns is all =
      let more : (i t : ℕ) → member i (groups_seen gs t) ≡ member i (groups_seen st.groups t) || (has set i && eqb s t) =
      λ i t. ap (member i) (is t) ∙ grown i t (eqb s t) refl in
      let low : (i t : ℕ) → member i (groups_seen st.groups t) ≡ true → t < group_names = name-low w in
      λ k. record {
        grs = fun_ext is k;
        fgs = leave-seen set st.free (in-word w.size_high set-in) w.free_long k;
        fhs = hidden-joined (groups_seen st.groups) (groups_seen gs) s small (has set) more low st.hidden k;
        nds = (regroup-seen st.size st.hidden (AddSGroupS s) (has set) (interconnect m st.links) (groups_seen st.groups) (groups_seen gs)
            (names-joined (groups_seen st.groups) (groups_seen gs) s small (has set) more low)
            ∙ ap (AddSGroup s (has set))
            (interconnect-seen st.size st.hidden m st.links (groups_seen st.groups) (in-word w.size_high m-in) w.links_long
            w.wires.no_self)) k;
      }
    where
      grown : (i t : ℕ) (x : Bool) → eqb s t ≡ x
          → member i (cond x (some (record { nodes = has m; namespace = ns })) (groups_seen st.groups t))
          ≡ member i (groups_seen st.groups t) || (has set i && x)
      grown i t true e = all i ∙ ap₂ (λ (u : ℕ) (y : Bool). member i (groups_seen st.groups u) || y) (eqb-true s t e) (sym (and-true (has set i)))
      grown i t false e = sym (rw (and-false (has set i)) (or-false (member i (groups_seen st.groups t))))

-- ---- the two commands

module _ {cap : ℕ} (st : State) (w : Regular cap st) (room G i s : ℕ) (small : s < group_names) where
  abbrev settled : Outcome → Result
  settled o = settle s o st

  pub adds : (set : ℕ) → Agrees (settled (inside room st.size G i (add_nodes s set) (find s st.groups)))
      (transition (AddNodes s set) i (published st))
  unfolding inside published apply transition
  adds set =
      by-refusal settled (beyond set st.size) (say Error NodeUnknown) _ _ refl λ x.
      by-member st s i Error P.Error refl (find s st.groups) _ _ λ g f h.
      let set-in : set < 2 ^ st.size = leb-false (2 ^ st.size) set x in
      let m-in : union g.members set < 2 ^ st.size = union-lt st.size g.members set (regular-found w s g f).on_roster set-in in
      record {
        state =
            joined-seen st w s small set (union g.members set) set-in m-in (put s (union g.members set) g.names st.groups)
            (λ n. lookup n g.names)
            (put-seen s st.groups g f (union g.members set) g.names)
            (λ k. has-union g.members set k ∙ ap (λ (o : Option Group). member k (on_some seen o) || has set k) (sym f))
            ∙ ap (λ (all : Set). joining s (has set) all (λ n. lookup n g.names) (published st)) (fun_ext (has-union g.members set));
        said_is = λ k. (Grouped s (word_of node_limit set (in-word w.size_high set-in) k), []);
      }

  pub creates : (set : ℕ) → Agrees (settled (inside room st.size G i (new_s_group s set) (find s st.groups)))
      (transition (NewSGroup s set) i (published st))
  unfolding inside published apply transition lookup
  creates set = by-refusal settled (beyond set st.size) (say Error NodeUnknown) _ _ refl λ x. go x (has set i)
    where
      go : beyond set st.size ≡ false → (y : Bool)
          → Agrees (settled (cond (not y) (say Error CallerOutside)
          (cond (held (find s st.groups)) (say Error GroupTaken) (cond (leb group_limit G) (say Error GroupsFull)
          (done (create set) (Grouped s set))))))
          (cond y (gives (P.Grp s (has set)) (joining s (has set) (has set) (λ n. none) (published st))) (gives P.Error (published st)))
      go x false = kept st s i Error CallerOutside P.Error refl
      go x true =
          by-refusal settled (held (find s st.groups)) (say Error GroupTaken) _ _ refl λ y.
          by-refusal settled (leb group_limit G) (say Error GroupsFull) _ _ refl λ z h.
          let set-in : set < 2 ^ st.size = leb-false (2 ^ st.size) set x in
          let new : find s st.groups ≡ none = not-held (find s st.groups) y in
          record {
            state =
                joined-seen st w s small set set set-in set-in (add_group (record { name = s; members = set; names = [] }) st.groups) (λ n. none)
                (add-seen (record { name = s; members = set; names = [] }) st.groups new)
                (λ k. sym (ap (λ (o : Option Group). member k (on_some seen o) || has set k) new));
            said_is = λ k. (Grouped s (word_of node_limit set (in-word w.size_high set-in) k), []);
          }
