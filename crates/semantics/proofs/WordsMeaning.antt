-- The words of a table by their meaning against a state: what the clauses of document 01 speak of is what the state has. Assumes nothing.
use Rattle.std.specs.Prelude.{◌≡◌, ◌↔◌, true, List, ℕ, ◌/◌, ◌%◌, ◌≤◌, ◌<◌, length, get_or}
use Rattle.std.proofs.Common.{sym, ap, ◌∙◌, true≢false, arith}
use Rattle.std.proofs.Math.ListN.{get_or-eq_default}
use Rattle.nodes.specs.Sets.{node_limit, has}
use Rattle.entries.specs.Entries.{Entry, half_word, word_of}
use Rattle.entries.specs.Storage.{entry_of-word}
use Rattle.semantics.specs.Sizes.{group_limit, group_names}
use Rattle.semantics.specs.State.{State}
use Rattle.semantics.specs.Soundness.{size_of, hidden_of, count_of, name_of, names_of, members_of, links_of, free_of, entry_of, process_of, pid_of, FreeNormal}
use Rattle.semantics.specs.Regular.{Regular, RegularGroup, loose}
use Rattle.semantics.specs.Truth.{unless}
use Rattle.semantics.specs.Places.{no_group, group_at, contents-name, contents-count, every-iff}
use Rattle.semantics.specs.EntryPlaces.{entry_at, climbing-iff}
use Rattle.semantics.specs.FreeNodes.{FreeNode, loose-iff}
use Rattle.semantics.specs.WordByWord.{Reads}

-- what the words of t mean is what the state has
pub record Means (cap : ℕ) (st : State) (t : List ℕ) : Type 0 where
  pub size : size_of t ≡ st.size
  pub hidden : hidden_of t ≡ st.hidden
  pub count : count_of t ≡ length st.groups
  pub name : (g : ℕ) → g < count_of t → name_of t g ≡ (group_at st.groups g).name
  pub members : (g : ℕ) → g < count_of t → members_of t g ≡ (group_at st.groups g).members
  pub names : (g : ℕ) → g < count_of t → names_of t g ≡ length (group_at st.groups g).names
  pub process : (g k : ℕ) → g < count_of t → k < names_of t g → process_of cap t g k ≡ (entry_at (group_at st.groups g).names k).name
  pub pid : (g k : ℕ) → g < count_of t → k < names_of t g → pid_of cap t g k ≡ (entry_at (group_at st.groups g).names k).pid
  pub links : (i : ℕ) → i < node_limit → links_of t i ≡ get_or st.links i 0
  pub free : (i : ℕ) → i < node_limit → free_of t i ≡ get_or st.free i 0

-- a member of a set is one of the equal set
pub in-same : {x y : ℕ} (i : ℕ) → x ≡ y → has x i ≡ true → has y i ≡ true
in-same i e m = ap (λ (w : ℕ). has w i) (sym e) ∙ m

module _ {cap : ℕ} {st : State} {t : List ℕ} (m : Means cap st t) where
  -- the words count the s_groups of the state
  pub in-state : (g : ℕ) → g < count_of t → g < length st.groups
  in-state g h = omega (arith, m.count)

  pub in_words : (g : ℕ) → g < length st.groups → g < count_of t
  in_words g h = omega (arith, m.count)

  pub past-groups : (g : ℕ) → count_of t ≤ g → group_at st.groups g ≡ no_group
  past-groups g h = get_or-eq_default st.groups no_group (omega (arith, m.count))

  pub free_normal-iff : (i : ℕ) → FreeNormal t i ↔ (loose st i ≡ true)
  free_normal-iff i = (
    λ f.
        (loose-iff st i).1 (record {
          on_roster = omega (arith, m.size, f.on_roster);
          normal = unless _ (λ h. f.normal (in-same i (sym m.hidden) h));
          in_none = λ g l. unless _ (λ h. f.in_none g (in_words g l) (in-same i (sym (m.members g (in_words g l))) h));
        }),
    λ h.
        let f : FreeNode st i = (loose-iff st i).0 h in
        record {
          on_roster = omega (arith, m.size, f.on_roster);
          normal = λ k. true≢false (sym (in-same i m.hidden k) ∙ f.normal);
          in_none = λ g l k. true≢false (sym (in-same i (m.members g l) k) ∙ f.in_none g (in-state g l));
        },
  )

-- ---- the words of a regular state

module _ {cap : ℕ} {st : State} {t : List ℕ} (r : Regular cap st) (w : Reads cap st t) where
  pub counted-regular : (g : ℕ) → g < count_of t → RegularGroup cap st.size (group_at st.groups g)
  counted-regular g h = (every-iff _ st.groups).0 r.each g (omega (arith, w.count))

  in-limit : (g : ℕ) → g < count_of t → g < group_limit
  in-limit g h = omega (arith, w.count, r.groups_few)

  names-count : (g : ℕ) → g < count_of t → names_of t g ≡ length (group_at st.groups g).names
  names-count g h = ap (λ (x : ℕ). x / group_names) (w.heads g (in-limit g h)) ∙ contents-count (group_at st.groups g) (counted-regular g h).small

  module _ (g k : ℕ) (h : g < count_of t) (l : k < names_of t g) where
    entry-word : entry_of cap t g k ≡ word_of (entry_at (group_at st.groups g).names k)
    entry-word = w.entries g k (in-limit g h) (omega (arith, names-count g h, (counted-regular g h).names_sound.room))

    pid-small : (entry_at (group_at st.groups g).names k).pid < half_word
    pid-small = ((climbing-iff 0 _).0 (counted-regular g h).names_sound.names).pid_fits k (omega (arith, names-count g h))

  pub regular-means : Means cap st t
  regular-means = record {
    size = w.size;
    hidden = w.hidden;
    count = w.count;
    name = λ g h. ap (λ (x : ℕ). x % group_names) (w.heads g (in-limit g h)) ∙ contents-name (group_at st.groups g) (counted-regular g h).small;
    members = λ g h. w.members g (in-limit g h);
    names = names-count;
    process = λ g k h l. ap (λ (x : ℕ). x / half_word) (entry-word g k h l) ∙ ap (λ (x : Entry). x.name) (entry_of-word _ (pid-small g k h l));
    pid = λ g k h l. ap (λ (x : ℕ). x % half_word) (entry-word g k h l) ∙ ap (λ (x : Entry). x.pid) (entry_of-word _ (pid-small g k h l));
    links = w.links;
    free = w.free;
  }
