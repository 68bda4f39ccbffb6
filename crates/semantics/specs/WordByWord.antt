-- The words of a state one by one: they are what it is for a table to be laid out so. Assumes nothing.
use Rattle.std.specs.Prelude.{◌≡◌, List, [], ◌∷◌, map, ℕ, zero, suc, ◌+◌, ◌*◌, ◌/◌, ◌%◌, ◌≤◌, ◌<◌, length, get_or}
use Rattle.std.proofs.Math.Path.{sym}
use Rattle.std.proofs.Common.{◌∙◌, subst, ⊎_elim, mod-lt, div-lt_iff_lt-mul, arith}
use Rattle.std.proofs.Math.Nat.{div-add-mod}
use Rattle.nodes.specs.Sets.{node_limit}
use Rattle.nodes.specs.Bools.{by_lt}
use Rattle.entries.specs.Entries.{word_of}
use Rattle.semantics.specs.Sizes.{group_limit, contents_at, bodies_at, table_words}
use Rattle.semantics.specs.State.{State}
use Rattle.semantics.specs.Table.{contents, bodies, sections}
use Rattle.semantics.specs.Soundness.{size_of, hidden_of, count_of, contents_of, members_of, links_of, free_of, entry_of}
use Rattle.semantics.specs.Padding.{getD-pad}
use Rattle.semantics.specs.Places.{group_at, contents_at-place, members_at-place}
use Rattle.semantics.specs.EntryPlaces.{entry_at}
use Rattle.semantics.specs.Bodies.{body_at, body-in}
use Rattle.semantics.specs.Sections.{run-from}
use Rattle.semantics.specs.WordsOfState.{Sized, Laid, sizes-of, size_is, hidden-is, count-is, spare-is, contents-word, members-word, links-word, free-word, body-word}

-- each word of t is the state's
pub record Reads (cap : ℕ) (st : State) (t : List ℕ) : Type 0 where
  pub size : size_of t ≡ st.size
  pub hidden : hidden_of t ≡ st.hidden
  pub count : count_of t ≡ length st.groups
  pub spare : get_or t 3 0 ≡ 0
  pub heads : (g : ℕ) → g < group_limit → contents_of t g ≡ contents (group_at st.groups g)
  pub members : (g : ℕ) → g < group_limit → members_of t g ≡ (group_at st.groups g).members
  pub links : (i : ℕ) → i < node_limit → links_of t i ≡ get_or st.links i 0
  pub free : (i : ℕ) → i < node_limit → free_of t i ≡ get_or st.free i 0
  pub entries : (g k : ℕ) → g < group_limit → k < cap → entry_of cap t g k ≡ word_of (entry_at (group_at st.groups g).names k)

pub reads : {cap : ℕ} {st : State} {t : List ℕ} → Laid cap st t → Reads cap st t
reads {cap} {st} l = record {
  size = size_is l;
  hidden = hidden-is l;
  count = count-is l;
  spare = spare-is l;
  heads = λ g h. contents-word l g h ∙ contents_at-place st.groups g;
  members = λ g h. members-word l g h ∙ members_at-place st.groups g;
  links = links-word l;
  free = free-word l;
  entries = λ g k h m. body-word l (cap * g + k) (body-in cap g k h m) ∙ body_at cap st.groups g k m;
}

module _ {cap : ℕ} {st : State} {t : List ℕ} (r : Reads cap st t) where
  head-words-are : (i : ℕ) → i < contents_at → get_or t (0 + i) 0 ≡ get_or (st.size ∷ st.hidden ∷ length st.groups ∷ 0 ∷ []) i 0
  head-words-are zero h = r.size
  head-words-are (suc zero) h = r.hidden
  head-words-are (suc (suc zero)) h = r.count
  head-words-are (suc (suc (suc zero))) h = r.spare
  head-words-are (suc (suc (suc (suc i)))) h = absurd (omega arith)

  body-words-are : (m : ℕ) → m < group_limit * cap → get_or t (bodies_at + m) 0 ≡ get_or (bodies cap st.groups) m 0
  body-words-are m h =
      let z : 0 < cap = ⊎_elim (λ (p : 0 < cap). p) (λ (p : cap ≤ 0). absurd (omega arith)) (by_lt 0 cap) in
      let k : m % cap < cap = mod-lt m z in
      let g : m / cap < group_limit = (div-lt_iff_lt-mul z).1 h in
      let e : cap * (m / cap) + m % cap ≡ m = div-add-mod m cap in
      subst (λ (x : ℕ). get_or t (bodies_at + x) 0 ≡ get_or (bodies cap st.groups) x 0) e (r.entries (m / cap) (m % cap) g k ∙ sym (body_at cap st.groups (m / cap) (m % cap) k))

  pub reads-laid : Sized st → length t ≡ table_words cap → Laid cap st t
  unfolding sections
  reads-laid s e = record {
    sized = s;
    run = run-from (sizes-of cap st s) (omega arith) (
      head-words-are,
      (
        λ g h. r.heads g h ∙ sym (getD-pad group_limit (map contents st.groups) g ∙ contents_at-place st.groups g),
        (
          λ g h. r.members g h ∙ sym (getD-pad group_limit (map (λ x. x.members) st.groups) g ∙ members_at-place st.groups g),
          (r.links, (r.free, (λ m h. body-words-are m h ∙ sym (getD-pad (group_limit * cap) (bodies cap st.groups) m), tt))),
        ),
      ),
    );
  }
