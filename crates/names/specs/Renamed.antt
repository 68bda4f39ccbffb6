-- One s_group of a table has other names: its own words are lent and its contents word is stored, and the rest of the table stays.
-- Assumes nothing.
use Rattle.std.specs.Prelude.{◌≡◌, refl, ℕ, zero, suc, ◌+◌, ◌-◌, ◌*◌, ◌/◌, ◌<◌, get_or, take, set, replicate}
use Rattle.std.proofs.Math.Path.{sym, subst}
use Rattle.std.proofs.Common.{ap, ◌∙◌, arith, lit<, length-set, take-append-drop, drop-cons, length-take-le}
use mathlib.Core.List.{List, [], ◌∷◌, ◌++◌, map, append_assoc}
use Rattle.std.proofs.Math.ListN.{length, drop}
use Rattle.std.proofs.lemmas.List.{length-map, set_split, set-get_or, set-append_left}
use Rattle.entries.specs.Entries.{Entry, words}
use Rattle.entries.specs.Storage.{length-words}
use Rattle.semantics.specs.Sizes.{group_limit, group_names, contents_at, bodies_at}
use Rattle.semantics.specs.State.{Group, State}
use Rattle.semantics.specs.Table.{pad, contents, bodies, cat, sections}
use Rattle.semantics.specs.Padding.{getD-pad}
use Rattle.semantics.specs.ThreeParts.{Cut}
use Rattle.semantics.specs.Places.{no_group, group_at, contents_at-place, members_at-place, contents-count}
use Rattle.semantics.specs.Bodies.{length-bodies, bodies-append}
use Rattle.semantics.specs.Sections.{Run, read-in, lent-in, store}
use Rattle.semantics.specs.WordsOfState.{Sized, Laid, sizes, sizes-of, contents-word}
use Rattle.names.specs.NamesAt.{names_at, renamed, with_names}

-- ---- lists

pub map-set : {A B : Type 0} (f : A → B) (l : List A) (i : ℕ) (a : A) → map f (set l i a) ≡ set (map f l) i (f a)
map-set f [] i a = refl
map-set f (x ∷ l) zero a = refl
map-set f (x ∷ l) (suc i) a = ap (λ (r : List _). f x ∷ r) (map-set f l i a)

pad-set : (n : ℕ) (l : List ℕ) (i a : ℕ) → i < length l → pad n (set l i a) ≡ set (pad n l) i a
pad-set n l i a h = rw (length-set l i a) (sym (set-append_left l (replicate (n - length l) 0) i a h))

-- a list around one place
pub around : {A : Type 0} (l : List A) (i : ℕ) (d : A) → i < length l → l ≡ take i l ++ get_or l i d ∷ drop (suc i) l
around l i d h = sym (take-append-drop i l) ∙ ap (λ (r : List _). take i l ++ r) (drop-cons l i d h)

-- ---- the words of one s_group

module _ {cap : ℕ} {st : State} {t : List ℕ} (l : Laid cap st t) (k : ℕ) (h : k < length st.groups) where
  -- what stands before the names and after them
  abbrev front : List ℕ
  front = bodies cap (take k st.groups)

  abbrev back : List ℕ
  back = bodies cap (drop (suc k) st.groups) ++ replicate (group_limit * cap - length (bodies cap st.groups)) 0

  own : Cut (cap * k) cap (pad (group_limit * cap) (bodies cap st.groups)) front (words cap (names_at k st)) back
  own =
      let e : bodies cap st.groups ≡ front ++ (words cap (names_at k st) ++ bodies cap (drop (suc k) st.groups)) =
      ap (bodies cap) (around st.groups k no_group h) ∙ bodies-append cap (take k st.groups) (group_at st.groups k ∷ drop (suc k) st.groups) in
      record {
        is = ap (λ (y : List ℕ). y ++ replicate (group_limit * cap - length (bodies cap st.groups)) 0) e ∙ simp append_assoc;
        starts = length-bodies cap (take k st.groups) ∙ ap (λ (n : ℕ). cap * n) (length-take-le k st.groups (omega arith));
        long = length-words cap (names_at k st);
      }

  -- its contents word
  pub contents-here : get_or t (contents_at + k) 0 ≡ contents (group_at st.groups k)
  contents-here = contents-word l k (omega (arith, l.sized.groups_few)) ∙ contents_at-place st.groups k

  pub count-here : (group_at st.groups k).name < group_names → get_or t (contents_at + k) 0 / group_names ≡ length (names_at k st)
  count-here small = ap (λ (c : ℕ). c / group_names) contents-here ∙ contents-count (group_at st.groups k) small

  module _ (ns : List Entry) where
    abbrev next : List Group
    next = set st.groups k (renamed ns (group_at st.groups k))

    same-many : length next ≡ length st.groups
    same-many = length-set st.groups k (renamed ns (group_at st.groups k))

    same-members : pad group_limit (map (λ g. g.members) st.groups) ≡ pad group_limit (map (λ g. g.members) next)
    same-members =
        ap (pad group_limit)
        (sym (map-set (λ g. g.members) st.groups k (renamed ns (group_at st.groups k))
        ∙ ap (set (map (λ g. g.members) st.groups) k) (sym (members_at-place st.groups k)) ∙ set-get_or (map (λ g. g.members) st.groups) k 0))

    next-contents : set (pad group_limit (map contents st.groups)) k (contents (renamed ns (group_at st.groups k))) ≡ pad group_limit (map contents next)
    next-contents =
        sym (pad-set group_limit (map contents st.groups) k _ (omega (arith, length-map st.groups contents)))
        ∙ ap (pad group_limit) (sym (map-set contents st.groups k (renamed ns (group_at st.groups k))))

    next-bodies : front ++ (words cap ns ++ back) ≡ pad (group_limit * cap) (bodies cap next)
    next-bodies =
        let e : bodies cap next ≡ front ++ (words cap ns ++ bodies cap (drop (suc k) st.groups)) =
        ap (bodies cap) (set_split st.groups k _ h) ∙ bodies-append cap (take k st.groups) (renamed ns (group_at st.groups k) ∷ drop (suc k) st.groups) in
        let n : length (bodies cap st.groups) ≡ length (bodies cap next) =
        length-bodies cap st.groups ∙ ap (λ (m : ℕ). cap * m) (sym same-many) ∙ sym (length-bodies cap next) in
        rw (n, e) (simp append_assoc)

    relaid : (u c b : List ℕ)
        → Run (sizes cap) ((st.size ∷ st.hidden ∷ length st.groups ∷ 0 ∷ []) ∷ c ∷ pad group_limit (map (λ g. g.members) st.groups) ∷ st.links ∷ st.free ∷ b ∷ []) u
        → c ≡ pad group_limit (map contents next) → b ≡ pad (group_limit * cap) (bodies cap next)
        → Laid cap (with_names k ns st) u
    unfolding sections
    relaid u c b r ec eb =
        let z : Sized (with_names k ns st) = record { groups_few = omega (arith, same-many, l.sized.groups_few); links_long = l.sized.links_long; free_long = l.sized.free_long } in
        record {
          sized = z;
          run = record {
            sizes = sizes-of cap (with_names k ns st) z;
            is = r.is ∙ (λ i. cat ((st.size ∷ st.hidden ∷ sym same-many i ∷ 0 ∷ []) ∷ ec i ∷ same-members i ∷ st.links ∷ st.free ∷ eb i ∷ []));
          };
        }

  -- ---- lent to a callee

  module _ (b e : ℕ) (eb : b ≡ bodies_at + cap * k) (ee : e ≡ b + cap) where
    pub own_words : take (e - b) (drop b t) ≡ words cap (names_at k st)
    unfolding sections
    own_words = read-in l.run 5 (lit< tt) own b e eb ee

    -- the callee kept the length and left the words of other names
    module _ (ns : List Entry) (f : List ℕ → List ℕ) (made : f (words cap (names_at k st)) ≡ words cap ns)
        (r : List ℕ) (long : length r ≡ length (take (e - b) (drop b t))) (left : r ≡ f (take (e - b) (drop b t))) where
      lent : Run (sizes cap) ((st.size ∷ st.hidden ∷ length st.groups ∷ 0 ∷ []) ∷ pad group_limit (map contents st.groups) ∷ pad group_limit (map (λ g. g.members) st.groups)
          ∷ st.links ∷ st.free ∷ (front ++ (words cap ns ++ back)) ∷ []) (take b t ++ (r ++ drop (e - b) (drop b t)))
      unfolding sections
      lent =
          subst (λ (y : List ℕ). Run (sizes cap) ((st.size ∷ st.hidden ∷ length st.groups ∷ 0 ∷ []) ∷ pad group_limit (map contents st.groups) ∷ pad group_limit (map (λ g. g.members) st.groups)
          ∷ st.links ∷ st.free ∷ (front ++ (y ++ back)) ∷ []) (take b t ++ (r ++ drop (e - b) (drop b t)))) made
          (lent-in l.run 5 (lit< tt) own b e eb ee f r long left)

      -- as many as before: the contents word stays
      pub renamed-as-many : length ns ≡ length (names_at k st) → Laid cap (with_names k ns st) (take b t ++ (r ++ drop (e - b) (drop b t)))
      renamed-as-many n =
          relaid ns _ _ _ lent
          (sym (ap (set (pad group_limit (map contents st.groups)) k) same-contents ∙ set-get_or (pad group_limit (map contents st.groups)) k 0) ∙ next-contents ns) (next-bodies ns)
        where
          same-contents : contents (renamed ns (group_at st.groups k)) ≡ get_or (pad group_limit (map contents st.groups)) k 0
          same-contents =
              ap (λ (m : ℕ). (group_at st.groups k).name + group_names * m) n
              ∙ sym (getD-pad group_limit (map contents st.groups) k ∙ contents_at-place st.groups k)

      -- and the contents word was stored
      pub renamed-counted : (c : ℕ) → c ≡ contents (renamed ns (group_at st.groups k))
          → Laid cap (with_names k ns st) (set (take b t ++ (r ++ drop (e - b) (drop b t))) (contents_at + k) c)
      renamed-counted c ec =
          relaid ns _ _ _ (store lent 1 (lit< tt) k c (omega (arith, l.sized.groups_few)))
          (ap (set (pad group_limit (map contents st.groups)) k) ec ∙ next-contents ns) (next-bodies ns)
