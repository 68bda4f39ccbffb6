-- Laws of groups of one name: what is asked of a list in two parts, of the groups that are kept, and of lists in which no two groups have one name. Assumes
-- nothing.
use Rattle.std.specs.Prelude.{◌≡◌, refl, Bool, true, false, not, ◌&&◌, ◌||◌, cond, List, [], ◌∷◌, ◌++◌, ℕ}
use Rattle.std.proofs.Common.{sym, ap, ◌∙◌, append_assoc, arith}
use Rattle.std.proofs.Math.Bool.{or-true, or_assoc, and_assoc}
use Rattle.tokens.specs.Reserved.{same, among}
use Rattle.tokens.specs.Words.{same_eq, same_refl}
use Rattle.grammar.specs.File.{Group}
use Rattle.duplicates.specs.Duplicates.{covered, equal_nodes, agreed, named, made, kept_of, kept, clashing, clash}

-- ---- tests

pub both : (a b : Bool) → (a && b) ≡ true → (a ≡ true) × (b ≡ true)
both true b h = (refl, h)
both false b h = absurd (let z : ◌≡◌ {A = ℕ} 0 1 = cc in omega arith)

pub neither : (a b : Bool) → (a || b) ≡ false → (a ≡ false) × (b ≡ false)
neither true b h = absurd (let z : ◌≡◌ {A = ℕ} 0 1 = cc in omega arith)
neither false b h = (refl, h)

pub is-not : (a : Bool) → not a ≡ true → a ≡ false
is-not true h = sym h
is-not false h = refl

-- ---- nodes

covered_more : (ws vs : List (List ℕ)) (v : List ℕ) → covered ws vs ≡ true → covered ws (v ∷ vs) ≡ true
unfolding among
covered_more [] vs v h = refl
covered_more (w ∷ ws) vs v h =
    let (p, q) = both (among vs w) (covered ws vs) h in
    rw (p, or-true (same w v)) (covered_more ws vs v q)

covered-self : (ws : List (List ℕ)) → covered ws ws ≡ true
unfolding among
covered-self [] = refl
covered-self (w ∷ ws) = rw (same_refl w) (covered_more ws ws w (covered-self ws))

-- every list has its own nodes
pub equal-self : (ws : List (List ℕ)) → equal_nodes ws ws ≡ true
equal-self ws = rw (covered-self ws)

-- the same, where two lists are known to be equal
pub own_nodes : (ws vs : List (List ℕ)) → ws ≡ vs → equal_nodes ws vs ≡ true
own_nodes ws vs e = rw (e, equal-self vs)

-- ---- a list in two parts

pub named-append : (ks gs : List Group) (w : List ℕ) → named (ks ++ gs) w ≡ named ks w || named gs w
named-append [] gs w = refl
named-append (k ∷ ks) gs w = rw (named-append ks gs w, or_assoc)

pub agreed-append : (ks gs : List Group) (w : List ℕ) (ws : List (List ℕ)) → agreed (ks ++ gs) w ws ≡ agreed ks w ws && agreed gs w ws
agreed-append [] gs w ws = refl
agreed-append (k ∷ ks) gs w ws = rw (agreed-append ks gs w ws, and_assoc)

-- where no group has the name, all agree
pub agreed-none : (gs : List Group) (w : List ℕ) (ws : List (List ℕ)) → named gs w ≡ false → agreed gs w ws ≡ true
agreed-none [] w ws h = refl
agreed-none (g ∷ gs) w ws h = let (p, q) = neither (same g.name w) (named gs w) h in rw p (agreed-none gs w ws q)

-- ---- lists in which no two groups have one name

abbrev pub apart : List Group → Bool
apart [] = true
apart (g ∷ gs) = not (named gs g.name) && apart gs

same-sym : (v w : List ℕ) → same v w ≡ false → same w v ≡ false
same-sym v w h = go (same w v) refl
  where
    go : (x : Bool) → same w v ≡ x → x ≡ false
    go true e = sym (rw (same_eq w v e) (same_refl v)) ∙ h
    go false e = refl

-- one more, of a name that none has
pub apart_snoc : (gs : List Group) (g : Group) → apart gs ≡ true → named gs g.name ≡ false → apart (gs ++ (g ∷ [])) ≡ true
apart_snoc [] g h n = refl
apart_snoc (k ∷ ks) g h n =
    let (p, q) = both (not (named ks k.name)) (apart ks) h in
    let (x, y) = neither (same k.name g.name) (named ks g.name) n in
    rw (named-append ks (g ∷ []) k.name, is-not (named ks k.name) p, same-sym k.name g.name x) (apart_snoc ks g q y)

-- a group in it is named by none before and none behind
pub apart_at : (ks : List Group) (g : Group) (gs : List Group) → apart (ks ++ (g ∷ gs)) ≡ true → (named ks g.name ≡ false) × (named gs g.name ≡ false)
apart_at [] g gs h = (refl, is-not (named gs g.name) (both (not (named gs g.name)) (apart gs) h).0)
apart_at (k ∷ ks) g gs h =
    let (p, q) = both (not (named (ks ++ (g ∷ gs)) k.name)) (apart (ks ++ (g ∷ gs))) h in
    let (a, b) = apart_at ks g gs q in
    let n = sym (named-append ks (g ∷ gs) k.name) ∙ is-not (named (ks ++ (g ∷ gs)) k.name) p in
    let (x, y) = neither (named ks k.name) (same g.name k.name || named gs k.name) n in
    (rw (same-sym g.name k.name (neither (same g.name k.name) (named gs k.name) y).0) a, b)

-- so it agrees with its namesakes
pub apart-agreed : (ks : List Group) (g : Group) (gs : List Group) → apart (ks ++ (g ∷ gs)) ≡ true → agreed (ks ++ (g ∷ gs)) g.name g.nodes ≡ true
apart-agreed ks g gs h =
    let (a, b) = apart_at ks g gs h in
    rw (agreed-append ks (g ∷ gs) g.name g.nodes, agreed-none ks g.name g.nodes a, agreed-none gs g.name g.nodes b, equal-self g.nodes)
    (go (not (same g.name g.name)))
  where
    go : (x : Bool) → ((x || true) && true) ≡ true
    go true = refl
    go false = refl

-- and is made
pub apart-made : (all ks : List Group) (g : Group) (gs : List Group) → apart all ≡ true → all ≡ ks ++ (g ∷ gs) → made all ks g.name g.nodes ≡ true
apart-made all ks g gs h e =
    let a : agreed all g.name g.nodes ≡ true = rw e (apart-agreed ks g gs (rw e at h)) in
    rw (a, (apart_at ks g gs (rw e at h)).0)

module _ (all : List Group) (h : apart all ≡ true) where
  kept-rest : (ks gs : List Group) → all ≡ ks ++ gs → kept_of all ks gs ≡ gs
  kept-rest ks [] e = refl
  kept-rest ks (g ∷ gs) e =
      rw (apart-made all ks g gs h e) (ap (λ l. g ∷ l) (kept-rest (ks ++ (g ∷ [])) gs (e ∙ sym (append_assoc ks (g ∷ []) gs))))

  clashing-rest : (w : List ℕ) (ks gs : List Group) → all ≡ ks ++ gs → clashing all gs w ≡ false
  clashing-rest w ks [] e = refl
  clashing-rest w ks (g ∷ gs) e =
      let a : agreed all g.name g.nodes ≡ true = rw e (apart-agreed ks g gs (rw e at h)) in
      rw a (clashing-rest w (ks ++ (g ∷ [])) gs (e ∙ sym (append_assoc ks (g ∷ []) gs)))

-- all are kept
pub apart-kept : (gs : List Group) → apart gs ≡ true → kept gs ≡ gs
apart-kept gs h = kept-rest gs h [] gs refl

-- and none clashes
pub apart-clash : (gs : List Group) (w : List ℕ) → apart gs ≡ true → clash gs w ≡ false
apart-clash gs w h = clashing-rest gs h w [] gs refl

-- ---- the kept groups

-- none of them has the name of one before
kept_new : (all ks gs : List Group) (w : List ℕ) → named ks w ≡ true → named (kept_of all ks gs) w ≡ false
kept_new all ks [] w h = refl
kept_new all ks (g ∷ gs) w h =
    go (agreed all g.name g.nodes) (named ks g.name) refl
    (kept_new all (ks ++ (g ∷ [])) gs w (rw (named-append ks (g ∷ []) w, h)))
  where
    other : (x : Bool) → same g.name w ≡ x → named ks g.name ≡ false → x ≡ false
    other true e n = sym h ∙ sym (ap (named ks) (same_eq g.name w e)) ∙ n
    other false e n = refl

    go : (a b : Bool) → named ks g.name ≡ b → named (kept_of all (ks ++ (g ∷ [])) gs) w ≡ false
        → named (cond (a && not b) (g ∷ kept_of all (ks ++ (g ∷ [])) gs) (kept_of all (ks ++ (g ∷ [])) gs)) w ≡ false
    go true true e i = i
    go true false e i = rw (other (same g.name w) refl e) i
    go false b e i = i

kept_of-apart : (all ks gs : List Group) → apart (kept_of all ks gs) ≡ true
kept_of-apart all ks [] = refl
kept_of-apart all ks (g ∷ gs) = go (agreed all g.name g.nodes && not (named ks g.name)) (kept_of-apart all (ks ++ (g ∷ [])) gs)
  where
    here : named (ks ++ (g ∷ [])) g.name ≡ true
    here = rw (named-append ks (g ∷ []) g.name, same_refl g.name) (or-true (named ks g.name))

    go : (a : Bool) → apart (kept_of all (ks ++ (g ∷ [])) gs) ≡ true
        → apart (cond a (g ∷ kept_of all (ks ++ (g ∷ [])) gs) (kept_of all (ks ++ (g ∷ [])) gs)) ≡ true
    go true i = rw (kept_new all (ks ++ (g ∷ [])) gs g.name here) i
    go false i = i

-- no two of them have one name
pub kept-apart : (gs : List Group) → apart (kept gs) ≡ true
kept-apart gs = kept_of-apart gs [] gs
