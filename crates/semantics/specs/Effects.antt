-- Effects on two different s_groups can change places, and neither changes the other's s_group, the roster or more than its own. Assumes nothing.
use Rattle.std.specs.Prelude.{◌≡◌, refl, ◌≢◌, ◌⊎◌, Bool, true, false, cond, List, [], ◌∷◌, map, ℕ, suc, ◌+◌, ◌≤◌, ◌<◌, T, eqb, ltb, length}
use Rattle.std.proofs.Common.{sym, ap, ap₂, ◌∙◌, inl, inr, ⊎_elim, arith, eqb→eq, ne_eqb, lt-ltb, le-ltb}
use Rattle.std.proofs.Math.Option.{Option, some}
use Rattle.nodes.specs.Sets.{has, single, union, diff}
use Rattle.nodes.specs.Bools.{by_lt}
use Rattle.nodes.proofs.SetLaws.{union_right_comm, diff-right-comm, diff-none}
use Rattle.entries.specs.Entries.{Entry}
use Rattle.semantics.specs.State.{Group, State, find, become, put, add_group}
use Rattle.semantics.specs.Groups.{length-put, length-add_group}
use Rattle.semantics.specs.Steps.{mapi, meet, interconnect, left, leave_free, Effect, keep, hold, join, create, apply}

-- ---- connections and free groups

mapi-comm : (f g : ℕ → ℕ → ℕ) → ((i x : ℕ) → f i (g i x) ≡ g i (f i x)) → (k : ℕ) (l : List ℕ) → mapi f k (mapi g k l) ≡ mapi g k (mapi f k l)
mapi-comm f g h k [] = refl
mapi-comm f g h k (x ∷ xs) = ap₂ ◌∷◌ (h k x) (mapi-comm f g h (suc k) xs)

meet_comm : (a b i l : ℕ) → meet a i (meet b i l) ≡ meet b i (meet a i l)
meet_comm a b i l = go (has a i) (has b i)
  where
    go : (x y : Bool) → cond x (union (cond y (union l (diff b (single i))) l) (diff a (single i))) (cond y (union l (diff b (single i))) l)
        ≡ cond y (union (cond x (union l (diff a (single i))) l) (diff b (single i))) (cond x (union l (diff a (single i))) l)
    go true true = union_right_comm l (diff b (single i)) (diff a (single i))
    go true false = refl
    go false true = refl
    go false false = refl

left_comm : (a b i f : ℕ) → left a i (left b i f) ≡ left b i (left a i f)
left_comm a b i f = go (has a i) (has b i)
  where
    go : (x y : Bool) → cond x 0 (diff (cond y 0 (diff f b)) a) ≡ cond y 0 (diff (cond x 0 (diff f a)) b)
    go true true = refl
    go true false = sym (diff-none b)
    go false true = diff-none a
    go false false = diff-right-comm f b a

interconnect-comm : (a b : ℕ) (l : List ℕ) → interconnect a (interconnect b l) ≡ interconnect b (interconnect a l)
unfolding interconnect
interconnect-comm a b l = mapi-comm (meet a) (meet b) (meet_comm a b) 0 l

leave-comm : (a b : ℕ) (l : List ℕ) → leave_free a (leave_free b l) ≡ leave_free b (leave_free a l)
unfolding leave_free
leave-comm a b l = mapi-comm (left a) (left b) (left_comm a b) 0 l

-- ---- an s_group with other members and names

-- a name is not two names
apart : {s t : ℕ} → s ≢ t → (n : ℕ) → T (eqb n s) → T (eqb n t) → ⊥
apart {s} {t} h n p q = h (sym (eqb→eq n s p) ∙ eqb→eq n t q)

cond-comm : {A : Type 0} (x y : Bool) (a b c : A) → (T x → T y → ⊥) → cond x a (cond y b c) ≡ cond y b (cond x a c)
cond-comm true true a b c h = absurd (h tt tt)
cond-comm true false a b c h = refl
cond-comm false true a b c h = refl
cond-comm false false a b c h = refl

become-comm : {s t : ℕ} → s ≢ t → (m k : ℕ) (ns ks : List Entry) (g : Group) → become s m ns (become t k ks g) ≡ become t k ks (become s m ns g)
become-comm {s} {t} h m k ns ks g =
    λ i. record {
      name = g.name;
      members = cond-comm (eqb g.name s) (eqb g.name t) m k g.members (apart h g.name) i;
      names = cond-comm (eqb g.name s) (eqb g.name t) ns ks g.names (apart h g.name) i;
    }

put-comm : {s t : ℕ} → s ≢ t → (m k : ℕ) (ns ks : List Entry) (gs : List Group) → put s m ns (put t k ks gs) ≡ put t k ks (put s m ns gs)
unfolding put
put-comm h m k ns ks [] = refl
put-comm h m k ns ks (g ∷ gs) = ap₂ ◌∷◌ (become-comm h m k ns ks g) (put-comm h m k ns ks gs)

find-put-other : {s t : ℕ} → s ≢ t → (k : ℕ) (ks : List Entry) (gs : List Group) → find s (put t k ks gs) ≡ find s gs
unfolding find put
find-put-other h k ks [] = refl
find-put-other {s} {t} h k ks (g ∷ gs) = go (eqb g.name s) (eqb g.name t) (apart h g.name) (find-put-other h k ks gs)
  where
    go : (x y : Bool) {r q : Option Group} → (T x → T y → ⊥) → r ≡ q
        → cond x (some (record { name = g.name; members = cond y k g.members; names = cond y ks g.names })) r ≡ cond x (some g) q
    go true true n e = absurd (n tt tt)
    go true false n e = refl
    go false y n e = e

-- ---- one s_group more

put-add-other : {s : ℕ} (g : Group) → g.name ≢ s → (m : ℕ) (ns : List Entry) (gs : List Group) → put s m ns (add_group g gs) ≡ add_group g (put s m ns gs)
unfolding put add_group
put-add-other {s} g h m ns [] = rw (ne_eqb g.name s h)
put-add-other {s} g h m ns (k ∷ gs) = go (ltb g.name k.name) (put-add-other g h m ns gs)
  where
    go : (x : Bool) → map (become s m ns) (add_group g gs) ≡ add_group g (map (become s m ns) gs)
        → map (become s m ns) (cond x (g ∷ k ∷ gs) (k ∷ add_group g gs))
        ≡ cond x (g ∷ become s m ns k ∷ map (become s m ns) gs) (become s m ns k ∷ add_group g (map (become s m ns) gs))
    go true e = rw (ne_eqb g.name s h)
    go false e = ap (λ (r : List Group). become s m ns k ∷ r) e

find-add-other : {s : ℕ} (g : Group) → g.name ≢ s → (gs : List Group) → find s (add_group g gs) ≡ find s gs
unfolding find add_group
find-add-other {s} g h [] = rw (ne_eqb g.name s h)
find-add-other {s} g h (k ∷ gs) = go (ltb g.name k.name) (find-add-other g h gs)
  where
    go : (x : Bool) → find s (add_group g gs) ≡ find s gs
        → find s (cond x (g ∷ k ∷ gs) (k ∷ add_group g gs)) ≡ cond (eqb k.name s) (some k) (find s gs)
    go true e = rw (ne_eqb g.name s h)
    go false e = ap (λ (r : Option Group). cond (eqb k.name s) (some k) r) e

add-before : (g k : Group) (gs : List Group) → g.name < k.name → add_group g (k ∷ gs) ≡ g ∷ k ∷ gs
unfolding add_group
add-before g k gs h = rw (lt-ltb g.name k.name h)

add-after : (g k : Group) (gs : List Group) → k.name ≤ g.name → add_group g (k ∷ gs) ≡ k ∷ add_group g gs
unfolding add_group
add-after g k gs h = rw (le-ltb g.name k.name h)

-- with g below h
add-two : (g h : Group) → g.name < h.name → (gs : List Group) → add_group g (add_group h gs) ≡ add_group h (add_group g gs)
unfolding add_group
add-two g h n [] = add-before g h [] n ∙ sym (add-after h g [] (omega arith))
add-two g h n (k ∷ gs) = go (by_lt g.name k.name) (by_lt h.name k.name) (add-two g h n gs)
  where
    go : (g.name < k.name) ⊎ (k.name ≤ g.name) → (h.name < k.name) ⊎ (k.name ≤ h.name)
        → add_group g (add_group h gs) ≡ add_group h (add_group g gs)
        → add_group g (add_group h (k ∷ gs)) ≡ add_group h (add_group g (k ∷ gs))
    go (inl p) (inl q) e =
        ap (add_group g) (add-before h k gs q) ∙ add-before g h (k ∷ gs) n
        ∙ sym (ap (add_group h) (add-before g k gs p) ∙ add-after h g (k ∷ gs) (omega arith) ∙ ap (λ (r : List Group). g ∷ r) (add-before h k gs q))
    go (inl p) (inr q) e =
        ap (add_group g) (add-after h k gs q) ∙ add-before g k (add_group h gs) p
        ∙ sym (ap (add_group h) (add-before g k gs p) ∙ add-after h g (k ∷ gs) (omega arith) ∙ ap (λ (r : List Group). g ∷ r) (add-after h k gs q))
    go (inr p) (inl q) e = absurd (omega arith)
    go (inr p) (inr q) e =
        ap (add_group g) (add-after h k gs q) ∙ add-after g k (add_group h gs) p ∙ ap (λ (r : List Group). k ∷ r) e
        ∙ sym (ap (add_group h) (add-after g k gs p) ∙ add-after h k (add_group g gs) q)

add_comm : (g h : Group) → g.name ≢ h.name → (gs : List Group) → add_group g (add_group h gs) ≡ add_group h (add_group g gs)
add_comm g h n gs = ⊎_elim (λ p. add-two g h p gs) (λ p. sym (add-two h g (omega arith) gs)) (by_lt g.name h.name)

-- ---- effects

state-eq : (n hid : ℕ) {gs gs' : List Group} {l l' f f' : List ℕ} → gs ≡ gs' → l ≡ l' → f ≡ f'
    → ◌≡◌ {A = State} (record { size = n; hidden = hid; groups = gs; links = l; free = f }) (record { size = n; hidden = hid; groups = gs'; links = l'; free = f' })
state-eq n hid p q r = λ i. record { size = n; hidden = hid; groups = p i; links = q i; free = r i }

pub apply-comm : {s t : ℕ} → s ≢ t → (e f : Effect) (st : State) → apply s e (apply t f st) ≡ apply t f (apply s e st)
unfolding apply
apply-comm h keep f st = refl
apply-comm h (hold m ns) keep st = refl
apply-comm h (hold m ns) (hold k ks) st = state-eq _ _ (put-comm h m k ns ks st.groups) refl refl
apply-comm h (hold m ns) (join b k ks) st = state-eq _ _ (put-comm h m k ns ks st.groups) refl refl
apply-comm h (hold m ns) (create b) st = state-eq _ _ (put-add-other _ (λ e. h (sym e)) m ns st.groups) refl refl
apply-comm h (join a m ns) keep st = refl
apply-comm h (join a m ns) (hold k ks) st = state-eq _ _ (put-comm h m k ns ks st.groups) refl refl
apply-comm h (join a m ns) (join b k ks) st =
    state-eq _ _ (put-comm h m k ns ks st.groups) (interconnect-comm m k st.links) (leave-comm a b st.free)
apply-comm h (join a m ns) (create b) st =
    state-eq _ _ (put-add-other _ (λ e. h (sym e)) m ns st.groups) (interconnect-comm m b st.links) (leave-comm a b st.free)
apply-comm h (create a) keep st = refl
apply-comm h (create a) (hold k ks) st = state-eq _ _ (sym (put-add-other _ h k ks st.groups)) refl refl
apply-comm h (create a) (join b k ks) st =
    state-eq _ _ (sym (put-add-other _ h k ks st.groups)) (interconnect-comm a k st.links) (leave-comm a b st.free)
apply-comm h (create a) (create b) st =
    state-eq _ _ (add_comm _ _ h st.groups) (interconnect-comm a b st.links) (leave-comm a b st.free)

pub find-apply-other : {s t : ℕ} → s ≢ t → (e : Effect) (st : State) → find s (apply t e st).groups ≡ find s st.groups
unfolding apply
find-apply-other h keep st = refl
find-apply-other h (hold k ks) st = find-put-other h k ks st.groups
find-apply-other h (join b k ks) st = find-put-other h k ks st.groups
find-apply-other h (create b) st = find-add-other _ (λ e. h (sym e)) st.groups

pub size-apply : (t : ℕ) (e : Effect) (st : State) → (apply t e st).size ≡ st.size
unfolding apply
size-apply t keep st = refl
size-apply t (hold k ks) st = refl
size-apply t (join b k ks) st = refl
size-apply t (create b) st = refl

-- how many s_groups an effect makes
abbrev pub made : Effect → ℕ
made keep = 0
made (hold m ns) = 0
made (join set m ns) = 0
made (create set) = 1

pub made_one : (e : Effect) → made e ≤ 1
made_one keep = omega arith
made_one (hold m ns) = omega arith
made_one (join set m ns) = omega arith
made_one (create set) = omega arith

pub length-apply : (s : ℕ) (e : Effect) (st : State) → length (apply s e st).groups ≡ length st.groups + made e
unfolding apply
length-apply s keep st = omega arith
length-apply s (hold m ns) st = omega (arith, length-put s m ns st.groups)
length-apply s (join set m ns) st = omega (arith, length-put s m ns st.groups)
length-apply s (create set) st = omega (arith, length-add_group (record { name = s; members = set; names = [] }) st.groups)
