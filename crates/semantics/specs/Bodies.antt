-- The words of the namespaces, cap an s_group. Assumes nothing.
use Rattle.std.specs.Prelude.{◌≡◌, refl, List, [], ◌∷◌, ◌++◌, ℕ, zero, suc, ◌+◌, ◌*◌, ◌≤◌, ◌<◌, length, get_or}
use Rattle.std.proofs.Common.{sym, ap, ◌∙◌, append_assoc, not-suc-le-zero, mul-suc, mul_comm, mul-le-mul_left, arith, length-append, get_or-append-add}
use Rattle.std.proofs.Math.ListN.{get_or-append}
use Rattle.entries.specs.Entries.{word_of, entry_of, words, entries}
use Rattle.entries.specs.Storage.{length-words}
use Rattle.semantics.specs.Sizes.{group_limit, bodies_at}
use Rattle.semantics.specs.State.{Group}
use Rattle.semantics.specs.Table.{bodies}
use Rattle.semantics.specs.Places.{group_at}
use Rattle.semantics.specs.EntryPlaces.{entry_at, words_at}

pub length-bodies : (cap : ℕ) (gs : List Group) → length (bodies cap gs) ≡ cap * length gs
length-bodies cap [] = omega arith
length-bodies cap (g ∷ gs) = omega (arith, length-append (words cap g.names) (bodies cap gs), length-words cap g.names, length-bodies cap gs, mul-suc cap (length gs))

pub bodies-append : (cap : ℕ) (a b : List Group) → bodies cap (a ++ b) ≡ bodies cap a ++ bodies cap b
bodies-append cap [] b = refl
bodies-append cap (g ∷ a) b = rw (bodies-append cap a b) (sym (append_assoc (words cap g.names) (bodies cap a) (bodies cap b)))

-- the entries of a run's first words do not depend on what follows
pub entries_front : (count : ℕ) (ws z : List ℕ) → count ≤ length ws → entries count (ws ++ z) ≡ entries count ws
unfolding entries
entries_front zero ws z h = refl
entries_front (suc count) [] z h = absurd (not-suc-le-zero h)
entries_front (suc count) (w ∷ ws) z h = ap (λ (es : List _). entry_of w ∷ es) (entries_front count ws z (omega arith))

-- the word of the entry at place k of the s_group at place g
pub body_at : (cap : ℕ) (gs : List Group) (g k : ℕ) → k < cap → get_or (bodies cap gs) (cap * g + k) 0 ≡ word_of (entry_at (group_at gs g).names k)
body_at cap [] g k h = refl
body_at cap (x ∷ gs) zero k h =
    let e : cap * zero + k ≡ k = omega arith in
    rw e (get_or-append (words cap x.names) (bodies cap gs) 0 k (omega (arith, length-words cap x.names)) ∙ words_at cap x.names k h)
body_at cap (x ∷ gs) (suc g) k h =
    let e : cap * suc g + k ≡ length (words cap x.names) + (cap * g + k) = omega (arith, length-words cap x.names, mul-suc cap g) in
    rw e (get_or-append-add (words cap x.names) (bodies cap gs) (cap * g + k) 0 ∙ body_at cap gs g k h)

-- where the words of the names of the s_group at place g begin
abbrev pub own_at : ℕ → ℕ → ℕ
own_at cap g = bodies_at + cap * g

-- they end within the bodies
pub body_end : (cap g : ℕ) → g < group_limit → cap * g + cap ≤ group_limit * cap
body_end cap g h = omega (arith, mul-suc cap g, mul-le-mul_left cap h, mul_comm group_limit cap)

pub body-in : (cap g k : ℕ) → g < group_limit → k < cap → cap * g + k < group_limit * cap
body-in cap g k h l = omega (arith, body_end cap g h)
