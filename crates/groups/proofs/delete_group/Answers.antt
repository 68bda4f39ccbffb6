-- `groups::delete_group` meets its contract: the contents, the members and the bodies behind the place move down, and there is one s_group less.
-- Assumes nothing.
use native.Mathlib.Omega.{arith}
use mathlib.Core.Path.{◌≡◌, refl, ap, ◌∙◌}
use mathlib.Core.List.{[], ◌∷◌, map, map-append}
use Prim.Native.Nat.{ℕ, ◌+◌, ◌-◌, ◌*◌}
use lib.Dec.{lit<}
use lib.ListN.{length, get_or, length-append, length-map}
use Rattle.entries.specs.Entries.{words}
use Rattle.entries.specs.Storage.{length-words}
use Rattle.semantics.specs.Sizes.{group_limit, names_per_group, contents_at, members_at}
use Rattle.semantics.specs.Table.{contents, bodies, sections}
use Rattle.semantics.specs.Bodies.{length-bodies, bodies-append}
use Rattle.semantics.specs.Sections.{store}
use Rattle.semantics.specs.WordsOfState.{count-is}
use Rattle.groups.specs.Shifted.{comes-out}
use Rattle.groups.specs.Regrouped.{mems, length-mems, mems-append, deleted}
use Rattle.groups.proofs.delete_group.Goals as goal

pub returns : goal.returns
unfolding sections
returns c = λ st l x y g is stands.
    let a = c.args in
    let G : ℕ = get_or a.t.now 2 0 in
    let many : a.at + 1 + length y ≡ G = omega (arith, count-is l, ap length is, length-append x (g ∷ y), stands) in
    let u1 = comes-out l.run 1 (lit< tt) group_limit 1 a.at G (map contents x) (map contents y) (length-map x contents ∙ stands)
    (contents_at + a.at) (contents_at + G) (omega arith)
    (contents g ∷ []) (rw (is, map-append contents x (g ∷ y))) refl (omega (arith, many, length-map y contents)) (omega arith) (omega arith) c.drop_first.new.run c.drop_first.auto.run c.drop_first.ensures in
    let u2 = comes-out u1 2 (lit< tt) group_limit 1 a.at G (mems x) (mems y) (length-mems x ∙ stands)
    (members_at + a.at) (members_at + G) (omega arith)
    (g.members ∷ []) (rw (is, mems-append x (g ∷ y))) refl (omega (arith, many, length-mems y)) (omega arith) (omega arith) c.drop_first-2.new.run c.drop_first-2.auto.run c.drop_first-2.ensures in
    let u3 = comes-out u2 5 (lit< tt) (group_limit * names_per_group) names_per_group (names_per_group * a.at) (names_per_group * G) (bodies names_per_group x) (bodies names_per_group y)
    (omega (arith, length-bodies names_per_group x, stands)) c.own_words.result.start c.own_words-2.result.end (omega arith)
    (words names_per_group g.names) (rw (is, bodies-append names_per_group x (g ∷ y))) (length-words names_per_group g.names) (omega (arith, many, length-bodies names_per_group y)) (omega arith) (omega arith) c.drop_body.new.run c.drop_body.auto.run c.drop_body.ensures in
    deleted l x y a.at stands g is _ (store u3 0 (lit< tt) 2 (G - 1) (lit< tt))
