-- `groups::insert_group` meets its contract: the contents, the members and the bodies from the place on move up, and there is one s_group more.
-- Assumes nothing.
use native.Mathlib.Omega.{arith}
use mathlib.Core.Path.{◌≡◌, ap, ◌∙◌}
use mathlib.Core.List.{map, map-append}
use Prim.Native.Nat.{ℕ, ◌+◌, ◌*◌}
use lib.Dec.{lit<}
use lib.ListN.{length, get_or, length-append, length-map}
use Rattle.semantics.specs.Sizes.{group_limit, names_per_group, contents_at, members_at}
use Rattle.semantics.specs.Table.{contents, bodies, sections}
use Rattle.semantics.specs.Bodies.{length-bodies, bodies-append}
use Rattle.semantics.specs.Sections.{store}
use Rattle.semantics.specs.WordsOfState.{count-is}
use Rattle.groups.specs.Shifted.{goes_in}
use Rattle.groups.specs.Regrouped.{mems, length-mems, mems-append, inserted}
use Rattle.groups.proofs.insert_group.Goals as goal

pub returns : goal.returns
unfolding sections
returns c = λ st l x y is stands.
    let a = c.args in
    let G : ℕ = get_or a.t.now 2 0 in
    let many : a.at + length y ≡ G = omega (arith, count-is l, ap length is, length-append x y, stands) in
    let u1 = goes_in l.run 1 (lit< tt) group_limit 1 a.at G (map contents x) (map contents y) (length-map x contents ∙ stands)
    (contents_at + a.at) (contents_at + G + 1) (omega arith)
    (rw (is, map-append contents x y)) (omega (arith, many, length-map y contents)) (omega arith) (omega arith) a.s c.put_first.new.run c.put_first.auto.run c.put_first.ensures in
    let u2 = goes_in u1 2 (lit< tt) group_limit 1 a.at G (mems x) (mems y) (length-mems x ∙ stands)
    (members_at + a.at) (members_at + G + 1) (omega arith)
    (rw (is, mems-append x y)) (omega (arith, many, length-mems y)) (omega arith) (omega arith) a.set c.put_first-2.new.run c.put_first-2.auto.run c.put_first-2.ensures in
    let u3 = goes_in u2 5 (lit< tt) (group_limit * names_per_group) names_per_group (names_per_group * a.at) (names_per_group * G) (bodies names_per_group x) (bodies names_per_group y)
    (omega (arith, length-bodies names_per_group x, stands)) c.own_words.result.start c.own_words-2.result.end (omega arith)
    (rw (is, bodies-append names_per_group x y)) (omega (arith, many, length-bodies names_per_group y)) (omega arith) (omega arith) 0 c.put_body.new.run c.put_body.auto.run c.put_body.ensures in
    inserted l x y a.at stands is a.s a.set (omega arith) _ (store u3 0 (lit< tt) 2 (G + 1) (lit< tt))
