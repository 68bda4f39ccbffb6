-- `namespace_test::hosted` meets its contract: what was right so far, with the hosts of the entries to come, is the test of all, and every pid has one of all nodes for its host.
-- Assumes nothing.
use native.Mathlib.Omega.{arith}
use mathlib.Core.Path.{◌≡◌, refl, sym, ◌∙◌}
use mathlib.Core.List.{List, [], ◌∷◌}
use mathlib.Core.Bool.{Bool, true, ◌&&◌, and_assoc, and-true}
use Prim.Native.Nat.{ℕ, zero, suc, ◌+◌, ◌%◌, ◌≤◌, ◌<◌}
use lib.ListN.{length, get_or}
use lib.Dec.{ltb}
use borrow.Author.Tests.{lt-ltb}
use Rattle.nodes.specs.Sets.{node_limit}
use Rattle.entries.specs.Entries.{half_word, host, entries}
use Rattle.entries.specs.NamespaceSound.{is_hosted}
use Rattle.entries.specs.Storage.{rest, rest-next, rest-none}
use Rattle.namespace_test.proofs.hosted.Goals as goal

-- with a full roster every pid has its host
all-hosted : (size count : ℕ) (ws : List ℕ) → node_limit ≤ size → is_hosted size (entries count ws) ≡ true
unfolding is_hosted entries
all-hosted size zero ws h = refl
all-hosted size (suc count) [] h = refl
all-hosted size (suc count) (w ∷ ws) h = rw (lt-ltb (host (w % half_word)) size (omega arith)) (all-hosted size count ws h)

module _ (count size i : ℕ) (right : Bool) (ws : List ℕ) where
  turn : i < count → i < length ws → right && ltb (host (get_or ws i 0 % half_word)) size && is_hosted size (rest (i + 1) count ws) ≡ right && is_hosted size (rest i count ws)
  unfolding is_hosted
  turn h k = rw (rest-next i count ws) (and_assoc right (ltb (host (get_or ws i 0 % half_word)) size) (is_hosted size (rest (i + 1) count ws)))

  ends : count ≤ i → right && is_hosted size (rest i count ws) ≡ right
  unfolding is_hosted
  ends h = rw (rest-none i count ws) (and-true right)

pub returns-then-size-ge-NODE_LIMIT : goal.returns-then-size-ge-NODE_LIMIT
returns-then-size-ge-NODE_LIMIT c =
    let a = c.args in
    sym (all-hosted a.size (length a.words.now) a.words.now c.if-size-ge-NODE_LIMIT.true)

pub loop-word-preserved : goal.loop-word-preserved
loop-word-preserved c =
    let v = c.loop-word in
    let a = c.args in
    rw (c.host_of.ensures, c.pid_of.ensures) (turn (length a.words.now) a.size v.word-index v.right a.words.now (omega arith) (omega arith) ∙ v.invariant)

pub returns : goal.returns
returns c =
    let v = c.loop-word in
    let a = c.args in
    sym (ends (length a.words.now) a.size v.word-index v.right a.words.now (omega arith)) ∙ v.invariant
