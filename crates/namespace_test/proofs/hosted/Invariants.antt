-- `namespace_test::hosted` meets its contract: what was right so far, with the hosts of the entries to come, is the test of all, and every pid has one of all nodes for its host.
-- Assumes nothing.
use mathlib.Core.Path.{◌≡◌}
use mathlib.Core.Bool.{◌&&◌}
use lib.ListN.{length}
use Rattle.entries.specs.Entries.{entries}
use Rattle.entries.specs.NamespaceSound.{is_hosted}
use Rattle.entries.specs.Storage.{rest}
use Rattle.namespace_test.proofs.hosted.Given as goal

abbrev pub invariant-loop-word : goal.invariant-loop-word
invariant-loop-word l = l.right && is_hosted l.size (rest l.word-index (length l.words) l.words) ≡ is_hosted l.size (entries (length l.words) l.words)
