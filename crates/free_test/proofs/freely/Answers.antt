-- `free_test::freely` meets its contract: it asks for the node as the definition does, and `1 << i` is the node alone.
-- Assumes nothing.
use borrow.Author.Tests.{eq-eqb}
use Rattle.nodes.specs.Sets.{bit, union, inter}
use Rattle.nodes.proofs.Words.{shl_one}
use Rattle.free_test.proofs.freely.Goals as goal

pub returns-then-loose-i-eq1 : goal.returns-then-loose-i-eq1
unfolding union inter
returns-then-loose-i-eq1 c =
    let a = c.args in
    rw (shl_one a.i c.requires, eq-eqb (bit a.loose a.i) 1 c.if-loose-i-eq1.true)
