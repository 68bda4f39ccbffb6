-- `index_test::has_name` meets its contract: a name and a pid of the s_group are one of its words. Assumes nothing.
use mathlib.Core.Path.{◌≡◌, ◌∙◌}
use native.Mathlib.Omega.{arith}
use Rattle.semantics.specs.Places.{group_at}
use Rattle.sound_table.specs.Here.{here}
use Rattle.index_test.specs.Held.{word_for, names_sound, own_words, held-words}
use Rattle.index_test.proofs.has_name.Goals as goal

pub returns : goal.returns
returns c =
    let t = c.args.t.words.now in
    let ok = c.args.t.fit in
    let at = c.args.at in
    let below = c.requires.at_bound in
    let lent = own_words t ok at below _ _ c.own_words.ensures.start c.own_words.ensures.end in
    let word : c.word_of.result ≡ word_for (record { key = c.args.key; name = c.args.name }) = omega arith in
    c.has_word.ensures (here t).size (group_at (here t).groups at).names (names_sound t ok at below) lent (omega arith)
    ∙ rw (word, lent) (held-words t ok at below (record { key = c.args.key; name = c.args.name }) c.requires.half_word_value (omega arith) (omega arith))
