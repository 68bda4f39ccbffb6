-- Texts with their outcomes, as the definition computes them. Assumes nothing.
use Rattle.std.specs.Prelude.{◌≡◌, refl, [], ◌∷◌}
use Rattle.tokens.specs.Bytes.{name_byte}
use Rattle.tokens.specs.Reserved.{bytes, among, reserved_words, is_reserved}
use Rattle.grammar.specs.File.{taken, refused, spaced, reads, ends_pairs, keyed, named, node_next, opens, begins, closes, separates, follows, step, ends, rest, outcome}

-- the least file
the-smallest : outcome (bytes "[{kernel,[{s_groups,[]}]}].") ≡ taken []
unfolding rest ends step reads spaced ends_pairs keyed named node_next opens begins closes separates follows name_byte is_reserved among reserved_words
the-smallest = refl

-- a file as in 000, section 4.1
two_groups : outcome (bytes "[{kernel, [{s_groups, [{group1, normal, ['a@b', c@d]}, {'group 2', 'normal', [e]}]}]}].") ≡ taken (record { name = bytes "group1"; nodes = bytes "a@b" ∷ bytes "c@d" ∷ [] } ∷ record { name = bytes "group 2"; nodes = bytes "e" ∷ [] } ∷ [])
unfolding rest ends step reads spaced ends_pairs keyed named node_next opens begins closes separates follows name_byte is_reserved among reserved_words
two_groups = refl

-- other pairs are skipped at both levels
others-skipped : outcome (bytes "[{sasl, [{a, {1, []}}]}, {kernel, [{x, y}, {s_groups, []}, {z, 7}]}]. ") ≡ taken []
unfolding rest ends step reads spaced ends_pairs keyed named node_next opens begins closes separates follows name_byte is_reserved among reserved_words
others-skipped = refl

-- a file without its kernel entry cannot end
no-kernel : outcome (bytes "[]") ≡ refused 1
unfolding rest ends step reads spaced ends_pairs keyed named node_next opens begins closes separates follows name_byte is_reserved among reserved_words
no-kernel = refl

-- a second kernel entry is refused behind its key, which could go on as another
kernel-twice : outcome (bytes "[{kernel,[{s_groups,[]}]},{kernel,") ≡ refused 33
unfolding rest ends step reads spaced ends_pairs keyed named node_next opens begins closes separates follows name_byte is_reserved among reserved_words
kernel-twice = refl

kernels : outcome (bytes "[{kernel,[{s_groups,[]}]},{kernels,1}].") ≡ taken []
unfolding rest ends step reads spaced ends_pairs keyed named node_next opens begins closes separates follows name_byte is_reserved among reserved_words
kernels = refl

-- in quotes, at the closing one
quoted-twice : outcome (bytes "[{kernel,[{s_groups,[]}]},{'kernel',") ≡ refused 34
unfolding rest ends step reads spaced ends_pairs keyed named node_next opens begins closes separates follows name_byte is_reserved among reserved_words
quoted-twice = refl

-- `normal` is read letter by letter
not-normal : outcome (bytes "[{kernel,[{s_groups,[{g,norm@") ≡ refused 28
unfolding rest ends step reads spaced ends_pairs keyed named node_next opens begins closes separates follows name_byte is_reserved among reserved_words
not-normal = refl

normally : outcome (bytes "[{kernel,[{s_groups,[{g,normally") ≡ refused 30
unfolding rest ends step reads spaced ends_pairs keyed named node_next opens begins closes separates follows name_byte is_reserved among reserved_words
normally = refl

-- a group without nodes is refused at the bracket
no-nodes : outcome (bytes "[{kernel,[{s_groups,[{g,normal,[]") ≡ refused 32
unfolding rest ends step reads spaced ends_pairs keyed named node_next opens begins closes separates follows name_byte is_reserved among reserved_words
no-nodes = refl

-- a file that is cut is refused at its whole length
no_stop : outcome (bytes "[{kernel,[{s_groups,[]}]}]") ≡ refused 26
unfolding rest ends step reads spaced ends_pairs keyed named node_next opens begins closes separates follows name_byte is_reserved among reserved_words
no_stop = refl

-- nothing but white space stands behind the full stop
more-behind : outcome (bytes "[{kernel,[{s_groups,[]}]}].x") ≡ refused 27
unfolding rest ends step reads spaced ends_pairs keyed named node_next opens begins closes separates follows name_byte is_reserved among reserved_words
more-behind = refl

-- a reserved word is no key
reserved-key : outcome (bytes "[{end,") ≡ refused 5
unfolding rest ends step reads spaced ends_pairs keyed named node_next opens begins closes separates follows name_byte is_reserved among reserved_words
reserved-key = refl

-- the seventeenth bracket of a skipped value
too-deep : outcome (bytes "[{a,[[[[[[[[[[[[[[[[[") ≡ refused 20
unfolding rest ends step reads spaced ends_pairs keyed named node_next opens begins closes separates follows name_byte is_reserved among reserved_words
too-deep = refl
