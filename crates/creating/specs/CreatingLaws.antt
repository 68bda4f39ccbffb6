-- The walk that makes s_groups, one at a time. Assumes nothing.
use Rattle.std.specs.Prelude.{◌≡◌, true, List, ◌∷◌, ℕ, suc, ◌+◌, ◌≤◌, ◌<◌, ◌^◌, length, drop, get_or}
use Rattle.std.proofs.Common.{sym, ◌∙◌, arith, drop_of_length-le, drop-cons}
use Rattle.nodes.specs.Sets.{node_limit, lowest}
use Rattle.entries.specs.Pids.{half_word}
use Rattle.pairs.specs.declared.Made.{Made}
use Rattle.pairs.specs.Woven.{woven}
use Rattle.semantics.specs.Sizes.{names_per_group}
use Rattle.semantics.specs.Test.{sound}
use Rattle.semantics.specs.Call.{call}
use Rattle.semantics.proofs.Calls.{calls-keep-sound}
use Rattle.semantics.proofs.Agree.{sound-iff}
use Rattle.commands.specs.declared.Command.TheVariants.{NewSGroup}
use Rattle.creating.specs.Creating.{created}

-- s_groups from the place i on are still to be made on the table t, which is sound
pub record ToMake (ms : List Made) (t₀ : List ℕ) (i : ℕ) (t : List ℕ) : Type 0 where
  pub whole : sound names_per_group t ≡ true
  pub comes : created (woven ms) t₀ ≡ created (woven (drop i ms)) t

-- that of the place i is made
pub makes : (ms : List Made) (t₀ : List ℕ) (i : ℕ) (t : List ℕ) (d g : Made) {u : List ℕ} → ToMake ms t₀ i t → i < length ms → g ≡ get_or ms i d
    → g.number < half_word → g.set < 2 ^ node_limit → u ≡ (call 0 (lowest g.set) (NewSGroup g.number g.set) t).table → ToMake ms t₀ (i + 1) u
unfolding created woven
makes ms t₀ i t d g m l is n s e = record {
  whole = rw e ((sound-iff names_per_group _).1 (calls-keep-sound 0 _ _ t (n, s) ((sound-iff names_per_group t).0 m.whole)));
  comes =
      let next : suc i ≡ i + 1 = omega arith in
      let from : drop i ms ≡ g ∷ drop (i + 1) ms = drop-cons ms i d l ∙ rw (next, is) in
      m.comes ∙ rw (from, e);
}

-- nothing is left to make
pub made_all : (ms : List Made) (t₀ : List ℕ) (i : ℕ) (t : List ℕ) → ToMake ms t₀ i t → length ms ≤ i → t ≡ created (woven ms) t₀
unfolding created woven
made_all ms t₀ i t to_make l = sym (to_make.comes ∙ rw (drop_of_length-le ms l))
