-- Worked examples, by computation: what the definitions say of a namespace of two names in four words. Assumes nothing.
use Rattle.std.specs.Prelude.{◌≡◌, refl, List, [], ◌∷◌, true, false, ℕ, ◌+◌, ◌*◌, Ok, Err}
use Rattle.std.proofs.Math.Option.{none, some}
use Rattle.entries.specs.Entries.{Entry, half_word, pids_per_host, insert, remove, renew, lookup, rank, holds_pid, drop_hosted, words, entries}
use Rattle.entries.specs.NamespaceSound.{is_ascending, is_distinct, is_hosted, sound_entries, all_zero, sound_words}
use Rattle.entries.specs.Raw.{narrowed, place, found_at, found, seen_of, pid_answer, opened, add_answer, added, change_of, closed, dropped, replaced}
use Rattle.entries.specs.Raw.{list_answer, listed, hosted_answer, hosted_dropped}
use Rattle.entries.specs.declared.Refusal.TheVariants.{Absent, Full, Unfit}
use Rattle.entries.specs.declared.Seen.TheVariants.{Inside, Outside}

-- the name n for pid number k of host h
at : ℕ → ℕ → ℕ → Entry
at n h k = record { name = n; pid = h * pids_per_host + k }

-- its word
word : ℕ → ℕ → ℕ → ℕ
word n h k = n * half_word + (h * pids_per_host + k)

-- 3 for a pid of node 1, 7 for one of node 0
two : List Entry
two = at 3 1 5 ∷ at 7 0 9 ∷ []

run : List ℕ
run = word 3 1 5 ∷ word 7 0 9 ∷ 0 ∷ 0 ∷ []

-- ---- entries

between : insert (at 5 0 1) two ≡ at 3 1 5 ∷ at 5 0 1 ∷ at 7 0 9 ∷ []
unfolding two at insert
between = refl

one_out : remove 3 two ≡ at 7 0 9 ∷ []
unfolding two at remove
one_out = refl

other-pid : renew 7 8 two ≡ at 3 1 5 ∷ at 7 0 8 ∷ []
unfolding two at renew
other-pid = refl

looked_up : (lookup 7 two ≡ some 9) × (lookup 5 two ≡ none) × (rank 5 two ≡ 1) × (holds_pid 9 two ≡ true) × (holds_pid 5 two ≡ false)
unfolding two at lookup rank holds_pid
looked_up = (refl, refl, refl, refl, refl)

-- node 1 leaves
host-gone : drop_hosted 2 two ≡ at 7 0 9 ∷ []
unfolding two at drop_hosted
host-gone = refl

there_and_back : (words 4 two ≡ run) × (entries 2 run ≡ two)
unfolding two run at word words entries
there_and_back = (refl, refl)

-- ---- soundness

sound : (sound_entries 4 2 two ≡ true) × (sound_words 2 2 run ≡ true)
unfolding two run at word entries holds_pid is_ascending is_distinct is_hosted sound_entries all_zero sound_words
sound = (refl, refl)

-- no room; a host past the size; a count past the end; a word too few counted; one too many
unsound : (sound_entries 1 2 two ≡ false) × (sound_words 1 2 run ≡ false) × (sound_words 2 5 run ≡ false) × (sound_words 2 1 run ≡ false) × (sound_words 2 3 run ≡ false)
unfolding two run at word entries holds_pid is_ascending is_distinct is_hosted sound_entries all_zero sound_words
unsound = (refl, refl, refl, refl, refl)

-- the order, the same name twice, the same pid twice, the name 0
spoiled : (sound_words 2 2 (word 7 0 9 ∷ word 3 1 5 ∷ []) ≡ false) × (sound_words 2 2 (word 3 0 9 ∷ word 3 1 5 ∷ []) ≡ false)
    × (sound_words 2 2 (word 3 0 9 ∷ word 7 0 9 ∷ []) ≡ false) × (sound_words 2 1 (word 0 0 9 ∷ []) ≡ false)
unfolding word entries holds_pid is_ascending is_distinct is_hosted sound_entries all_zero sound_words
spoiled = (refl, refl, refl, refl)

-- ---- words

finds : (found 2 7 run ≡ Ok (1, 9)) × (found 2 5 run ≡ Err Absent) × (found 5 7 run ≡ Err Unfit) × (pid_answer 2 9 run ≡ Ok true) × (pid_answer 2 8 run ≡ Ok false)
unfolding run word narrowed place found_at found pid_answer entries holds_pid
finds = (refl, refl, refl, refl, refl)

-- 3 lives on node 1 and 7 on node 0: told by the set of node 0, and by the empty one
tells : (seen_of 1 (found 2 7 run) ≡ Ok (Inside 9)) × (seen_of 1 (found 2 3 run) ≡ Ok (Outside (1 * pids_per_host + 5))) × (seen_of 0 (found 2 7 run) ≡ Ok (Outside 9))
    × (seen_of 1 (found 2 5 run) ≡ Err Absent) × (seen_of 1 (found 5 7 run) ≡ Err Unfit)
unfolding run word narrowed place found_at found
tells = (refl, refl, refl, refl, refl)

adds : (add_answer 2 run ≡ Ok tt) × (added 2 5 1 run ≡ word 3 1 5 ∷ word 5 0 1 ∷ word 7 0 9 ∷ 0 ∷ [])
unfolding run word narrowed place opened add_answer added
adds = (refl, refl)

-- a full run, and a count past the end: no word changes
adds_none : (add_answer 4 run ≡ Err Full) × (added 4 9 1 run ≡ run) × (add_answer 5 run ≡ Err Unfit) × (added 5 9 1 run ≡ run)
unfolding run word narrowed place opened add_answer added
adds_none = (refl, refl, refl, refl)

drops : (change_of (found 2 3 run) ≡ Ok tt) × (dropped 2 3 run ≡ word 7 0 9 ∷ 0 ∷ 0 ∷ 0 ∷ []) × (dropped 2 4 run ≡ run)
unfolding run word narrowed place found_at found closed dropped
drops = (refl, refl, refl)

replaces : (replaced 2 7 8 run ≡ word 3 1 5 ∷ word 7 0 8 ∷ 0 ∷ 0 ∷ []) × (replaced 2 6 8 run ≡ run)
unfolding run word narrowed place found_at found replaced
replaces = (refl, refl)

-- the names with 11 above each, over the first words of a longer run
lists : (list_answer 2 run (1 ∷ 1 ∷ 1 ∷ []) ≡ Ok 2) × (listed 2 11 run (1 ∷ 1 ∷ 1 ∷ []) ≡ (11 * half_word + 3) ∷ (11 * half_word + 7) ∷ 1 ∷ [])
    × (list_answer 2 run (1 ∷ []) ≡ Err Unfit) × (listed 2 11 run (1 ∷ []) ≡ 1 ∷ [])
unfolding run word entries list_answer listed
lists = (refl, refl, refl, refl)

hosts_leave : (hosted_answer 2 2 run ≡ Ok 1) × (hosted_dropped 2 2 run ≡ word 7 0 9 ∷ 0 ∷ 0 ∷ 0 ∷ [])
unfolding run word words entries drop_hosted hosted_answer hosted_dropped
hosts_leave = (refl, refl)
