-- Laws of `told`: a launch that goes through, and one that is refused. Assumes nothing.
use Rattle.std.specs.Prelude.{◌≡◌, ◌⊎◌, true, List, ℕ, length, take, replicate}
use Rattle.std.proofs.Common.{sym, ap, subst, inl, inr}
use Rattle.answers.specs.Answers.{refuses}
use Rattle.answers.specs.declared.Answer.{Answer}
use Rattle.answers.specs.declared.Reason.{Reason}
use Rattle.answers.specs.declared.Reason.TheVariants.{Done}
use Rattle.semantics.specs.Sizes.{names_per_group, table_words}
use Rattle.print.specs.Sheets.{sheet, put}
use Rattle.launch.specs.Launch.{Launch, launch}
use Rattle.launch.proofs.AllMade.{launch_done_or_refused}
use Rattle.launch_report.specs.Launched.{launched_lines}
use Rattle.refusal_head.specs.Refusal.{refusal_head}
use Rattle.refusal_head.specs.Begins.{said-whole}
use Rattle.launch_why.specs.declared.Asked.{Asked}
use Rattle.sgroup_launch.specs.Report.{launched, told, sure}

-- so a reason that is not Done is a refusal
stops : (r : Reason) → (r ≡ Done → ⊥) → (r ≡ Done) ⊎ (refuses r ≡ true) → refuses r ≡ true
stops r z (inl d) = absurd (z d)
stops r z (inr h) = h

-- a launch has Done or a refusal
pub either_way : (q : Asked) (book file : List ℕ) → ((launched q book file).answer.reason ≡ Done) ⊎ (refuses (launched q book file).answer.reason ≡ true)
unfolding launched
either_way q book file = launch_done_or_refused q.n q.hidden q.start book file (replicate (table_words names_per_group) 0)

-- the launch of the file as it is handed on
pub same-launch : (q : Asked) (book file f : List ℕ) → f ≡ file
    → launch q.n q.hidden q.start book f (replicate (table_words names_per_group) 0) ≡ launched q book file
unfolding launched
same-launch q book file f e = ap (λ (x : List ℕ). launch q.n q.hidden q.start book x (replicate (table_words names_per_group) 0)) e

module _ (l : Launch) (q : Asked) (book name file : List ℕ) (a : Answer) (e : a ≡ l.answer) (o₀ o : List ℕ) (r : ℕ) where
  pub through : a.reason ≡ Done → (t : List ℕ) → t ≡ l.table → sheet o r ≡ put (sheet o₀ 0) (launched_lines book q.n q.start t)
      → take (sure l q book name file r) (take r o) ≡ take (length o₀) (told l q book name file)
  unfolding told sure
  through z t f g = rw (← e, z, ← f) (said-whole o₀ o r _ g)

  pub refused : (a.reason ≡ Done → ⊥) → (l.answer.reason ≡ Done) ⊎ (refuses l.answer.reason ≡ true) → (p : ℕ) → p ≡ l.place
      → take (length (refusal_head a.reason p q.n book name file)) (take r o) ≡ take (length o₀) (refusal_head a.reason p q.n book name file)
      → take (sure l q book name file r) (take r o) ≡ take (length o₀) (told l q book name file)
  unfolding told sure
  refused z only p f g =
      rw (← e, stops a.reason z (subst (λ (b : Answer). (b.reason ≡ Done) ⊎ (refuses b.reason ≡ true)) (sym e) only), ← f) g
