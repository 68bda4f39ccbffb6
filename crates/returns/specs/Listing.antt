-- What an outcome with a list answers and leaves in the run for it, and the list of an s_group's names. Assumes nothing.
use Rattle.std.specs.Prelude.{◌≡◌, refl, Bool, true, false, cond, List, ◌++◌, ℕ, ◌+◌, ◌*◌, ◌≤◌, ◌<◌, leb, length, drop, take, Result, Ok, Err}
use Rattle.std.proofs.Common.{sym, ap, ap₂, ◌∙◌, arith}
use Rattle.std.proofs.lemmas.List.{length-map}
use borrow.Author.Tests.{leb-true, leb-false, le-leb, lt-ltb, le-ltb}
use Rattle.entries.specs.Entries.{Entry, words}
use Rattle.entries.specs.Raw.{listed_name, list_answer, listed}
use Rattle.entries.specs.NamespaceSound.{Sound}
use Rattle.entries.specs.Storage.{length-words}
use Rattle.entries.specs.NamespaceMeaning.{list_answer-words, listed-words}
use Rattle.entries.specs.declared.Refusal.{Refusal}
use Rattle.entries.specs.declared.Refusal.TheVariants.{Unfit}
use Rattle.semantics.specs.Sizes.{names_per_group, bodies_at}
use Rattle.semantics.specs.State.{State}
use Rattle.answers.specs.Answers.{answer_of}
use Rattle.semantics.specs.Steps.{Outcome, name_words}
use Rattle.semantics.specs.Steps as Steps
use Rattle.semantics.specs.Call.{listed_over}
use Rattle.semantics.specs.Places.{group_at}
use Rattle.semantics.specs.WordsOfState.{Laid}
use Rattle.answers.specs.declared.Answer.{Answer}
use Rattle.answers.specs.declared.Value.TheVariants.{Error, Listed}
use Rattle.answers.specs.declared.Reason.TheVariants.{Done, RunShort}
use Rattle.returns.specs.Judged.{names_in}
use Rattle.names.specs.NamesAt.{Standing, counted, names_at}
use Rattle.names.specs.NamesHere.{count-is, read-here}

-- the answer a is that of the outcome, and its list stands at the start of the run, which was out
pub record Told (w : Outcome) (out : List ℕ) (a : Answer) (o : List ℕ) : Type 0 where
  pub answer : a ≡ w.answer
  pub listed : o ≡ listed_over w.list out

-- ---- a list, by the room of the run

module _ (ws out : List ℕ) where
  pub listed_fits : {k : ℕ} {o : List ℕ} → length ws ≤ length out → k ≡ length ws → o ≡ listed_over ws out
      → Told (Steps.listed (length out) ws) out (answer_of (Listed k) Done) o
  listed_fits {k} h e q = rw (le-ltb (length out) (length ws)) (record { answer = ap (λ (n : ℕ). answer_of (Listed n) Done) e; listed = q })

  pub listed-short : {o : List ℕ} → length out < length ws → o ≡ out → Told (Steps.listed (length out) ws) out (answer_of Error RunShort) o
  listed-short h q = rw (lt-ltb (length out) (length ws)) (record { answer = refl; listed = q })

-- ---- the names of a sound namespace, listed under s

module _ (size s : ℕ) (es : List Entry) (out : List ℕ) (sound : Sound names_per_group size es) where
  abbrev rule : Outcome
  rule = Steps.listed (length out) (name_words s es)

  many : length (name_words s es) ≡ length es
  many = length-map es (listed_name s)

  pub names-listed : {k : ℕ} → list_answer (length es) (words names_per_group es) out ≡ Ok k
      → Told rule out (answer_of (Listed k) Done) (listed (length es) s (words names_per_group es) out)
  names-listed {k} e = go (leb (length es) (length out)) refl (sym (list_answer-words names_per_group size es out sound) ∙ e)
    where
      go : (b : Bool) → leb (length es) (length out) ≡ b → cond b (Ok (length es)) (Err Unfit) ≡ Ok k
          → Told rule out (answer_of (Listed k) Done) (listed (length es) s (words names_per_group es) out)
      go true h d =
          let same : ◌≡◌ {A = Result ℕ Refusal} (Ok (length es)) (Ok k) = d in
          let n : length es ≡ k = cc in
          let room : length es ≤ length out = leb-true (length es) (length out) h in
          listed_fits (name_words s es) out (omega (arith, many, room)) (sym n ∙ sym many)
          (listed-words names_per_group size s es out sound room ∙ ap (λ (m : ℕ). name_words s es ++ drop m out) (sym many))
      go false h d = let z : ◌≡◌ {A = Result ℕ Refusal} (Err Unfit) (Ok k) = d in absurd (grind arith)

  not_listed : leb (length es) (length out) ≡ false → listed (length es) s (words names_per_group es) out ≡ out
  unfolding listed
  not_listed h = rw (length-words names_per_group es, le-leb (length es) names_per_group sound.room, h)

  pub names-short : {r : Refusal} → list_answer (length es) (words names_per_group es) out ≡ Err r
      → Told rule out (answer_of Error RunShort) (listed (length es) s (words names_per_group es) out)
  names-short {r} e = go (leb (length es) (length out)) refl (sym (list_answer-words names_per_group size es out sound) ∙ e)
    where
      go : (b : Bool) → leb (length es) (length out) ≡ b → cond b (Ok (length es)) (Err Unfit) ≡ Err r
          → Told rule out (answer_of Error RunShort) (listed (length es) s (words names_per_group es) out)
      go true h d = let z : ◌≡◌ {A = Result ℕ Refusal} (Ok (length es)) (Err r) = d in absurd (grind arith)
      go false h d = listed-short (name_words s es) out (omega (arith, many, leb-false (length es) (length out) h)) (not_listed h)

-- ---- the names of the s_group at a place, whose words were lent

module _ {st : State} {t : List ℕ} (l : Laid names_per_group st t) (k : ℕ) (w : Standing k st)
    (ns : List ℕ) (lent : ns ≡ take names_per_group (drop (bodies_at + names_per_group * k) t))
    (s count : ℕ) (ec : count ≡ counted k t) (out : List ℕ) (x : Result ℕ Refusal) (o : List ℕ)
    (answers : x ≡ list_answer count ns out) (leaves : o ≡ listed count s ns out) where
  on-words : {A : Type 0} (f : ℕ → List ℕ → A) → f count ns ≡ f (length (names_at k st)) (words names_per_group (names_at k st))
  on-words f = ap₂ f (ec ∙ count-is l k w) (read-here l k w ns lent)

  left : o ≡ listed (length (names_at k st)) s (words names_per_group (names_at k st)) out
  left = leaves ∙ on-words (λ n ws. listed n s ws out)

  same : x ≡ list_answer (length (names_at k st)) (words names_per_group (names_at k st)) out
  same = answers ∙ on-words (λ n ws. list_answer n ws out)

  pub list-told : {n : ℕ} → x ≡ Ok n → Told (names_in (length out) s (group_at st.groups k)) out (answer_of (Listed n) Done) o
  list-told d = rw left (names-listed st.size s (names_at k st) out w.regular.names_sound (sym same ∙ d))

  pub list-short : {r : Refusal} → x ≡ Err r → Told (names_in (length out) s (group_at st.groups k)) out (answer_of Error RunShort) o
  list-short d = rw left (names-short st.size s (names_at k st) out w.regular.names_sound (sym same ∙ d))
