-- What a call does that prints on a run: its contract, and the laws by which a proof goes from call to call. Assumes nothing.
use Rattle.std.specs.Prelude.{◌≡◌, List, [], ◌++◌, ℕ}
use Rattle.std.proofs.Common.{refl, ap, sym, ◌∙◌}
use Rattle.print.specs.Sheets.{Sheet, sheet, put}
use Rattle.print.specs.Putting.{put-append}
use Rattle.print.specs.declared.Printer.{Printer}

-- what stands in the run of a printer, and its place
abbrev pub sheet_of : Printer → Sheet
sheet_of p = sheet p.bytes.now p.at

-- these bytes are put, and the run is the one that was lent
pub record Puts (old new : Printer) (s : List ℕ) : Type 0 where
  pub sheet : sheet_of new ≡ put (sheet_of old) s
  pub same_run : new.bytes.ghost_name ≡ old.bytes.ghost_name

-- a call behind another
pub puts_next : {p q r : Printer} {a b : List ℕ} → Puts p q a → Puts q r b → Puts p r (a ++ b)
puts_next {p = p} {a = a} {b = b} e f = record {
  sheet = f.sheet ∙ ap (λ (s : Sheet). put s b) e.sheet ∙ put-append (sheet_of p) a b;
  same_run = f.same_run ∙ e.same_run;
}

-- the same bytes in other words
pub puts_as : {p q : Printer} {a b : List ℕ} → Puts p q a → a ≡ b → Puts p q b
puts_as {p = p} e f = record {
  sheet = e.sheet ∙ ap (put (sheet_of p)) f;
  same_run = e.same_run;
}

-- no call
pub puts_none : {p : Printer} → Puts p p []
unfolding put
puts_none = record { sheet = refl; same_run = refl }

-- in a loop: of all bytes, the rest is left to put
pub record Leaves (old now : Printer) (all rest : List ℕ) : Type 0 where
  pub sheet : put (sheet_of old) all ≡ put (sheet_of now) rest
  pub same_run : now.bytes.ghost_name ≡ old.bytes.ghost_name

-- a turn puts some of them
pub leaves_less : {p q r : Printer} {a b c d : List ℕ} → Leaves p q a b → b ≡ c ++ d → Puts q r c → Leaves p r a d
leaves_less {q = q} {c = c} {d = d} l e h = record {
  sheet = l.sheet ∙ ap (put (sheet_of q)) e ∙ sym (put-append (sheet_of q) c d) ∙ ap (λ (s : Sheet). put s d) (sym h.sheet);
  same_run = h.same_run ∙ l.same_run;
}

-- at its end none is left
pub leaves_none : {p q : Printer} {a b : List ℕ} → Leaves p q a b → b ≡ [] → Puts p q a
unfolding put
leaves_none {q = q} l e = record {
  sheet = sym (l.sheet ∙ ap (put (sheet_of q)) e);
  same_run = l.same_run;
}
