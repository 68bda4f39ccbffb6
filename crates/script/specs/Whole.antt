-- What a run prints and leaves is what the commands print and leave, called one by one; runs go on where another stopped. Assumes nothing.
use Rattle.std.specs.Prelude.{◌≡◌, refl, Bool, true, false, cond, List, [], ◌∷◌, ◌++◌, ℕ, ◌≤◌, ◌<◌, ◌+◌, ◌-◌, leb, length, take, drop, Option, Some, None}
use Rattle.std.proofs.Common.{sym, ap, ◌∙◌, ⊎_elim, append_assoc, append-nil, arith, leb-true, leb-false, le-leb, length-take-le}
use Rattle.std.proofs.lemmas.Bool.{lt-leb}
use borrow.Author.Rules.{part_to_end}
use Rattle.nodes.specs.Bools.{by_lt}
use Rattle.semantics.specs.Call.{call, opening}
use Rattle.line.specs.declared.Request.{Request}
use Rattle.line.specs.declared.Request.TheVariants.{Open, Command}
use Rattle.line.specs.Requests.{request_of}
use Rattle.print.specs.Sheets.{Sheet, sheet, put}
use Rattle.print.specs.Putting.{put_front, put-within}
use Rattle.print.specs.Decimals.{answer-few}
use Rattle.turns.specs.Turns.{list_room, request_turn}
use Rattle.script.specs.Scripts.{script_limit, line_room, Line, ended, cut, overlong, lines_from, size_of, line_turn, printed, left, Stop, stop, runs}
use Rattle.step.specs.Lists.{call_fits, opening-bare}
use Rattle.script.specs.FirstLines.{first_line, line_at, lines_next, size_at, lines-over, line_first, asks, turn-first}

-- ---- no line prints more than there is room for

request-few : (t : List ℕ) (r : Option Request) → length (request_turn t r).text ≤ line_room
unfolding request_turn
request-few t (Some (Open N hidden)) =
    omega (arith, answer-few (opening N hidden t).list (opening N hidden t).answer, ap length (opening-bare N hidden t))
request-few t (Some (Command i c)) =
    let r = call list_room i c t in
    omega (arith, answer-few r.list r.answer, call_fits list_room i c t)
request-few t None = omega arith

pub line-few : (t : List ℕ) (l : Line) → length (line_turn t l).text ≤ line_room
unfolding line_turn
line-few t (ended l) = request-few t (request_of l)
line-few t (cut l) = omega arith
line-few t (overlong l) = omega arith

-- ---- a turn of a run

-- there is no room for a line
runs-full : (l : Line) (ls : List Line) (i : ℕ) (t : List ℕ) (p : Sheet) → length p.bytes < p.at + line_room → runs (l ∷ ls) i t p ≡ stop i t p
unfolding runs
runs-full l ls i t p h = rw (lt-leb (p.at + line_room) (length p.bytes) h)

-- there is
runs-line : (l : Line) (ls : List Line) (i : ℕ) (t : List ℕ) (p : Sheet) → p.at + line_room ≤ length p.bytes
    → runs (l ∷ ls) i t p ≡ runs ls (i + size_of l) (line_turn t l).table (put p (line_turn t l).text)
unfolding runs
runs-line l ls i t p h = rw (le-leb (p.at + line_room) (length p.bytes) h)

pub run-full : (script : List ℕ) (i : ℕ) (t out : List ℕ) (len : ℕ) → i < length script → length out < len + line_room
    → runs (lines_from script i) i t (sheet out len) ≡ stop i t (sheet out len)
unfolding sheet
run-full script i t out len h l = rw (lines_next script i h) (runs-full _ _ i t (sheet out len) l)

pub run-line : (script : List ℕ) (i : ℕ) (t out : List ℕ) (len : ℕ) → i < length script → len + line_room ≤ length out
    → runs (lines_from script i) i t (sheet out len)
    ≡ runs (lines_from script (i + size_of (line_at script i))) (i + size_of (line_at script i)) (line_turn t (line_at script i)).table (put (sheet out len) (line_turn t (line_at script i)).text)
unfolding sheet
run-line script i t out len h l = rw (lines_next script i h) (runs-line _ _ i t (sheet out len) l)

-- the first line of what is left has been called and printed
pub run-called : (script : List ℕ) (i : ℕ) (t out : List ℕ) (len size : ℕ) (q : Option Request) (u made : List ℕ) (len₂ : ℕ) → length script ≤ script_limit → i < length script → len + line_room ≤ length out
    → size ≡ size_of (first_line (take (length script - i) (drop i script))) → q ≡ asks (first_line (take (length script - i) (drop i script)))
    → sheet made len₂ ≡ put (sheet out len) (request_turn t q).text → u ≡ (request_turn t q).table
    → runs (lines_from script i) i t (sheet out len) ≡ runs (lines_from script (i + size)) (i + size) u (sheet made len₂)
run-called script i t out len size q u made len₂ f h m e g p w =
    let a : line_at script i ≡ first_line (drop i script) = line_first script i f in
    let n : size ≡ size_of (line_at script i) = e ∙ rw (part_to_end, a) in
    let k : line_turn t (line_at script i) ≡ request_turn t q = ap (line_turn t) a ∙ turn-first t (drop i script) ∙ sym (ap (request_turn t) (g ∙ rw part_to_end)) in
    run-line script i t out len h m ∙ rw (← n, k, ← p, ← w)

-- and has so many bytes
pub first_size : (script : List ℕ) (i size : ℕ) → length script ≤ script_limit → i < length script → size ≡ size_of (first_line (take (length script - i) (drop i script)))
    → (0 < size) × (i + size ≤ length script)
first_size script i size f h e =
    let n : size ≡ size_of (line_at script i) = e ∙ rw (part_to_end, line_first script i f) in
    rw n (size_at script i h)

pub run-over : (script : List ℕ) (i : ℕ) (t : List ℕ) (p : Sheet) → length script ≤ i → runs (lines_from script i) i t p ≡ stop i t p
unfolding runs
run-over script i t p h = rw (lines-over script i h)

-- ---- what holds where a run stops

-- what it printed, and what is printed from there on, is what is printed; so with the table; it stops within the sheet and the script, and goes
-- on by a line where there is one and room for one
pub record Told (script : List ℕ) (i : ℕ) (t : List ℕ) (p : Sheet) (e : Stop) : Type 0 where
  pub lines : take e.sheet.at e.sheet.bytes ++ printed e.table (lines_from script e.next) ≡ take p.at p.bytes ++ printed t (lines_from script i)
  pub table : left e.table (lines_from script e.next) ≡ left t (lines_from script i)
  pub within : e.sheet.at ≤ length e.sheet.bytes
  pub inside : i ≤ length script → e.next ≤ length script
  pub onward : i ≤ e.next
  pub moves : i < length script → p.at + line_room ≤ length p.bytes → i < e.next

halts : (script : List ℕ) (i : ℕ) (t : List ℕ) (p : Sheet) → p.at ≤ length p.bytes → (i < length script → p.at + line_room ≤ length p.bytes → ⊥) → Told script i t p (stop i t p)
unfolding stop
halts script i t p h n =
    record {
      lines = refl;
      table = refl;
      within = h;
      inside = λ l. l;
      onward = omega arith;
      moves = λ a b. absurd (n a b);
    }

-- it goes on by a line
goes_on : (script : List ℕ) (i : ℕ) (t : List ℕ) (p : Sheet) (e : Stop) (l : Line) → l ≡ line_at script i → i < length script → p.at + line_room ≤ length p.bytes
    → Told script (i + size_of l) (line_turn t l).table (put p (line_turn t l).text) e → Told script i t p e
unfolding printed left
goes_on script i t p e l q h m g =
    let n : lines_from script i ≡ l ∷ lines_from script (i + size_of l) = lines_next script i h ∙ rw q in
    let f = put_front p (line_turn t l).text (omega (arith, line-few t l)) in
    let z : (0 < size_of l) × (i + size_of l ≤ length script) = rw q (size_at script i h) in
    record {
      lines = g.lines ∙ rw (n, f.0, append_assoc);
      table = g.table ∙ rw n;
      within = g.within;
      inside = λ _. g.inside z.1;
      onward = omega (arith, g.onward);
      moves = λ _ _. omega (arith, g.onward);
    }

-- lines that are those from i on
behind : (script : List ℕ) (i : ℕ) (l : Line) (ls : List Line) → l ∷ ls ≡ lines_from script i → (i < length script) × (l ≡ line_at script i) × (ls ≡ lines_from script (i + size_of l))
behind script i l ls q =
    ⊎_elim
    (λ (h : i < length script).
    let e : l ∷ ls ≡ line_at script i ∷ lines_from script (i + size_of (line_at script i)) = q ∙ lines_next script i h in
    let a : l ≡ line_at script i = cc in
    let b : ls ≡ lines_from script (i + size_of (line_at script i)) = cc in
    (h, a, b ∙ rw a))
    (λ (h : length script ≤ i). absurd (let e : l ∷ ls ≡ [] = q ∙ lines-over script i h in let z : ◌≡◌ {A = ℕ} 0 1 = cc in omega arith))
    (by_lt i (length script))

none_left : (script : List ℕ) (i : ℕ) → [] ≡ lines_from script i → i < length script → ⊥
none_left script i q h = let e : [] ≡ line_at script i ∷ lines_from script (i + size_of (line_at script i)) = q ∙ lines_next script i h in let z : ◌≡◌ {A = ℕ} 0 1 = cc in omega arith

told-lines : (ls : List Line) (script : List ℕ) (i : ℕ) (t : List ℕ) (p : Sheet) → ls ≡ lines_from script i → p.at ≤ length p.bytes → Told script i t p (runs ls i t p)
unfolding runs
told-lines [] script i t p q h = halts script i t p h (λ a b. none_left script i q a)
told-lines (l ∷ ls) script i t p q h =
    let b = behind script i l ls q in
    go (leb (p.at + line_room) (length p.bytes)) refl b.0 b.1 (told-lines ls script (i + size_of l) (line_turn t l).table (put p (line_turn t l).text) b.2 (put-within p (line_turn t l).text h))
  where
    go : (b : Bool) → leb (p.at + line_room) (length p.bytes) ≡ b → i < length script → l ≡ line_at script i
        → Told script (i + size_of l) (line_turn t l).table (put p (line_turn t l).text) (runs ls (i + size_of l) (line_turn t l).table (put p (line_turn t l).text))
        → Told script i t p (cond b (runs ls (i + size_of l) (line_turn t l).table (put p (line_turn t l).text)) (stop i t p))
    go true e a f g = goes_on script i t p _ l f a (leb-true _ _ e) g
    go false e a f g = halts script i t p h (λ _ m. let n : length p.bytes < p.at + line_room = leb-false _ _ e in omega arith)

-- ---- the promise of `run`, read as the script's commands called one by one

-- a run from the place i on, into a run of bytes
pub run-told : (script : List ℕ) (i : ℕ) (t out : List ℕ) (next len : ℕ) (u made : List ℕ)
    → stop next u (sheet made len) ≡ runs (lines_from script i) i t (sheet out 0) → Told script i t (sheet out 0) (stop next u (sheet made len))
unfolding sheet
run-told script i t out next len u made e = rw e (told-lines (lines_from script i) script i t (sheet out 0) refl (omega arith))

-- what it printed lies within the run of bytes
pub run-within : (script : List ℕ) (i : ℕ) (t out : List ℕ) (next len : ℕ) (u made : List ℕ)
    → stop next u (sheet made len) ≡ runs (lines_from script i) i t (sheet out 0) → len ≤ length made
unfolding sheet stop
run-within script i t out next len u made e = (run-told script i t out next len u made e).within

-- a run of the first n bytes of a text goes on by a line, where one is left and there is room for any
pub run-moves : (text : List ℕ) (n i : ℕ) (t out : List ℕ) (next len : ℕ) (u made : List ℕ)
    → stop next u (sheet made len) ≡ runs (lines_from (take n text) i) i t (sheet out 0) → n ≤ length text → i < n → line_room ≤ length out → i < next
unfolding sheet stop
run-moves text n i t out next len u made e h l m =
    (run-told (take n text) i t out next len u made e).moves (rw (length-take-le n text h) l) m

-- a run that comes to the end has printed all, and left the table that the commands leave
pub finished : (script : List ℕ) (i : ℕ) (t out : List ℕ) (next len : ℕ) (u made : List ℕ)
    → stop next u (sheet made len) ≡ runs (lines_from script i) i t (sheet out 0) → length script ≤ next
    → (take len made ≡ printed t (lines_from script i)) × (u ≡ left t (lines_from script i))
unfolding sheet stop printed left
finished script i t out next len u made e h =
    let w = run-told script i t out next len u made e in
    (sym (append-nil (take len made)) ∙ rw (lines-over script next h) at w.lines, rw (lines-over script next h) at w.table)

-- two runs, the second from where the first stopped: their prints one behind the other, with what is still to come, are what was to come
pub resumed : (script : List ℕ) (i : ℕ) (t out : List ℕ) (next len : ℕ) (u made : List ℕ) (out₂ : List ℕ) (next₂ len₂ : ℕ) (u₂ made₂ : List ℕ)
    → stop next u (sheet made len) ≡ runs (lines_from script i) i t (sheet out 0)
    → stop next₂ u₂ (sheet made₂ len₂) ≡ runs (lines_from script next) next u (sheet out₂ 0)
    → ((take len made ++ take len₂ made₂) ++ printed u₂ (lines_from script next₂) ≡ printed t (lines_from script i))
    × (left u₂ (lines_from script next₂) ≡ left t (lines_from script i))
unfolding sheet stop
resumed script i t out next len u made out₂ next₂ len₂ u₂ made₂ e f =
    let v = run-told script i t out next len u made e in
    let w = run-told script next u out₂ next₂ len₂ u₂ made₂ f in
    (append_assoc (take len made) (take len₂ made₂) (printed u₂ (lines_from script next₂)) ∙ ap (λ (x : List ℕ). take len made ++ x) w.lines ∙ v.lines, w.table ∙ v.table)

-- any two outcomes that the promise allows are one
pub run_unique : (z : Stop) (next len : ℕ) (u made : List ℕ) (next₂ len₂ : ℕ) (u₂ made₂ : List ℕ) → stop next u (sheet made len) ≡ z → stop next₂ u₂ (sheet made₂ len₂) ≡ z
    → (next ≡ next₂) × (u ≡ u₂) × (made ≡ made₂) × (len ≡ len₂)
unfolding stop sheet
run_unique z next len u made next₂ len₂ u₂ made₂ e f =
    let g : stop next u (sheet made len) ≡ stop next₂ u₂ (sheet made₂ len₂) = e ∙ sym f in
    (ap (λ (x : Stop). x.next) g, ap (λ (x : Stop). x.table) g, ap (λ (x : Stop). x.sheet.bytes) g, ap (λ (x : Stop). x.sheet.at) g)

-- runs one after another, each from where the one before stopped and on the table that it left, to the end: all that they print, and the table
pub data Runs (script : List ℕ) : ℕ → List ℕ → List ℕ → List ℕ → Type 0 where
  end : {i : ℕ} {t : List ℕ} → length script ≤ i → Runs script i t [] t
  on : {i : ℕ} {t : List ℕ} (out : List ℕ) {next : ℕ} (len : ℕ) {u : List ℕ} (made : List ℕ) {bytes v : List ℕ}
      → stop next u (sheet made len) ≡ runs (lines_from script i) i t (sheet out 0) → Runs script next u bytes v → Runs script i t (take len made ++ bytes) v

-- they print what the script's commands print, called one by one, and leave the table that these leave
pub whole : (script : List ℕ) (i : ℕ) (t bytes v : List ℕ) → Runs script i t bytes v → (bytes ≡ printed t (lines_from script i)) × (v ≡ left t (lines_from script i))
unfolding printed left sheet stop
whole script i t bytes v (end h) = rw (lines-over script i h) (refl, refl)
whole script i t bytes v (on out {next = next} len {u = u} made {bytes = rest} e r) =
    let w = run-told script i t out next len u made e in
    let g = whole script next u rest v r in
    (ap (λ (x : List ℕ). take len made ++ x) g.0 ∙ w.lines, g.1 ∙ w.table)
