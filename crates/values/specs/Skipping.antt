-- What skipping a value answers, against the outcome of the text: `PassedOver` is what others rely on. Assumes nothing.
use Rattle.std.specs.Prelude.{Result, Ok, Err, ◌≡◌, Bool, true, false, cond, List, [], ◌∷◌, ℕ, suc, ◌+◌, ◌-◌, ◌≤◌, ◌<◌, eqb, ltb, length, get_or}
use Rattle.tokens.specs.Bytes.{white}
use Rattle.tokens.specs.declared.Token.{Token}
use Rattle.grammar.specs.File.{depth_limit, Here, open_list, close_tuple, ascii, Bracket, list, tuple, closing, Phase, sign, next_pair, value, first, after, Outcome, refused}
use Rattle.grammar.specs.Steps.{from}

-- the place that is reached
abbrev pub reached : Result ℕ ℕ → ℕ
reached (Ok e) = e
reached (Err p) = p

-- what is reached stands further on, within the text
abbrev pub IsBeyond : ℕ → List ℕ → Result ℕ ℕ → Type 0
IsBeyond at t (Ok e) = (at < e) × (e ≤ length t)
IsBeyond at t (Err p) = (at ≤ p) × (p ≤ length t)

-- ---- answers as numbers

-- from this number on a number stands for a stop: no text is so long
abbrev pub stops_at : ℕ
stops_at = 9223372036854775808

-- a number below it is the place behind what is skipped, and with a place on top of it, it stands for a stop there
unfoldable pub skip_of_number : ℕ → Result ℕ ℕ
skip_of_number r = cond (ltb r stops_at) (Ok r) (Err (r - stops_at))

-- an atom or a number is skipped
abbrev pub skip_of : Result Token ℕ → Result ℕ ℕ
skip_of (Ok (Token.Atom a)) = Ok a.past
skip_of (Ok (Token.Number n)) = Ok n
skip_of (Err p) = Err p

-- ---- the value of a pair

-- behind the value its pair is to end, or the text is refused
abbrev pub over : Here → List ℕ → Result ℕ ℕ → Outcome
over h t (Ok e) = from h [] (sign close_tuple next_pair) t e
over h t (Err p) = refused p

-- the value of a pair at a place: whatever is read so far, the text goes on behind the value
pub record PassedOver (t : List ℕ) (at : ℕ) (r : Result ℕ ℕ) : Type 0 where
  pub goes_on : (h : Here) → from h [] value t at ≡ over h t r
  pub ahead : at ≤ reached r

-- ---- values within a value

-- the text goes on behind a value, or is refused
abbrev pub resumed : Here → List Bracket → List ℕ → Result ℕ ℕ → Outcome
resumed h due t (Ok e) = from h due after t e
resumed h due t (Err p) = refused p

-- what stands in a bracket that c closes, from behind it, with room for so many brackets round what is in it: whatever is due behind the bracket, the text goes
-- on there
pub record Emptied (c : ℕ) (t : List ℕ) (at depth : ℕ) (r : Result ℕ ℕ) : Type 0 where
  pub goes_on : (k : Bracket) → c ≡ closing k → (h : Here) (due : List Bracket) → suc (length due) + depth ≡ depth_limit → from h (k ∷ due) first t at ≡ resumed h due t r
  pub ahead : IsBeyond at t r

-- ---- items between brackets

-- behind the opening bracket, or behind an item
abbrev pub phase_of : Bool → Phase
phase_of true = first
phase_of false = after

-- the closing bracket stands there, or an item begins there, or the text is refused
abbrev pub upcoming : Here → Bracket → List Bracket → List ℕ → Result ℕ ℕ → Outcome
upcoming h k due t (Ok i) = cond (eqb (get_or t i 0) (closing k)) (from h due after t (i + 1)) (from h (k ∷ due) value t i)
upcoming h k due t (Err p) = refused p

-- a byte that is no white space stands there
abbrev pub AtByte : ℕ → List ℕ → Result ℕ ℕ → Type 0
AtByte at t (Ok i) = (at ≤ i) × (i < length t) × (white (get_or t i 0) ≡ false)
AtByte at t (Err p) = (at ≤ p) × (p ≤ length t)

-- between the brackets that c closes, behind the opening one or behind an item: the place of the next item or of the closing bracket
pub record NextItem (c : ℕ) (t : List ℕ) (at : ℕ) (opened : Bool) (r : Result ℕ ℕ) : Type 0 where
  pub goes_on : (k : Bracket) → c ≡ closing k → (h : Here) (due : List Bracket) → from h (k ∷ due) (phase_of opened) t at ≡ upcoming h k due t r
  pub ahead : AtByte at t r

-- the kind of bracket that an opening sign opens
abbrev pub bracket_of : ℕ → Bracket
bracket_of b = cond (eqb b (ascii open_list)) list tuple

-- behind an opening bracket at e: within the limit what stands in it comes next, beyond the limit the bracket is refused
abbrev pub entered : Here → Bracket → List Bracket → List ℕ → ℕ → Outcome
entered h k due t e = cond (ltb (length due) depth_limit) (from h (k ∷ due) first t e) (refused (e - 1))

-- behind a bracket, which closes what is due or opens, or the text is refused
abbrev pub turned : Here → Bracket → List Bracket → List ℕ → Result ℕ ℕ → Outcome
turned h k due t (Ok e) = cond (eqb (get_or t (e - 1) 0) (closing k)) (from h due after t e) (entered h (bracket_of (get_or t (e - 1) 0)) (k ∷ due) t e)
turned h k due t (Err p) = refused p

-- between the brackets that c closes, behind the opening one or behind an item: the place behind the first bracket
pub record ToBracket (c : ℕ) (t : List ℕ) (at : ℕ) (opened : Bool) (r : Result ℕ ℕ) : Type 0 where
  pub goes_on : (k : Bracket) → c ≡ closing k → (h : Here) (due : List Bracket) → from h (k ∷ due) (phase_of opened) t at ≡ turned h k due t r
  pub ahead : IsBeyond at t r
