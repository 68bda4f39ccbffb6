-- What stands at a place of a text: a sign, an atom, the front of a group, a node with what is behind it, an entry of the list of groups. Assumes nothing.
use Rattle.std.specs.Prelude.{Result, Ok, Err, Bool, cond, List, [], ◌∷◌, ℕ, ◌+◌, ◌-◌, eqb, ltb, length, get_or, take, drop}
use Rattle.tokens.specs.Bytes.{quote}
use Rattle.tokens.specs.Reserved.{bytes}
use Rattle.tokens.specs.Tokens.{behind, token_at}
use Rattle.tokens.specs.declared.Class.TheVariants.{White}
use Rattle.tokens.specs.declared.Atom.{Atom}
use Rattle.tokens.specs.declared.Token.{Token}
use Rattle.grammar.specs.File.{ascii, comma, open_list, close_list, open_tuple, close_tuple}
use Rattle.walk.specs.declared.Node.{Node}
use Rattle.walk.specs.declared.Entry.{Entry}

-- the bytes of a text from s up to e
abbrev pub part : List ℕ → ℕ → ℕ → List ℕ
part t s e = take (e - s) (drop s t)

-- the place behind the white space at a place
abbrev pub dark : List ℕ → ℕ → ℕ
dark t at = behind White t at

-- the sign c, behind white space
unfoldable pub sign_from : List ℕ → ℕ → ℕ → Result ℕ ℕ
sign_from t i c = cond (ltb i (length t)) (cond (eqb (get_or t i 0) c) (Ok (i + 1)) (Err i)) (Err i)

unfoldable pub sign_at : List ℕ → ℕ → ℕ → Result ℕ ℕ
sign_at t at c = sign_from t (dark t at) c

-- a sign behind what was read before
abbrev pub then_sign : List ℕ → Result ℕ ℕ → ℕ → Result ℕ ℕ
then_sign t (Ok n) c = sign_at t n c
then_sign t (Err p) c = Err p

-- an atom: a number is none
abbrev pub atom_of : ℕ → Result Token ℕ → Result Atom ℕ
atom_of i (Ok (Token.Atom a)) = Ok a
atom_of i (Ok (Token.Number n)) = Err i
atom_of i (Err p) = Err p

unfoldable pub atom_at : List ℕ → ℕ → Result Atom ℕ
atom_at t at = atom_of (dark t at) (token_at t (dark t at))

-- the letters of a word
unfoldable pub letters_at : List ℕ → ℕ → List ℕ → Result ℕ ℕ
letters_at t at [] = Ok at
letters_at t at (c ∷ cs) = cond (ltb at (length t)) (cond (eqb (get_or t at 0) c) (letters_at t (at + 1) cs) (Err at)) (Err at)

-- `normal`, plain or quoted
unfoldable pub normal_from : List ℕ → ℕ → Result ℕ ℕ
normal_from t i =
    cond (ltb i (length t)) (cond (eqb (get_or t i 0) quote) (letters_at t (i + 1) (bytes "normal'")) (letters_at t i (bytes "normal"))) (Err i)

unfoldable pub normal_at : List ℕ → ℕ → Result ℕ ℕ
normal_at t at = normal_from t (dark t at)

abbrev pub then_normal : List ℕ → Result ℕ ℕ → Result ℕ ℕ
then_normal t (Ok n) = normal_at t n
then_normal t (Err p) = Err p

-- the front of a group: its name, `normal`, the bracket of its nodes, behind which the place is
abbrev pub named_to : Atom → Result ℕ ℕ → Result Atom ℕ
named_to a (Ok m) = Ok (record a { past = m })
named_to a (Err p) = Err p

abbrev pub headed : List ℕ → Result Atom ℕ → Result Atom ℕ
headed t (Ok a) = named_to a (then_sign t (then_sign t (then_normal t (sign_at t a.past (ascii comma))) (ascii comma)) (ascii open_list))
headed t (Err p) = Err p

unfoldable pub head_at : List ℕ → ℕ → Result Atom ℕ
head_at t at = headed t (atom_at t at)

-- a node: behind it another one, or the end of the nodes and of the group
abbrev pub last_to : Atom → Result ℕ ℕ → Result Node ℕ
last_to a (Ok m) = Ok (Node.Last (record a { past = m }))
last_to a (Err p) = Err p

unfoldable pub node_from : List ℕ → Atom → ℕ → Result Node ℕ
node_from t a i =
    cond (ltb i (length t))
    (cond (eqb (get_or t i 0) (ascii comma)) (Ok (Node.More (record a { past = i + 1 }))) (last_to a (then_sign t (sign_at t i (ascii close_list)) (ascii close_tuple))))
    (Err i)

abbrev pub noded : List ℕ → Result Atom ℕ → Result Node ℕ
noded t (Ok a) = node_from t a (dark t a.past)
noded t (Err p) = Err p

unfoldable pub node_at : List ℕ → ℕ → Result Node ℕ
node_at t at = noded t (atom_at t at)

-- an entry of the list of groups
abbrev pub opened_to : Result ℕ ℕ → Result Entry ℕ
opened_to (Ok n) = Ok (Entry.Group n)
opened_to (Err p) = Err p

unfoldable pub bracket_at : List ℕ → ℕ → Bool → Result ℕ ℕ
bracket_at t i begun = cond begun (then_sign t (sign_at t i (ascii comma)) (ascii open_tuple)) (sign_at t i (ascii open_tuple))

unfoldable pub entry_from : List ℕ → ℕ → Bool → Result Entry ℕ
entry_from t i begun = cond (ltb i (length t)) (cond (eqb (get_or t i 0) (ascii close_list)) (Ok (Entry.Closed (i + 1))) (opened_to (bracket_at t i begun))) (Err i)

unfoldable pub entry_at : List ℕ → ℕ → Bool → Result Entry ℕ
entry_at t at begun = entry_from t (dark t at) begun
