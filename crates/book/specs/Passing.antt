-- A book whose lines are passed one after another. Assumes nothing.
use Rattle.std.specs.Prelude.{◌≡◌, refl, Bool, true, false, ◌&&◌, cond, List, [], ◌∷◌, ◌++◌, ℕ, suc, ◌+◌, ◌-◌, ◌≤◌, ◌<◌, eqb, leb, length, get_or, take, drop, Option, Some, None}
use Rattle.std.proofs.Common.{sym, ap, ◌∙◌, ◌⊎◌, inl, inr, arith, eqb-true, leb-true, leb-false, length-append, length-drop, take-append-drop, take_all, take-add, take_at, length-take-le, get_or-take}
use Rattle.std.proofs.lemmas.Bool.{false≢true}
use Rattle.std.proofs.Math.Seq.{get_or-append_seam}
use Rattle.text.specs.Text.{newline, find_in, found_in}
use Rattle.text.specs.FieldLaws.{found_some, found_none}
use Rattle.book.specs.Book.{longest_atom, group_atoms, lines, ended}
use Rattle.book.specs.LineLaws.{lines-first, ended-append, lines-append}

-- i lines are passed, up to a place behind a newline
pub record Passed (t : List ℕ) (i at : ℕ) : Type 0 where
  pub within : at ≤ length t
  pub whole : ended (take at t) ≡ true
  pub number : length (lines (take at t)) ≡ i

-- where the line at a place ends, of which so many bytes stand before a newline: where it is an atom
abbrev pub atom_to : ℕ → Option ℕ → Option ℕ
atom_to at (Some n) = cond (leb 1 n && leb n longest_atom) (Some (at + n)) None
atom_to at None = None

unfoldable pub atom_end : List ℕ → ℕ → Option ℕ
atom_end t at = atom_to at (found_in newline (drop at t))

-- of so many lines those behind the lines of n nodes, where there is a line for each node and not too many for groups
unfoldable pub groups_behind : ℕ → ℕ → Option ℕ
groups_behind i n = cond (leb n i && leb (i - n) group_atoms) (Some (i - n)) None

-- a line whose end is found is an atom, with a newline behind it
pub record Ends (t : List ℕ) (at e : ℕ) : Type 0 where
  pub at_newline : e ≡ at + find_in newline (drop at t)
  pub inside : e < length t
  pub is_atom : (leb 1 (e - at) && leb (e - at) longest_atom) ≡ true

pub end-found : (t : List ℕ) (at e : ℕ) → Some e ≡ atom_end t at → Ends t at e
unfolding atom_end
end-found t at e h = go (found_in newline (drop at t)) refl h
  where
    go : (r : Option ℕ) → r ≡ found_in newline (drop at t) → Some e ≡ atom_to at r → Ends t at e
    go (Some n) q h = atom (leb 1 n && leb n longest_atom) refl h
      where
        atom : (b : Bool) → (leb 1 n && leb n longest_atom) ≡ b → Some e ≡ cond b (Some (at + n)) None → Ends t at e
        atom true p g =
            let f = found_some newline n (drop at t) q in
            let k : e ≡ at + n = cc in
            let m : e - at ≡ n = omega arith in
            record { at_newline = omega (arith, f); inside = omega (arith, f, length-drop at t); is_atom = rw m p }
        atom false p g = absurd (cc)
    go None q h = absurd (cc)

-- so it lies ahead, no further than the longest atom, and within the text
pub end-ahead : (t : List ℕ) (at e : ℕ) → Some e ≡ atom_end t at → at < e
end-ahead t at e h = go (leb 1 (e - at)) refl (end-found t at e h).is_atom
  where
    go : (a : Bool) → leb 1 (e - at) ≡ a → (a && leb (e - at) longest_atom) ≡ true → at < e
    go true p k = omega (arith, leb-true 1 (e - at) p)
    go false p k = absurd (false≢true k)

pub end-near : (t : List ℕ) (at e : ℕ) → Some e ≡ atom_end t at → e ≤ at + longest_atom
end-near t at e h = go (leb 1 (e - at)) (end-found t at e h).is_atom
  where
    go : (a : Bool) → (a && leb (e - at) longest_atom) ≡ true → e ≤ at + longest_atom
    go true k = omega (arith, leb-true (e - at) longest_atom k)
    go false k = absurd (false≢true k)

pub end-inside : (t : List ℕ) (at e : ℕ) → Some e ≡ atom_end t at → e < length t
end-inside t at e h = (end-found t at e h).inside

-- no newline follows, or what stands before it is no atom
pub end-missed : (t : List ℕ) (at : ℕ) → at < length t → None ≡ atom_end t at
    → (length (drop at t) ≤ find_in newline (drop at t)) ⊎ ((at + find_in newline (drop at t) < length t) × ((leb 1 (find_in newline (drop at t)) && leb (find_in newline (drop at t)) longest_atom) ≡ false))
unfolding atom_end
end-missed t at l h = go (found_in newline (drop at t)) refl h
  where
    go : (r : Option ℕ) → r ≡ found_in newline (drop at t) → None ≡ atom_to at r
        → (length (drop at t) ≤ find_in newline (drop at t)) ⊎ ((at + find_in newline (drop at t) < length t) × ((leb 1 (find_in newline (drop at t)) && leb (find_in newline (drop at t)) longest_atom) ≡ false))
    go (Some n) q h = atom (leb 1 n && leb n longest_atom) refl h
      where
        atom : (b : Bool) → (leb 1 n && leb n longest_atom) ≡ b → None ≡ cond b (Some (at + n)) None
            → (length (drop at t) ≤ find_in newline (drop at t)) ⊎ ((at + find_in newline (drop at t) < length t) × ((leb 1 (find_in newline (drop at t)) && leb (find_in newline (drop at t)) longest_atom) ≡ false))
        atom true p g = absurd (cc)
        atom false p g = let f = found_some newline n (drop at t) q in inr (omega (arith, f, length-drop at t), rw (sym f.0) p)
    go None q h = inl (found_none newline (drop at t) q)

-- so many group atoms are none too many
pub groups-counted : (i n g : ℕ) → Some g ≡ groups_behind i n → (n ≤ i) × (g ≡ i - n) × (g ≤ group_atoms)
unfolding groups_behind
groups-counted i n g h = go (leb n i) refl (leb (i - n) group_atoms) refl h
  where
    go : (a : Bool) → leb n i ≡ a → (b : Bool) → leb (i - n) group_atoms ≡ b → Some g ≡ cond (a && b) (Some (i - n)) None → (n ≤ i) × (g ≡ i - n) × (g ≤ group_atoms)
    go true p true q k = let e : g ≡ i - n = cc in (leb-true n i p, e, omega (arith, leb-true (i - n) group_atoms q))
    go true p false q k = absurd (cc)
    go false p b q k = absurd (cc)

pub groups-few : (i n g : ℕ) → Some g ≡ groups_behind i n → g ≤ group_atoms
groups-few i n g h = (groups-counted i n g h).2

-- what is found of a line, and of the number of group atoms
pub ruleset line_found = (end-ahead, end-near, end-inside, groups-few)

-- there are too few lines, or too many
pub groups-uncounted : (i n : ℕ) → None ≡ groups_behind i n → (i < n) ⊎ (n + group_atoms < i)
unfolding groups_behind
groups-uncounted i n h = go (leb n i) refl (leb (i - n) group_atoms) refl h
  where
    go : (a : Bool) → leb n i ≡ a → (b : Bool) → leb (i - n) group_atoms ≡ b → None ≡ cond (a && b) (Some (i - n)) None → (i < n) ⊎ (n + group_atoms < i)
    go true p true q k = absurd (cc)
    go true p false q k = inr (omega (arith, leb-true n i p, leb-false (i - n) group_atoms q))
    go false p b q k = inl (leb-false n i p)

-- a newline stands where it is found
found : (t : List ℕ) → find_in newline t < length t → get_or t (find_in newline t) newline ≡ newline
unfolding find_in
found [] h = refl
found (x ∷ xs) h = go (eqb x newline) refl h (found xs)
  where
    go : (b : Bool) → eqb x newline ≡ b → cond b 0 (suc (find_in newline xs)) < suc (length xs) → (find_in newline xs < length xs → get_or xs (find_in newline xs) newline ≡ newline)
        → get_or (x ∷ xs) (cond b 0 (suc (find_in newline xs))) newline ≡ newline
    go true e h f = eqb-true x newline e
    go false e h f = f (omega arith)

-- the first line alone
first_alone : (t : List ℕ) → find_in newline t < length t → lines (take (suc (find_in newline t)) t) ≡ take (find_in newline t) t ∷ []
unfolding find_in lines
first_alone [] h = absurd (omega arith)
first_alone (x ∷ xs) h = go (eqb x newline) refl h (first_alone xs)
  where
    go : (b : Bool) → eqb x newline ≡ b → cond b 0 (suc (find_in newline xs)) < suc (length xs)
        → (find_in newline xs < length xs → lines (take (suc (find_in newline xs)) xs) ≡ take (find_in newline xs) xs ∷ [])
        → lines (take (suc (cond b 0 (suc (find_in newline xs)))) (x ∷ xs)) ≡ take (cond b 0 (suc (find_in newline xs))) (x ∷ xs) ∷ []
    go true e h f = rw e
    go false e h f = rw (e, f (omega arith))

first_ended : (t : List ℕ) → find_in newline t < length t → ended (take (suc (find_in newline t)) t) ≡ true
unfolding ended
first_ended t h =
    let f = find_in newline t in
    let a : suc f - 1 ≡ f = omega arith in
    rw (length-take-le (suc f) t h, a, get_or-take (suc f) t f newline (omega arith), found t h)

module _ (t : List ℕ) (i at : ℕ) (P : Passed t i at) where
  -- what is passed and what is left
  split : lines t ≡ lines (take at t) ++ lines (drop at t)
  split = ap lines (sym (take-append-drop at t)) ∙ lines-append (take at t) (drop at t) P.whole

  -- the lines passed are the first of all
  pub first_lines : (take i (lines t) ≡ lines (take at t)) × (i ≤ length (lines t))
  first_lines =
      let n : length (lines t) ≡ i + length (lines (drop at t)) = ap length split ∙ length-append (lines (take at t)) (lines (drop at t)) ∙ ap (λ (k : ℕ). k + length (lines (drop at t))) P.number in
      (ap (take i) split ∙ take_at (lines (take at t)) (lines (drop at t)) i P.number, omega arith)

  pub end-left : ended t ≡ ended (drop at t)
  end-left = ap ended (sym (take-append-drop at t)) ∙ ended-append (take at t) (drop at t) P.whole

  pub all_passed : length t ≤ at → (take at t ≡ t) × (i ≡ length (lines t))
  all_passed h = let e = take_all at t h in (e, sym P.number ∙ ap (λ (s : List ℕ). length (lines s)) e)

  module _ (e : ℕ) (at-end : e ≡ at + find_in newline (drop at t)) (more : e < length t) where
    -- the next line
    abbrev next_line : List ℕ
    next_line = take (e - at) (drop at t)

    in_rest : find_in newline (drop at t) < length (drop at t)
    in_rest = omega (arith, length-drop at t)

    one_more : take (e + 1) t ≡ take at t ++ take (suc (find_in newline (drop at t))) (drop at t)
    one_more =
        let k : e + 1 ≡ at + suc (find_in newline (drop at t)) = omega arith in
        rw k (take-add at (suc (find_in newline (drop at t))) t)

    next-is : next_line ≡ take (find_in newline (drop at t)) (drop at t)
    next-is = let k : e - at ≡ find_in newline (drop at t) = omega arith in rw k

    -- the lines passed with it
    pub lines_more : lines (take (e + 1) t) ≡ lines (take at t) ++ next_line ∷ []
    lines_more =
        rw (one_more, lines-append (take at t) (take (suc (find_in newline (drop at t))) (drop at t)) P.whole, first_alone (drop at t) in_rest, next-is)

    pub passed-more : Passed t (i + 1) (e + 1)
    passed-more = record {
      within = omega arith;
      whole = rw (one_more, ended-append (take at t) (take (suc (find_in newline (drop at t))) (drop at t)) P.whole) (first_ended (drop at t) in_rest);
      number = ap length lines_more ∙ length-append (lines (take at t)) (next_line ∷ []) ∙ ap (λ (k : ℕ). k + 1) P.number;
    }

    -- all lines, with it at its place
    pub lines-here : lines t ≡ lines (take at t) ++ next_line ∷ lines (drop (suc (find_in newline (drop at t))) (drop at t))
    lines-here = split ∙ ap (λ (ls : List (List ℕ)). lines (take at t) ++ ls) (lines-first (drop at t) in_rest ∙ ap (λ (l : List ℕ). l ∷ lines (drop (suc (find_in newline (drop at t))) (drop at t))) (sym next-is))

    pub line-here : get_or (lines t) i [] ≡ next_line
    line-here =
        ap (λ (ls : List (List ℕ)). get_or ls i []) lines-here
        ∙ ap (λ (k : ℕ). get_or (lines (take at t) ++ next_line ∷ lines (drop (suc (find_in newline (drop at t))) (drop at t))) k []) (sym P.number)
        ∙ get_or-append_seam (lines (take at t)) next_line (lines (drop (suc (find_in newline (drop at t))) (drop at t))) []
