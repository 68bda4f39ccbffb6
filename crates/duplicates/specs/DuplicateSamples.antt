-- Groups of one name: samples of what is kept and of which node clashes. Assumes nothing.
use Rattle.std.specs.Prelude.{◌≡◌, refl, true, false, List, [], ◌∷◌, ℕ}
use Prim.Native.String.{String}
use Rattle.tokens.specs.Reserved.{bytes, among}
use Rattle.grammar.specs.File.{Group}
use Rattle.duplicates.specs.Duplicates.{kept, clash}

abbrev names : List String → List (List ℕ)
names [] = []
names (n ∷ ns) = bytes n ∷ names ns

abbrev group : String → List String → Group
group n ns = record { name = bytes n; nodes = names ns }

-- equal ones, in another order and with an atom twice, make one, which stands where the first stood
pub equal-kept :
    kept (group "a" ("x" ∷ "y" ∷ []) ∷ group "b" ("x" ∷ []) ∷ group "a" ("y" ∷ "x" ∷ "x" ∷ []) ∷ [])
    ≡ group "a" ("x" ∷ "y" ∷ []) ∷ group "b" ("x" ∷ []) ∷ []
unfolding among
equal-kept = refl

-- of unequal ones none is kept, though two are equal
pub unequal-left : kept (group "a" ("x" ∷ []) ∷ group "a" ("x" ∷ "y" ∷ []) ∷ group "b" ("x" ∷ []) ∷ group "a" ("x" ∷ []) ∷ []) ≡ group "b" ("x" ∷ []) ∷ []
unfolding among
unequal-left = refl

-- a node of any of them clashes, one of other groups does not
pub unequal_clash :
    (clash (group "a" ("x" ∷ []) ∷ group "a" ("y" ∷ []) ∷ []) (bytes "x") ≡ true)
    × (clash (group "a" ("x" ∷ []) ∷ group "a" ("y" ∷ []) ∷ []) (bytes "y") ≡ true)
    × (clash (group "a" ("x" ∷ []) ∷ group "a" ("y" ∷ []) ∷ group "b" ("z" ∷ []) ∷ []) (bytes "z") ≡ false)
unfolding among
unequal_clash = (refl, refl, refl)

-- in equal ones no node clashes
pub equal-clash : clash (group "a" ("x" ∷ "y" ∷ []) ∷ group "a" ("y" ∷ "x" ∷ []) ∷ []) (bytes "x") ≡ false
unfolding among
equal-clash = refl
