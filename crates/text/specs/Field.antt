-- The fields of a line: what stands between the separators, in order. A line has at least one.
use Rattle.std.specs.Prelude.{ℕ, zero, suc, ◌+◌, cond, List, [], ◌∷◌, length, ◌==◌}

-- a byte at the front of the first field
abbrev pub fronted : ℕ → List (List ℕ) → List (List ℕ)
fronted x [] = (x ∷ []) ∷ []
fronted x (f ∷ fs) = (x ∷ f) ∷ fs

abbrev pub fields : ℕ → List ℕ → List (List ℕ)
fields b [] = [] ∷ []
fields b (x ∷ s) = cond (x == b) ([] ∷ fields b s) (fronted x (fields b s))

-- field n, counted from 0; empty past the last
abbrev pub nth : ℕ → List (List ℕ) → List ℕ
nth n [] = []
nth zero (f ∷ fs) = f
nth (suc n) (f ∷ fs) = nth n fs

-- where field n begins: behind the fields before it, each with its separator; one past the line's end where there is no field n
abbrev pub place_of : ℕ → List (List ℕ) → ℕ
place_of zero fs = 0
place_of (suc n) [] = 0
place_of (suc n) (f ∷ fs) = length f + 1 + place_of n fs
