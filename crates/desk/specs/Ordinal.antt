-- The ordinals of lines: every event carries the place of its line among those that are not empty, counted from 1 (document 02, CR 7).
use Rattle.std.specs.Prelude.{ℕ, suc, List, [], ◌∷◌, map}
use Rattle.text.specs.Copy.{least}

-- the greatest ordinal: there it stays
abbrev pub greatest : ℕ
greatest = 4294967295

-- the ordinal of the n-th line; and as which a count that C lends is read
unfoldable pub capped : ℕ → ℕ
capped n = least n greatest

pub record Numbered (T : Type 0) : Type 0 where
  pub ordinal : ℕ
  pub tell : T

-- what is told of a line, n lines having been counted before it
abbrev pub numbered : {T : Type 0} → ℕ → T → Numbered T
numbered n t = record { ordinal = capped (suc n); tell = t }

-- what is told of lines, one for each, n having been counted before them
unfoldable pub number : {T : Type 0} → ℕ → List T → List (Numbered T)
number n [] = []
number n (t ∷ ts) = numbered n t ∷ number (suc n) ts

-- the ordinals left out
abbrev pub unnumbered : {T : Type 0} → List (Numbered T) → List T
unnumbered l = map (λ x. x.tell) l
