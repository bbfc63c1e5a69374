-- The order of a line's refusals: 1, 2, then 4 or 13, then 3 (document 01, "Refusal numbers", as document 02, CR 8, has it).
use Rattle.std.specs.Prelude.{ℕ, ◌≡◌, Bool, false, cond, ◌&&◌, ◌||◌, List, [], ◌∷◌, eqb, ltb, length}
use Rattle.text.specs.Reading.{Reading, read, refused}
use Rattle.text.specs.Utf8.{utf8}
use Rattle.trial.specs.Answer.{all_readings}

-- one of the readings is a refusal with k
abbrev pub one_refuses : {A : Type 0} → ℕ → List (Reading A) → Bool
one_refuses k [] = false
one_refuses k (read a ∷ rs) = one_refuses k rs
one_refuses k (refused j ∷ rs) = eqb j k || one_refuses k rs

-- no line is refused with 4 by one of the seventeen readers and with 13 by one
abbrev pub NeverBoth : Type 0
NeverBoth = (l : List ℕ) → one_refuses 4 (all_readings l) && one_refuses 13 (all_readings l) ≡ false

-- the number of a line that is refused
abbrev pub line_refusal : List ℕ → ℕ
line_refusal l =
    cond (ltb 256 (length l)) 1
    (cond (utf8 l)
    (cond (one_refuses 4 (all_readings l)) 4
    (cond (one_refuses 13 (all_readings l)) 13
    3))
    2)
