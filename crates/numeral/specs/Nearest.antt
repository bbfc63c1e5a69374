-- The f32 nearest to a decimal, over whole numbers. The unit is the smallest positive f32, 2 ^ -149: the magnitude of every finite f32 is p * 2 ^ j units
-- with p below 2 ^ 24 (proofs/Rounding.antt: every_f32), and the fraction m / D is m * 2 ^ 149 / D units.
use Rattle.std.specs.Prelude.{◌≡◌, ◌⊎◌, Bool, List, ℕ, ◌+◌, ◌-◌, ◌*◌, ◌%◌, ◌^◌, ◌≤◌, ◌<◌, Float}
use Rattle.std.specs.Float.Ieee.Exact.{HasValue}
use Rattle.text.specs.Reading as R
use Rattle.text.specs.Reading.{Reading, read}
use Rattle.numeral.specs.Numeral.{Decimal}
use Rattle.numeral.specs.Grammar.{Says}

-- how far apart two numbers are
abbrev pub apart : ℕ → ℕ → ℕ
apart a b = (a - b) + (b - a)

-- x has the sign s and the magnitude sig * 2 ^ drop units. In units times D, no magnitude of an f32 is nearer to m / D, and where another is as near, sig is even.
-- (One of the other sign lies beyond zero, which is among them.) sig is the whole significand: it has 24 binary digits, or is the carry to the 25th, unless x is so small that none is dropped.
pub record Nearest (s : Bool) (m D : ℕ) (x : Float) : Type 0 where
  pub sig : ℕ
  pub drop : ℕ
  pub value : HasValue x s (sig * 2 ^ drop) (2 ^ 149)
  pub whole : (drop ≡ 0) ⊎ (2 ^ 23 ≤ sig)
  pub most : sig ≤ 2 ^ 24
  pub nearest : (p j : ℕ) → p < 2 ^ 24 → apart (m * 2 ^ 149) (sig * 2 ^ drop * D) ≤ apart (m * 2 ^ 149) (p * 2 ^ j * D)
  pub even : (p j : ℕ) → p < 2 ^ 24 → (p * 2 ^ j ≡ sig * 2 ^ drop → ⊥) → apart (m * 2 ^ 149) (p * 2 ^ j * D) ≡ apart (m * 2 ^ 149) (sig * 2 ^ drop * D) → sig % 2 ≡ 0

-- what is answered to the text s: the f32 nearest to the decimal that it says, or 3 where it says none
pub data Answers (s : List ℕ) : Reading Float → Type 0 where
  value : {d : Decimal} {x : Float} → Says s d → Nearest d.negative d.number (10 ^ d.places) x → Answers s (read x)
  refused : ((d : Decimal) → Says s d → ⊥) → Answers s (R.refused 3)
