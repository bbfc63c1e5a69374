-- A desk numeral (document 01, "Numbers in a line"): an optional sign, one to fifteen digits, at most one point anywhere among them or at
-- either end. Its answer is the f32 nearest to the exact decimal, a tie going to the even significand.
use Rattle.std.specs.Prelude.{ℕ, ◌^◌, Bool, cond, ◌||◌, List, ◌++◌, length, drop, Float}
use Rattle.std.proofs.Math.Option.{Option, none, some}
use Rattle.std.specs.Float.{binary32}
use Rattle.std.specs.Float.Ieee.{round}
use Rattle.text.specs.Bytes.{bytes, within, starts_with}
use Rattle.text.specs.Part.{before, after}
use Rattle.text.specs.Number.{digits_of, value_of}
use Rattle.text.specs.Reading.{Reading, read, need, present}

-- an exact decimal: number / 10 ^ places, or its negation
pub record Decimal : Type 0 where
  pub negative : Bool
  pub number : ℕ
  pub places : ℕ

-- the point, '.'
abbrev pub point : ℕ
point = 46

-- what stands behind the sign, where there is one
unfoldable pub unsigned : List ℕ → List ℕ
unsigned s = cond (starts_with (bytes "-") s || starts_with (bytes "+") s) (drop 1 s) s

-- the decimal that one to fifteen digits make, so many of them behind the point
abbrev pub decimal : Bool → ℕ → Option (List ℕ) → Option Decimal
decimal negative places none = none
decimal negative places (some digits) =
    cond (within 1 15 (length digits)) (some (record { negative = negative; number = value_of 10 digits; places = places })) none

-- what the text behind the sign says: what stands before its first point and what stands after it are digits, so a second point is refused
unfoldable pub behind_sign : Bool → List ℕ → Option Decimal
behind_sign negative t = decimal negative (length (after point t)) (digits_of 10 (before point t ++ after point t))

-- what the text says; none where it is no numeral
unfoldable pub decimal_of : List ℕ → Option Decimal
decimal_of s = behind_sign (starts_with (bytes "-") s) (unsigned s)

-- the f32 nearest to the decimal: a zero keeps the sign
abbrev pub rounded : Option Decimal → Option Float
rounded none = none
rounded (some d) = some (round binary32 d.negative d.number (10 ^ d.places))

-- the f32 that a text is read as; none where it is no numeral
unfoldable pub float_of : List ℕ → Option Float
float_of s = rounded (decimal_of s)

-- which is refused with 3
unfoldable pub numeral_text : List ℕ → Reading Float
numeral_text s = need (float_of s) read

-- whether a text is read as an f32
unfoldable pub is_numeral : List ℕ → Bool
is_numeral s = present (float_of s)
