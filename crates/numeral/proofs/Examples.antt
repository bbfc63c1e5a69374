-- Worked examples over the definition that the contract of `read` cites, each computed.
use mathlib.Core.Path.{◌≡◌, refl}
use mathlib.Core.Bool.{true, false}
use mathlib.Core.Option.{none, some}
use Prim.Native.String.{String}
use lib.IntN.{pos, negsuc}
use lib.Ieee.{Float, fin, round}
use Rattle.text.specs.Bytes.{bytes, starts_with}
use Rattle.text.specs.Number.{digit_value, digits_of, value_of}
use Rattle.numeral.specs.Numeral.{unsigned, behind_sign, decimal_of, float_of}

-- the text s is read as the f32 m * 2 ^ e
abbrev Reads : String → Float → Type 0
Reads s x = float_of (bytes s) ≡ some x

abbrev Refuses : String → Type 0
Refuses s = float_of (bytes s) ≡ none

-- half way from 16777216, whose significand is even, to 16777218; and just past half way, by the last of fifteen digits
ties : Reads "16777217" (fin false 1 (pos 24)) × Reads "-16777217.0000000" (fin true 1 (pos 24)) × Reads "16777217.0000001" (fin false 8388609 (pos 1))
unfolding float_of decimal_of behind_sign unsigned starts_with digits_of digit_value value_of round
ties = (refl, refl, refl)

-- a zero keeps its sign
zeros : Reads "-0" (fin true 0 (pos 0)) × Reads "+0.00" (fin false 0 (pos 0))
unfolding float_of decimal_of behind_sign unsigned starts_with digits_of digit_value value_of round
zeros = (refl, refl)

-- the point at either end; and the carry to a 25th digit
points : Reads ".5" (fin false 1 (negsuc 0)) × Reads "5." (fin false 5 (pos 0)) × Reads "-.25" (fin true 1 (negsuc 1)) × Reads "0.99999999" (fin false 1 (pos 0))
unfolding float_of decimal_of behind_sign unsigned starts_with digits_of digit_value value_of round
points = (refl, refl, refl, refl)

-- no digit; a sign or a point too many; sixteen digits; an exponent; no number
refused : Refuses "" × Refuses "+" × Refuses "-" × Refuses "." × Refuses "--1" × Refuses "1.2.3" × Refuses "1234567890123456" × Refuses "1e5" × Refuses "inf" × Refuses "nan" × Refuses " 1"
unfolding float_of decimal_of behind_sign unsigned starts_with digits_of digit_value value_of
refused = (refl, refl, refl, refl, refl, refl, refl, refl, refl, refl, refl)
