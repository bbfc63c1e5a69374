-- One wrapping subtraction of 48 and one comparison with ten tell the digits, and the difference is what a digit is worth (document 02, CR 5).
use Rattle.std.proofs.Common.{◌≡◌, ℕ, ◌-◌, ◌<◌, ◌≤◌, Bool, true, false, ◌&&◌, ltb, leb, refl, arith, le-ltb, lt-ltb, leb-false, leb-true}
use mathlib.Core.Option.{some}
use Rattle.text.specs.Digit.{is_digit, above_zero, DigitsTold}
use Rattle.text.specs.Number.{digit_value}
use Rattle.text.proofs.Tests.{at_least, at_most}

-- a byte below '0' wraps to 208 and more, one above '9' is ten or more above '0'
pub told_by : (x r : ℕ) → x < 256 → r ≡ above_zero x → ltb r 10 ≡ is_digit x
told_by x r h e = by (leb 48 x) (leb x 57) (leb-true 48 x) (leb-false 48 x) (leb-true x 57) (leb-false x 57)
  where
    by : (a b : Bool) → (a ≡ true → 48 ≤ x) → (a ≡ false → x < 48) → (b ≡ true → x ≤ 57) → (b ≡ false → 57 < x) → ltb r 10 ≡ (a && b)
    by true true l n m u = lt-ltb r 10 (omega (arith, l refl, m refl))
    by true false l n m u = le-ltb r 10 (omega (arith, u refl))
    by false b l n m u = le-ltb r 10 (omega (arith, n refl))

-- of a digit nothing wraps
module _ (x : ℕ) (is : is_digit x ≡ true) where
  pub difference : above_zero x ≡ x - 48
  difference = omega (arith, at_least 48 57 x is, at_most 48 57 x is)

  pub to_nine : above_zero x ≤ 9
  to_nine = omega (arith, difference, at_most 48 57 x is)

  pub value_is : digit_value x ≡ some (above_zero x)
  unfolding digit_value
  value_is = rw (is, difference)

pub digits_told : DigitsTold
digits_told x h = record { test = told_by x (above_zero x) h refl; value = value_is x }
