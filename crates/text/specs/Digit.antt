-- A decimal digit, and how document 02's CR 5 tells one: 48 is subtracted from the byte, wrapping, and what is left is compared with ten.
use Rattle.std.specs.Prelude.{◌≡◌, ℕ, ◌+◌, ◌-◌, ◌%◌, ◌<◌, Bool, true, nat_lt}
use Rattle.std.proofs.Math.Option.{some}
use Rattle.text.specs.Bytes.{within}
use Rattle.text.specs.Number.{digit_value}

-- the byte is one of '0' to '9'
abbrev pub is_digit : ℕ → Bool
is_digit x = within 48 57 x

-- x - 48 modulo 256: how far the byte stands above '0' when 0 follows 255
abbrev pub above_zero : ℕ → ℕ
above_zero x = (x + (256 - 48)) % 256

-- the test tells the digits and no other byte, and of a digit the difference is what it is worth
pub record Told (x : ℕ) : Type 0 where
  pub test : nat_lt (above_zero x) 10 ≡ is_digit x
  pub value : is_digit x ≡ true → digit_value x ≡ some (above_zero x)

abbrev pub DigitsTold : Type 0
DigitsTold = (x : ℕ) → x < 256 → Told x
