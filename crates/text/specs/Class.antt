-- The classes of bytes by which a line's reader is found (document 02, CR 6): digit, hexadecimal letter, quote, comma, other.
use Rattle.std.specs.Prelude.{◌≡◌, ℕ, ◌<◌, Bool, cond, ◌||◌, ◌==◌, nat_lt}
use Rattle.text.specs.Bytes.{within}
use Rattle.text.specs.Digit.{is_digit, above_zero}
use Rattle.text.specs.Number.{digit_value}
use Rattle.text.specs.Reading.{present}

pub data Class : Type 0 where
  digit : Class
  hex_letter : Class
  quote : Class
  comma : Class
  other : Class

-- 'A' to 'F' and 'a' to 'f'
abbrev pub is_hex_letter : ℕ → Bool
is_hex_letter x = within 65 70 x || within 97 102 x

-- the class of a byte
abbrev pub class_of : ℕ → Class
class_of x = cond (is_digit x) digit (cond (is_hex_letter x) hex_letter (cond (x == 34) quote (cond (x == 44) comma other)))

-- the classes in the order in which document 02 names them
abbrev pub number_of : Class → ℕ
number_of digit = 0
number_of hex_letter = 1
number_of quote = 2
number_of comma = 3
number_of other = 4

unfoldable pub class_number : ℕ → ℕ
class_number x = number_of (class_of x)

-- those of two bytes
pub record Two : Type 0 where
  pub first : ℕ
  pub last : ℕ

unfoldable pub class_numbers : ℕ → ℕ → Two
class_numbers x y = record { first = class_number x; last = class_number y }

-- the class's number is a digit's where one subtraction of 48 tells a digit (document 02, CR 5), of every byte
abbrev pub DigitsClassed : Type 0
DigitsClassed = (x : ℕ) → x < 256 → (class_number x == 0) ≡ nat_lt (above_zero x) 10

-- and that of a digit or a hexadecimal letter where the byte is worth something in a hexadecimal number
abbrev pub LettersClassed : Type 0
LettersClassed = (x : ℕ) → nat_lt (class_number x) 2 ≡ present (digit_value x)
