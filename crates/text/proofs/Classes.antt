-- A byte's class: a digit's is told where the one test of a digit tells it (document 02, CR 6 and CR 5), and the table has the class of each.
use Rattle.std.proofs.Common.{◌≡◌, ℕ, ◌-◌, ◌<◌, Bool, true, false, cond, ◌||◌, eqb, ltb, List, get_or, sym, refl, ◌∙◌}
use mathlib.Core.Option.{none, some}
use Rattle.text.specs.Bytes.{within}
use Rattle.text.specs.Class.{Class, digit, hex_letter, quote, comma, other, is_hex_letter, number_of, class_of, class_number, Two, class_numbers, DigitsClassed, LettersClassed}
use Rattle.text.specs.Condition.{is_digit_class}
use Rattle.text.specs.Digit.{is_digit, above_zero}
use Rattle.text.specs.Number.{digit_value}
use Rattle.text.specs.Reading.{present}
use Rattle.text.proofs.Below.{tabled, entry}
use Rattle.text.proofs.Told.{told_by}

-- a class is a digit's where its number is 0, and where the byte is a digit
pub number_digit : (c : Class) → eqb (number_of c) 0 ≡ is_digit_class c
number_digit digit = refl
number_digit hex_letter = refl
number_digit quote = refl
number_digit comma = refl
number_digit other = refl

class_digit : (a b c d : Bool) → is_digit_class (cond a digit (cond b hex_letter (cond c quote (cond d comma other)))) ≡ a
class_digit true b c d = refl
class_digit false true c d = refl
class_digit false false true d = refl
class_digit false false false true = refl
class_digit false false false false = refl

pub digit_class : (x : ℕ) → is_digit_class (class_of x) ≡ is_digit x
digit_class x = class_digit (is_digit x) (is_hex_letter x) (eqb x 34) (eqb x 44)

pub digits_classed : DigitsClassed
unfolding class_number
digits_classed x h = number_digit (class_of x) ∙ digit_class x ∙ sym (told_by x (above_zero x) h refl)

-- two bytes looked up in one table, whose rule is computed once
pub two_classed : (table : List ℕ) → table ≡ tabled class_number 0 256 → (x y : ℕ) → x < 256 → y < 256
    → ◌≡◌ {A = Two} (record { first = get_or table x 0; last = get_or table y 0 }) (class_numbers x y)
unfolding class_numbers
two_classed table is x y h k = rw (is, entry class_number 0 256 x h, entry class_number 0 256 y k)

-- a digit or a hexadecimal letter is what a hexadecimal number has a digit's worth for
pub letters_classed : LettersClassed
unfolding class_number digit_value
letters_classed x = go (within 48 57 x) (within 65 70 x) (within 97 102 x) (eqb x 34) (eqb x 44)
  where
    go : (a b c d e : Bool)
        → ltb (number_of (cond a digit (cond (b || c) hex_letter (cond d quote (cond e comma other))))) 2
        ≡ present (cond a (some (x - 48)) (cond b (some (x - 55)) (cond c (some (x - 87)) none)))
    go true b c d e = refl
    go false true c d e = refl
    go false false true d e = refl
    go false false false true e = refl
    go false false false false true = refl
    go false false false false false = refl
