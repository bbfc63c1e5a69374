-- The number of a mobile equipment (document 01, "Imei", as document 02, CR 3, changes it; gsn.rs; TS 23.003, 6.2 and annex B): an IMEI of fifteen digits, or an IMEISV of
-- sixteen, which document 02 calls a version number.
use Rattle.std.specs.Prelude.{ℕ, ◌+◌, ◌-◌, ◌*◌, ◌/◌, ◌%◌, Bool, true, false, cond, not, ◌&&◌, List, [], ◌∷◌, eqb, length, take, get_or}
use Rattle.text.specs.Bytes.{all_digits}
use Rattle.text.specs.Part.{Span}
use Rattle.text.specs.Reading.{Reading, read, only, either}

-- where the digits stand, and which of the two numbers they are
pub record Identity : Type 0 where
  pub digits : Span
  pub is_version_number : Bool

-- the whole of a line of n bytes, as the one or the other
abbrev pub whole : ℕ → Bool → Identity
whole n is_version = record { digits = record { start = 0; end = n }; is_version_number = is_version }

-- the digits of a double, added
abbrev pub doubled : ℕ → ℕ
doubled d = 2 * d / 10 + 2 * d % 10

-- annex B's sum over the digits, those at odd places doubled, the places counted from 0; `odd` says whether the first digit stands at one
abbrev pub luhn : Bool → List ℕ → ℕ
luhn odd [] = 0
luhn odd (x ∷ s) = cond odd (doubled (x - 48)) (x - 48) + luhn (not odd) s

-- annex B: what the sum lacks to the next multiple of ten. It labels the fourteen digits D14 to D1 and doubles those with an odd label, which stand at the odd places
abbrev pub check_digit : List ℕ → ℕ
check_digit s = (10 - luhn false s % 10) % 10

-- 6.2.1: fourteen digits of type and serial number, then their check digit
abbrev pub is_imei : List ℕ → Bool
is_imei s = all_digits s && (eqb (length s) 15 && eqb (get_or s 14 0 - 48) (check_digit (take 14 s)))

-- 6.2.2: the same fourteen, then two digits of software version, and no check digit
abbrev pub is_imeisv : List ℕ → Bool
is_imeisv s = all_digits s && eqb (length s) 16

unfoldable pub imei_text : List ℕ → Reading Identity
imei_text s = either (is_imei s) (read (whole (length s) false)) (only (is_imeisv s) (read (whole (length s) true)))
