-- A date as a modem writes it, and what it is for a date to exist (document 02, CR 8): the other way round than specs/Date.antt, from the date to its text.
use Rattle.std.specs.Prelude.{ℕ, zero, suc, ◌+◌, ◌/◌, ◌%◌, ◌^◌, ◌≤◌, ◌≡◌, true, List, [], ◌∷◌, ◌++◌}
use Rattle.text.specs.Bytes.{bytes, all_digits}
use Rattle.unsolicited.specs.Calendar.{days_in}
use Rattle.unsolicited.specs.Date.{Date}

-- a number in n decimal digits, zeros in front
abbrev pub in_digits : ℕ → ℕ → List ℕ
in_digits zero v = []
in_digits (suc n) v = (48 + ((v / (10 ^ n)) % 10)) ∷ in_digits n v

-- yyyymmddhhmmss
abbrev pub fourteen_digits : Date → List ℕ
fourteen_digits d = in_digits 4 d.year ++ in_digits 2 d.month ++ in_digits 2 d.day ++ in_digits 2 d.hour ++ in_digits 2 d.minute ++ in_digits 2 d.second

-- nothing, or a point and one or more digits
pub data Fraction : List ℕ → Type 0 where
  nothing : Fraction []
  digits : (d : ℕ) (ds : List ℕ) → all_digits (d ∷ ds) ≡ true → Fraction (bytes "." ++ d ∷ ds)

-- there is such a day in the calendar, in the years 1980 to 2099, and such a time of day
pub record Exists (d : Date) : Type 0 where
  pub year : (1980 ≤ d.year) × (d.year ≤ 2099)
  pub month : (1 ≤ d.month) × (d.month ≤ 12)
  pub day : (1 ≤ d.day) × (d.day ≤ days_in d.year d.month)
  pub hour : d.hour ≤ 23
  pub minute : d.minute ≤ 59
  pub second : d.second ≤ 59

-- the text is a date that exists
pub record Says (t : List ℕ) (d : Date) : Type 0 where
  pub exists : Exists d
  pub behind : List ℕ
  pub fraction : Fraction behind
  pub is : t ≡ fourteen_digits d ++ behind
