-- The date in a fix of +UGNSINF (document 02, CR 8): fourteen digits, then nothing, or a point and one or more digits; and the date exists. Where its six numbers
-- stand is as in ugnsinf.rs.
use Rattle.std.specs.Prelude.{ℕ, ◌-◌, Bool, true, cond, ◌&&◌, List, [], ◌∷◌, map, eqb, leb, length, take, drop}
use Rattle.std.proofs.Math.Option.{Option, none, some}
use Rattle.text.specs.Bytes.{within, all_digits}
use Rattle.text.specs.Number.{value_of}
use Rattle.text.specs.Part.{part_of}
use Rattle.numeral.specs.Numeral.{point}
use Rattle.unsolicited.specs.Calendar.{days_in}

pub record Date : Type 0 where
  pub year : ℕ
  pub month : ℕ
  pub day : ℕ
  pub hour : ℕ
  pub minute : ℕ
  pub second : ℕ

-- nothing, or a point and one or more digits
unfoldable pub is_fraction : List ℕ → Bool
is_fraction [] = true
is_fraction (x ∷ s) = eqb x point && (leb 1 (length s) && all_digits s)

-- what the digits from place a on, up to place e, are worth together
unfoldable pub figures : ℕ → ℕ → List ℕ → ℕ
figures a e s = value_of 10 (map (λ (x : ℕ). x - 48) (part_of s a e))

-- what fourteen digits say: four of the year, and two each of the month, the day, the hour, the minute and the second
unfoldable pub date_in : List ℕ → Date
date_in s = record { year = figures 0 4 s; month = figures 4 6 s; day = figures 6 8 s; hour = figures 8 10 s; minute = figures 10 12 s; second = figures 12 14 s }

-- the years 1980 to 2099, a day that the month has, which no day is where there is no such month, and a time of day
unfoldable pub is_date : Date → Bool
is_date d =
    within 1980 2099 d.year
    && within 1 (days_in d.year d.month) d.day
    && leb d.hour 23
    && leb d.minute 59
    && leb d.second 59

-- the date, if it exists
unfoldable pub existing : Date → Option Date
existing d = cond (is_date d) (some d) none

-- the date that a field says; none where it says none. What a field is that says one, from the date to its text: specs/Written.antt.
unfoldable pub date_of : List ℕ → Option Date
date_of t = cond (leb 14 (length t) && (all_digits (take 14 t) && is_fraction (drop 14 t))) (existing (date_in (take 14 t))) none
