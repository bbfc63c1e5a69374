-- The facts of specs/CalendarFacts.antt, computed. The days of a year depend on two tests alone, and a time on three, so that those of ten thousand years and of a day
-- are counted in seconds.
use Prim.Native.Nat.{ℕ, zero, suc}
use mathlib.Core.Path.{◌≡◌, refl, ◌∙◌}
use mathlib.Core.Bool.{Bool, true, false, cond, ◌&&◌}
use mathlib.Core.List.{◌∷◌}
use lib.Dec.{leb}
use lib.ListN.{get_or}
use Rattle.text.specs.Bytes.{within}
use Rattle.unsolicited.specs.Calendar.{is_leap, months, days_in}
use Rattle.unsolicited.specs.CalendarFacts.{sum_below, accepted_in, seconds_in, accepted_times, CalendarFacts}
use Rattle.unsolicited.specs.Date.{is_date}

sum_same : (n : ℕ) (f g : ℕ → ℕ) → ((k : ℕ) → f k ≡ g k) → sum_below n f ≡ sum_below n g
sum_same zero f g h = refl
sum_same (suc n) f g h = rw (sum_same n f g h, h n)

-- the year is in range or not, and has a leap day or not
abbrev in_year : ℕ → ℕ
in_year year = cond (within 1980 2099 year) (cond (is_leap year) 366 365) 0

in_year_lem : (year : ℕ) → accepted_in year ≡ in_year year
unfolding is_date days_in
in_year_lem year = go (within 1980 2099 year) (is_leap year)
  where
    go : (good leap : Bool) → sum_below 100 (λ m. sum_below 100 (λ d. cond (good && within 1 (get_or (0 ∷ months leap) m 0) d && leb 0 23 && leb 0 59 && leb 0 59) 1 0)) ≡ cond good (cond leap 366 365) 0
    go true true = refl
    go true false = refl
    go false true = refl
    go false false = refl

-- so many years are counted by those two tests
in_years : (n : ℕ) → sum_below n accepted_in ≡ sum_below n in_year
in_years n = sum_same n accepted_in in_year in_year_lem

-- an hour and a minute are in range or not
in_minute : (hour minute : ℕ) → seconds_in hour minute ≡ cond (leb hour 23) (cond (leb minute 59) 60 0) 0
unfolding is_date days_in is_leap
in_minute hour minute = go (leb hour 23) (leb minute 59)
  where
    go : (a b : Bool) → sum_below 100 (λ s. cond (true && true && a && b && leb s 59) 1 0) ≡ cond a (cond b 60 0) 0
    go true true = refl
    go true false = refl
    go false true = refl
    go false false = refl

in_day : accepted_times ≡ 86400
in_day = sum_same 100 _ _ (λ h. sum_same 100 _ (λ m. cond (leb h 23) (cond (leb m 59) 60 0) 0) (in_minute h)) ∙ refl

pub calendar_facts : CalendarFacts
unfolding is_leap days_in
calendar_facts = record { centuries = (refl, refl, refl, refl); cycle = refl; common = refl; leap = refl; before = in_years 1980 ∙ refl; until = in_years 2100 ∙ refl; after = in_years 10000 ∙ refl; seconds = in_day }
