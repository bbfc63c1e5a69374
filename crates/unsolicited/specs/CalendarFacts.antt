-- What is known of the calendar from elsewhere. A wrong leap rule, a month too long, two months exchanged or a limit moved would each miss one of these.
use Rattle.std.specs.Prelude.{ℕ, zero, suc, ◌+◌, ◌≡◌, true, false, cond, List, [], ◌∷◌, map}
use Rattle.unsolicited.specs.Calendar.{is_leap, days_in}
use Rattle.unsolicited.specs.Date.{is_date}

-- f 0 + f 1 + .., n of them
abbrev pub sum_below : ℕ → (ℕ → ℕ) → ℕ
sum_below zero f = 0
sum_below (suc n) f = sum_below n f + f n

-- the days of a year's first n months
abbrev pub days_before : ℕ → ℕ → ℕ
days_before year n = sum_below n (λ m. days_in year (m + 1))

abbrev pub to_twelve : List ℕ
to_twelve = 0 ∷ 1 ∷ 2 ∷ 3 ∷ 4 ∷ 5 ∷ 6 ∷ 7 ∷ 8 ∷ 9 ∷ 10 ∷ 11 ∷ 12 ∷ []

-- how many dates of the year are accepted, of those that two digits each of month and day can write, at midnight
abbrev pub accepted_in : ℕ → ℕ
accepted_in year = sum_below 100 (λ month. sum_below 100 (λ day. cond (is_date (record { year = year; month = month; day = day; hour = 0; minute = 0; second = 0 })) 1 0))

-- and how many times of one day, 29 February 2000, of those that two digits each can write
abbrev pub seconds_in : ℕ → ℕ → ℕ
seconds_in hour minute = sum_below 100 (λ second. cond (is_date (record { year = 2000; month = 2; day = 29; hour = hour; minute = minute; second = second })) 1 0)

abbrev pub accepted_times : ℕ
accepted_times = sum_below 100 (λ hour. sum_below 100 (λ minute. seconds_in hour minute))

pub record CalendarFacts : Type 0 where
  -- of the full centuries every fourth is a leap year
  pub centuries : (is_leap 1900 ≡ false) × (is_leap 2000 ≡ true) × (is_leap 2100 ≡ false) × (is_leap 2400 ≡ true)
  -- four hundred years have 146,097 days, which are whole weeks
  pub cycle : sum_below 400 (λ n. days_before (1601 + n) 12) ≡ 146097
  -- the days before each month, as every almanac has them, of a common year and of a leap year
  pub common : map (days_before 2023) to_twelve ≡ 0 ∷ 31 ∷ 59 ∷ 90 ∷ 120 ∷ 151 ∷ 181 ∷ 212 ∷ 243 ∷ 273 ∷ 304 ∷ 334 ∷ 365 ∷ []
  pub leap : map (days_before 2024) to_twelve ≡ 0 ∷ 31 ∷ 60 ∷ 91 ∷ 121 ∷ 152 ∷ 182 ∷ 213 ∷ 244 ∷ 274 ∷ 305 ∷ 335 ∷ 366 ∷ []
  -- from 1 January 1980 to 31 December 2099 there are 43,830 days; of the years before 1980 no date is accepted, nor of those from 2100 to 9999
  pub before : sum_below 1980 accepted_in ≡ 0
  pub until : sum_below 2100 accepted_in ≡ 43830
  pub after : sum_below 10000 accepted_in ≡ 43830
  -- a day has 86,400 seconds
  pub seconds : accepted_times ≡ 86400
