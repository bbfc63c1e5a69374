-- The Gregorian calendar (document 02, CR 8; ISO 8601:2004, 3.2.1), for every year.
use Rattle.std.specs.Prelude.{ℕ, ◌%◌, Bool, cond, not, ◌&&◌, ◌||◌, List, [], ◌∷◌, eqb, get_or}

-- n divides the year
abbrev pub divides : ℕ → ℕ → Bool
divides n year = eqb (year % n) 0

-- every fourth year is a leap year, but of the full centuries only every fourth
unfoldable pub is_leap : ℕ → Bool
is_leap year = divides 4 year && (not (divides 100 year) || divides 400 year)

-- the days of each month, from January on, of a leap year or of another
abbrev pub months : Bool → List ℕ
months leap = 31 ∷ cond leap 29 28 ∷ 31 ∷ 30 ∷ 31 ∷ 30 ∷ 31 ∷ 31 ∷ 30 ∷ 31 ∷ 30 ∷ 31 ∷ []

-- how many days a month has, January being the first; 0 where there is no such month
unfoldable pub days_in : ℕ → ℕ → ℕ
days_in year month = get_or (0 ∷ months (is_leap year)) month 0
