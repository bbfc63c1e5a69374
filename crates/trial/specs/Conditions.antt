-- The conditions of all seventeen readers on a line's front and end, as one table in the order of trial, and what holds of it (document 02, CR 6).
use Rattle.std.specs.Prelude.{ℕ, ◌-◌, ◌≤◌, ◌<◌, ◌≡◌, true, false, List, ◌++◌}
use Rattle.text.specs.Bytes.{bytes}
use Rattle.text.specs.Condition.{Condition, meets, row, nth_reading, UnmetRefused, NoTwo, Points}
use Rattle.text.specs.Reading.{refused}
use Rattle.at_command.specs.Conditions.{conditions}
use Rattle.at_command.specs.Response.{readings, response_text}
use Rattle.unsolicited.specs.Conditions.{urc_conditions}
use Rattle.unsolicited.specs.Urc.{urc_readings, urc_text}
use Rattle.trial.specs.Answer.{all_readings, said_text}

unfoldable pub all_conditions : List Condition
all_conditions = conditions ++ urc_conditions

-- a line that fails a reader's condition gets 3 from that reader
abbrev pub ConditionsAsked : Type 0
ConditionsAsked = (l : List ℕ) → UnmetRefused all_conditions l (all_readings l)

-- no line meets two of them
abbrev pub ConditionsApart : Type 0
ConditionsApart = (l : List ℕ) → NoTwo all_conditions l

-- Where a line meets no condition but that of row r, each trial says what the reader of that row says: that of all seventeen, of the thirteen, and of the four, which none of
-- the first thirteen rows is of.
pub record StraightOn (l : List ℕ) (r : ℕ) : Type 0 where
  pub said : said_text l ≡ nth_reading r (all_readings l)
  pub response : response_text l ≡ nth_reading r (readings l)
  pub urc : 13 ≤ r → urc_text l ≡ nth_reading (r - 13) (urc_readings l)
  pub no_urc : r < 13 → urc_text l ≡ refused 3

abbrev pub StraightAgrees : Type 0
StraightAgrees = (l : List ℕ) (r : ℕ) → Points all_conditions l r → StraightOn l r

-- two numbers that begin alike are told apart by where they end, and a line of +COPS is none of CLOSE OK's, whatever it ends with
pub record EndsTell : Type 0 where
  pub imei : meets (row 10 all_conditions) (bytes "8900000000000000") ≡ true
  pub iccid : meets (row 4 all_conditions) (bytes "8900000000000000000") ≡ true
  pub operator : meets (row 7 all_conditions) (bytes "+COPS: 0,0,x, CLOSE OK") ≡ true
  pub no_close : meets (row 3 all_conditions) (bytes "+COPS: 0,0,x, CLOSE OK") ≡ false
