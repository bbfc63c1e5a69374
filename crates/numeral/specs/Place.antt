-- Where the highest set bit of a number is moved to, for private functions (document 01, "Where each form belongs": the count of leading zero bits fixes the
-- exponent). A numeral's number is below 10 ^ 15, and that below 2 ^ 50.
use Rattle.std.specs.Prelude.{ℕ, ◌*◌, ◌^◌, ◌≤◌, ◌<◌}

-- moved up by r places, x has its highest set bit at bit 49
pub record Placed (x r : ℕ) : Type 0 where
  pub low : 2 ^ 49 ≤ x * 2 ^ r
  pub high : x * 2 ^ r < 2 ^ 50
  pub most : r ≤ 49
