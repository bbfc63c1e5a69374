-- What document 02's CR 8 buys of the exported calls: 14 is the reader of +UGNSINF, and 2 a fix (specs/Values.antt).
use Rattle.std.specs.Prelude.{ℕ, ◌+◌, ◌↔◌, ◌≡◌, List, get_or, take, drop}
use Rattle.text.specs.Line.{line_check}
use Rattle.unsolicited.specs.Date.{Date}
use Rattle.unsolicited.specs.Undated.{field_of, Undated}
use Rattle.unsolicited.specs.Written.{Says}
use Rattle.sim7000.specs.Reader.{SortLineKeeps}
use Rattle.sim7000.specs.Values.{date_values, ReadLineKeeps}

-- the six values behind the 2 are a date that exists, and the third field says it
pub record DateHanded (line values : List ℕ) : Type 0 where
  pub date : Date
  pub says : Says (field_of 2 line) date
  pub is : take 6 (drop 2 values) ≡ date_values date

pub record DatesExported (line : List ℕ) : Type 0 where
  -- of a fix that `sim7000_read_line` hands over
  pub handed : (before after : List ℕ) → ReadLineKeeps line before 0 after → get_or after 0 0 ≡ 14 → get_or after 1 0 ≡ 2 → DateHanded line after
  -- which answers 13, and `sim7000_sort_line` 128 plus 13, exactly for the lines that pass the check and are undated
  pub refused : (before after : List ℕ) (r : ℕ) → ReadLineKeeps line before r after → (r ≡ 13) ↔ ((line_check line ≡ 0) × Undated line)
  pub sorted : (r : ℕ) → SortLineKeeps line r → (r ≡ 128 + 13) ↔ ((line_check line ≡ 0) × Undated line)
