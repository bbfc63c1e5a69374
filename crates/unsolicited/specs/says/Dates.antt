-- What document 02's CR 8 buys of the calls: `DateTime::new` accepts the dates that exist and nothing else, a fix has the date of its line, and 13 is for the lines
-- that have none.
use Rattle.std.specs.Prelude.{ℕ, ◌↔◌, ◌≡◌, List, Option, Result}
use Rattle.std.proofs.Math.Option.{some}
use Rattle.text.specs.Line.{line_check}
use Rattle.text.specs.Reading.{read, refused}
use Rattle.unsolicited.specs.Date.{Date}
use Rattle.unsolicited.specs.Gnss.{Fix, fix}
use Rattle.unsolicited.specs.Undated.{field_of, Undated}
use Rattle.unsolicited.specs.Urc.{gnss}
use Rattle.unsolicited.specs.Written.{Says}
use Rattle.unsolicited.specs.says.Gnss as Gnss
use Rattle.unsolicited.specs.says.Gnss.{date_option_says, DateKeeps, GnssReportKeeps}
use Rattle.unsolicited.specs.says.Urc as Urc
use Rattle.unsolicited.specs.says.Urc.{UrcKeeps}
use Rattle.text.specs.declared.refusal.Refusal.{Refusal}
use Rattle.unsolicited.specs.declared.ugnsinf.DateTime.{DateTime}
use Rattle.unsolicited.specs.declared.ugnsinf.GnssReport.{GnssReport}
use Rattle.unsolicited.specs.declared.Urc.{Urc}

-- whatever keeps the contract answers a date exactly where the text is that date and it exists
abbrev pub DatesRead : Type 0
DatesRead = (t : List ℕ) (r : Option DateTime) → DateKeeps t r → (d : Date) → (date_option_says r ≡ some d) ↔ Says t d

-- of a line, by the reader of +UGNSINF and by the unsolicited trial
pub record FixesDated (l : List ℕ) : Type 0 where
  -- a fix that is read has the date that the third field says, and it exists
  pub report_fix : (r : Result GnssReport Refusal) → GnssReportKeeps l r → (f : Fix) → Gnss.says r ≡ read (fix f) → Says (field_of 2 l) f.date_time
  pub trial_fix : (r : Result Urc Refusal) → UrcKeeps l r → (f : Fix) → Urc.says r ≡ read (gnss (fix f)) → Says (field_of 2 l) f.date_time
  -- and 13 is for the lines that pass the check and are undated
  pub report : (r : Result GnssReport Refusal) → GnssReportKeeps l r → (Gnss.says r ≡ refused 13) ↔ ((line_check l ≡ 0) × Undated l)
  pub trial : (r : Result Urc Refusal) → UrcKeeps l r → (Urc.says r ≡ refused 13) ↔ ((line_check l ≡ 0) × Undated l)
