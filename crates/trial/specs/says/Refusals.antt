-- What the calls that try all readers say of dates, and with which number they refuse a line (document 02, CR 8).
use Rattle.std.specs.Prelude.{Result, ℕ, ◌↔◌, ◌≡◌, List}
use Rattle.text.specs.declared.refusal.Refusal.{Refusal}
use Rattle.text.specs.Line.{line_check}
use Rattle.text.specs.Reading.{read, refused}
use Rattle.at_command.specs.says.Response.{ResponseCodeKeeps}
use Rattle.at_command.specs.says.Response.{says as response_says}
use Rattle.at_command.specs.declared.ResponseCode.{ResponseCode}
use Rattle.unsolicited.specs.Gnss.{Fix, fix}
use Rattle.unsolicited.specs.Undated.{field_of, Undated}
use Rattle.unsolicited.specs.Urc.{gnss}
use Rattle.unsolicited.specs.Written.{Says}
use Rattle.trial.specs.Answer.{unsolicited}
use Rattle.trial.specs.Refusals.{line_refusal}
use Rattle.trial.specs.says.Line.{line_says, sort_says, LineKeeps, SortKeeps}
use Rattle.trial.specs.declared.Line.{Line}
use Rattle.trial.specs.declared.Sort.{Sort}

-- a refused line gets the number of that order, whatever keeps the contract
abbrev pub RefusalsOrdered : Type 0
RefusalsOrdered = (l : List ℕ) (r : Result Line Refusal) → LineKeeps l r → (k : ℕ) → line_says r ≡ refused k → k ≡ line_refusal l

-- A fix that both trials in turn read has the date that its third field says, and it exists. They and the sort of a line refuse with 13 exactly the lines that pass
-- the check and are undated; the trial of the responses alone refuses those with 3.
pub record DatesSaid (l : List ℕ) : Type 0 where
  pub dated : (r : Result Line Refusal) → LineKeeps l r → (f : Fix) → line_says r ≡ read (unsolicited (gnss (fix f))) → Says (field_of 2 l) f.date_time
  pub line : (r : Result Line Refusal) → LineKeeps l r → (line_says r ≡ refused 13) ↔ ((line_check l ≡ 0) × Undated l)
  pub sort : (r : Result Sort Refusal) → SortKeeps l r → (sort_says r ≡ refused 13) ↔ ((line_check l ≡ 0) × Undated l)
  pub response : line_check l ≡ 0 → Undated l → (r : Result ResponseCode Refusal) → ResponseCodeKeeps l r → response_says r ≡ refused 3
