-- What a line of digits says, by all seventeen readers in their order (document 02, CR 3; TS 23.003, 6.2 and annex B).
use Rattle.std.specs.Prelude.{Result, ℕ, ◌≤◌, ◌<◌, ◌≡◌, true, false, List, length}
use Rattle.text.specs.declared.refusal.Refusal.{Refusal}
use Rattle.text.specs.Bytes.{all_digits}
use Rattle.text.specs.Reading.{read, refused, only}
use Rattle.at_command.specs.Gsn.{whole, is_imei}
use Rattle.at_command.specs.Response.{imei}
use Rattle.trial.specs.Answer.{response}
use Rattle.trial.specs.says.Line.{line_says, LineKeeps}
use Rattle.trial.specs.declared.Line.{Line}

pub record Equipment (l : List ℕ) (r : Result Line Refusal) : Type 0 where
  -- sixteen are a version number, whatever they are
  pub sixteen : length l ≡ 16 → line_says r ≡ read (response (imei (whole 16 true)))
  -- fifteen are an IMEI where the last is the check digit of the others, and else refused with 3
  pub fifteen : length l ≡ 15 → line_says r ≡ only (is_imei l) (read (response (imei (whole 15 false))))
  -- any other count is refused with 3; from nineteen on the line may be an ICCID
  pub other : 0 < length l → length l ≤ 18 → (length l ≡ 15 → ⊥) → (length l ≡ 16 → ⊥) → line_says r ≡ refused 3

-- of every answer that keeps the trial's contract
abbrev pub EquipmentRead : Type 0
EquipmentRead = (l : List ℕ) → all_digits l ≡ true → (r : Result Line Refusal) → LineKeeps l r → Equipment l r
