-- What document 02's CR 2 buys: an operator number reaches the modem as five or six digits between the writer's own quotes, or not at all.
use Rattle.std.specs.Prelude.{ℕ, ◌≡◌, ◌⊎◌, true, cond, List, ◌++◌, ltb, length, take}
use Rattle.text.specs.Bytes.{bytes, count_of, all_digits}
use Rattle.text.specs.Reading.{Reading, read, refused}
use Rattle.at_command.specs.Request.{set_manual_operator, command_of, operator_number, fitting, encode_reading, Writes}

-- AT+COPS=1,2,", five or six digits, a quote and CR, and nothing else (TS 27.007, 7.3); no quote stands among the digits, so the two around them are a pair
pub record OperatorCommand (plmn command : List ℕ) : Type 0 where
  pub is : command ≡ bytes "AT+COPS=1,2,\"" ++ plmn ++ bytes "\"\r"
  pub size : (length plmn ≡ 5) ⊎ (length plmn ≡ 6)
  pub digits : all_digits plmn ≡ true
  pub unquoted : count_of 34 plmn ≡ 0

-- what may come of a manual operator: such a command in front of the buffer, or a refusal, which is never 6
abbrev pub OperatorAnswer : List ℕ → Reading ℕ → List ℕ → Type 0
OperatorAnswer plmn (read n) after = OperatorCommand plmn (take n after)
OperatorAnswer plmn (refused k) after = k ≡ 6 → ⊥

-- nothing else comes of its writer, by the contract
abbrev pub OperatorsWritten : Type 0
OperatorsWritten = (plmn before : List ℕ) (answer : Reading ℕ) (after : List ℕ) → Writes (set_manual_operator plmn) before answer after → OperatorAnswer plmn answer after

-- and in full: 5 above six bytes, else 12 for all but five or six digits, else 7 or the command
abbrev pub OperatorsAnswered : Type 0
OperatorsAnswered =
    (plmn : List ℕ) (room : ℕ)
    → encode_reading (set_manual_operator plmn) room
    ≡ cond (ltb 6 (length plmn)) (refused 5)
    (cond (operator_number plmn) (fitting (command_of (set_manual_operator plmn)) room)
    (refused 12))
