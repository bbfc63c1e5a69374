-- What the answers of cpsi say on paper.
use Rattle.std.specs.Prelude.{◌≡◌, List, ℕ, Result}
use Rattle.text.specs.Line.{checked}
use Rattle.text.specs.Reading.{Reading}
use Rattle.text.specs.says.Refusal.{reading_said}
use Rattle.text.specs.declared.refusal.Refusal.{Refusal}
use Rattle.at_command.specs.Cpsi.{System, cpsi_text}
use Rattle.at_command.specs.declared.cpsi.SystemMode.{SystemMode}
use Rattle.at_command.specs.declared.cpsi.SystemMode.TheVariants.{NoService, Gsm, LteCatM1, LteNbIot}
use Rattle.at_command.specs.declared.cpsi.OperationMode.{OperationMode}
use Rattle.at_command.specs.declared.cpsi.OperationMode.TheVariants.{Online, Offline, FactoryTest, Reset, LowPower}
use Rattle.at_command.specs.declared.cpsi.SystemInfo.{SystemInfo}

abbrev pub system_number : SystemMode → ℕ
system_number NoService = 0
system_number Gsm = 1
system_number LteCatM1 = 2
system_number LteNbIot = 3

abbrev pub operation_number : OperationMode → ℕ
operation_number Online = 0
operation_number Offline = 1
operation_number FactoryTest = 2
operation_number Reset = 3
operation_number LowPower = 4

abbrev pub info_says : SystemInfo → System
info_says i = record { system_mode = system_number i.system_mode; operation_mode = operation_number i.operation_mode }

abbrev pub says : Result SystemInfo Refusal → Reading System
says = reading_said info_says

-- the contract of its reader
abbrev pub SystemInfoKeeps : List ℕ → Result SystemInfo Refusal → Type 0
SystemInfoKeeps line r = says r ≡ checked cpsi_text line
