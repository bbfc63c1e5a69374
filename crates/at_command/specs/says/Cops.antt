-- What the answers of cops say on paper.
use Rattle.std.specs.Prelude.{◌≡◌, List, ℕ, Result}
use Rattle.text.specs.Line.{checked}
use Rattle.text.specs.Reading.{Reading}
use Rattle.text.specs.says.Refusal.{reading_said}
use Rattle.text.specs.declared.refusal.Refusal.{Refusal}
use Rattle.text.specs.says.Part.{place_says}
use Rattle.at_command.specs.Cops.{Name, in_line, in_fallback, Operator, cops_text}
use Rattle.at_command.specs.declared.cops.OperatorMode.{OperatorMode}
use Rattle.at_command.specs.declared.cops.OperatorMode.TheVariants.{Automatic, Manual, ManualDeregister, ManualAutomatic}
use Rattle.at_command.specs.declared.cops.OperatorFormat.{OperatorFormat}
use Rattle.at_command.specs.declared.cops.OperatorFormat.TheVariants.{Long, Short, Numeric}
use Rattle.text.specs.declared.handed.TextAt.{TextAt}
use Rattle.text.specs.declared.handed.TextAt.TheVariants.{InLine, InFallback}
use Rattle.at_command.specs.declared.cops.OperatorInfo.{OperatorInfo}

abbrev pub mode_number : OperatorMode → ℕ
mode_number Automatic = 0
mode_number Manual = 1
mode_number ManualDeregister = 2
mode_number ManualAutomatic = 4

abbrev pub format_number : OperatorFormat → ℕ
format_number Long = 0
format_number Short = 1
format_number Numeric = 2

abbrev pub name_says : TextAt → Name
name_says (InLine p) = in_line (place_says p)
name_says (InFallback p) = in_fallback (place_says p)

abbrev pub info_says : OperatorInfo → Operator
info_says i = record { mode = mode_number i.mode; format = format_number i.format; name = name_says i.operator_name }

abbrev pub says : Result OperatorInfo Refusal → Reading Operator
says = reading_said info_says

-- the contract of its reader
abbrev pub OperatorInfoKeeps : List ℕ → List ℕ → List ℕ → Result OperatorInfo Refusal → Type 0
OperatorInfoKeeps line format_fallback name_fallback r = says r ≡ checked (cops_text format_fallback name_fallback) line
