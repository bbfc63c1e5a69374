-- What the answers of generic_response say on paper.
use Rattle.std.specs.Prelude.{◌≡◌, List, ℕ, Result}
use Rattle.text.specs.Line.{checked}
use Rattle.text.specs.Reading.{Reading, Mark, mark}
use Rattle.text.specs.says.Refusal.{reading_said}
use Rattle.text.specs.declared.refusal.Refusal.{Refusal}
use Rattle.at_command.specs.Generic.{Fault, generic, cme, cms, ok_text, error_text, prompt_text, close_text}
use Rattle.at_command.specs.declared.generic_response.GenericOk.{GenericOk}
use Rattle.at_command.specs.declared.generic_response.SimError.{SimError}
use Rattle.at_command.specs.declared.generic_response.SimError.TheVariants.{Generic, CmeErr, CmsErr}
use Rattle.at_command.specs.declared.generic_response.WritePrompt.{WritePrompt}
use Rattle.at_command.specs.declared.generic_response.CloseOk.{CloseOk}

abbrev pub ok_mark : GenericOk → Mark
ok_mark o = mark

abbrev pub ok_says : Result GenericOk Refusal → Reading Mark
ok_says = reading_said ok_mark

abbrev pub fault_says : SimError → Fault
fault_says Generic = generic
fault_says (CmeErr n) = cme n
fault_says (CmsErr n) = cms n

abbrev pub error_says : Result SimError Refusal → Reading Fault
error_says = reading_said fault_says

abbrev pub prompt_mark : WritePrompt → Mark
prompt_mark p = mark

abbrev pub prompt_says : Result WritePrompt Refusal → Reading Mark
prompt_says = reading_said prompt_mark

abbrev pub connection_says : CloseOk → ℕ
connection_says c = c.connection

abbrev pub close_says : Result CloseOk Refusal → Reading ℕ
close_says = reading_said connection_says

-- the contracts of the readers
abbrev pub GenericOkKeeps : List ℕ → Result GenericOk Refusal → Type 0
GenericOkKeeps line r = ok_says r ≡ checked ok_text line

abbrev pub SimErrorKeeps : List ℕ → Result SimError Refusal → Type 0
SimErrorKeeps line r = error_says r ≡ checked error_text line

abbrev pub WritePromptKeeps : List ℕ → Result WritePrompt Refusal → Type 0
WritePromptKeeps line r = prompt_says r ≡ checked prompt_text line

abbrev pub CloseOkKeeps : List ℕ → Result CloseOk Refusal → Type 0
CloseOkKeeps line r = close_says r ≡ checked close_text line
