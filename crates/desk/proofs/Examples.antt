-- The runs of specs/Examples.antt, computed.
use Prim.Native.Nat.{ℕ}
use mathlib.Core.Path.{◌≡◌, refl, ap}
use mathlib.Core.Bool.{false}
use mathlib.Core.Logic.{⊎_elim}
use mathlib.Core.Option.{none, some}
use mathlib.Core.List.{List, []}
use lib.ListN.{replicate}
use Rattle.text.specs.Bytes.{bytes, starts_with, same, ends_with, has}
use Rattle.text.specs.Copy.{least}
use Rattle.text.specs.Line.{line_check, checked}
use Rattle.text.specs.Number.{digit_value, digits_of, value_of, magnitude, unsigned, signed}
use Rattle.text.specs.Reading.{Reading, read, only, either, sized, need_else, mapped, first_of}
use Rattle.text.specs.Utf8.{char_size, behind, utf8}
use Rattle.at_command.specs.Ccid.{card_text, iccid_text}
use Rattle.at_command.specs.Cmgf.{cmgf_text}
use Rattle.at_command.specs.Cmgr.{cmgr_text}
use Rattle.at_command.specs.Cntp.{cntp_text}
use Rattle.at_command.specs.Cops.{cops_text}
use Rattle.at_command.specs.Cpsi.{cpsi_text}
use Rattle.at_command.specs.Csq.{level_of, csq_codes, csq_rest, csq_text}
use Rattle.at_command.specs.Generic.{ok_text, error_text, prompt_text, close_text}
use Rattle.at_command.specs.Gsn.{imei_text}
use Rattle.at_command.specs.Httptofs.{httptofs_text}
use Rattle.at_command.specs.Response.{readings}
use Rattle.at_command.specs.Request.{Asked, get_signal_quality, command_of}
use Rattle.at_command.specs.declared.request.Request.TheVariants.{GetSignalQuality}
use Rattle.unsolicited.specs.Gnss.{ugnsinf_text}
use Rattle.unsolicited.specs.Registration.{creg_text, cgreg_text, cereg_status, cereg_fields, cereg_text}
use Rattle.unsolicited.specs.Undated.{Undated}
use Rattle.unsolicited.specs.Urc.{urc_readings}
use Rattle.desk.specs.Cut.{bare, cut_one}
use Rattle.trial.specs.Answer.{all_readings, said_text, line_said}
use Rattle.trial.specs.Sort.{line_sort}
use Rattle.text.proofs.Begins.{begins_with}
use Rattle.text.proofs.Tests.{both, never}
use Rattle.trial.proofs.Equipment.{version_sort}
use Rattle.trial.proofs.Order.{undated_sort}
use Rattle.desk.specs.Machine.{tells, judge_all}
use Rattle.desk.specs.Ordinal.{capped, number}
use Rattle.desk.specs.Lines.{cutter}
use Rattle.desk.specs.Judge.{table, is_echo, ruling, judge}
use Rattle.desk.specs.Rules.{Mode, rules_of}
use Rattle.desk.specs.Desk.{State, desk, reset_state}
use Rattle.desk.specs.Keeps.{opened_by}
use Rattle.desk.specs.Examples.{csq, Examples, VersionTaken, UndatedStray}
use Rattle.desk.specs.Demand.{accepts}
use Rattle.desk.proofs.Commands.{echo_front}
use Rattle.desk.proofs.Demand.{begun_ruled, open_begins}
use Rattle.desk.proofs.Lives.{open_accepts}

pub examples : Examples
unfolding number capped least judge_all judge ruling is_echo table line_sort line_said said_text all_readings urc_readings checked line_check utf8 char_size behind tells cutter cut_one bare starts_with same ends_with has only either sized need_else mapped first_of readings ok_text error_text prompt_text close_text iccid_text card_text csq_text csq_rest csq_codes level_of cpsi_text cops_text cntp_text httptofs_text imei_text cmgf_text cmgr_text ugnsinf_text creg_text cgreg_text cereg_text cereg_fields cereg_status unsigned signed magnitude digits_of digit_value value_of
examples = record { shown = refl; echoed = refl; fault = refl; counted = refl }

pub version_taken : VersionTaken
unfolding judge ruling table
version_taken l all h = rw (version_sort l all h)

-- a line that begins with a plus is no echo
no_echo : (a : Asked) (l : List ℕ) → Undated l → is_echo (command_of a) l ≡ false
unfolding starts_with
no_echo a l u =
    let other : starts_with (bytes "A") l ≡ false = begins_with (λ (s : List ℕ). starts_with (bytes "A") s ≡ false) (bytes "+UGNSINF: ") l (λ t. refl) u.front in
    ⊎_elim (λ f. let g = echo_front a l f in never (cc)) (λ f. f) (both (is_echo (command_of a) l))

pub undated_stray : UndatedStray
unfolding judge ruling table
undated_stray l p u none ks = rw (undated_sort l p u)
undated_stray l p u (some a) ks = rw (no_echo a l u, undated_sort l p u)

-- A command is given up with a reset, and the next is opened: whatever the desk's past, it tells what these rules give.
pub after_reset : (mode : Mode) (s : State) (given : List ℕ) → tells desk (opened_by mode (reset_state s) GetSignalQuality [] [] (replicate 256 0)).state given ≡ rules_of (csq mode) given
after_reset mode s given =
    let opens = (open_accepts (reset_state s) (csq mode) (command_of get_signal_quality) (replicate 256 0) refl refl refl).0 in
    let begins = open_begins mode get_signal_quality (reset_state s) (replicate 256 0) (read (command_of get_signal_quality)) (ap (λ (a : Reading ℕ). accepts a) opens) in
    begun_ruled begins given
