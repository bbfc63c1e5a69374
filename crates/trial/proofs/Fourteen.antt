-- The fourteen lines, computed.
use lib.Ieee.{mul, div, of_int, round}
use Rattle.text.specs.Bytes.{starts_with, same, ends_with, has}
use Rattle.text.specs.Part.{part_of, trim_place}
use Rattle.text.specs.Number.{digit_value, digits_of, value_of, magnitude, unsigned, signed}
use Rattle.text.specs.Utf8.{char_size, behind, utf8}
use Rattle.text.specs.Line.{line_check, checked}
use Rattle.text.specs.Reading.{only, either, need_else, sized, fitting, mapped, first_of}
use Rattle.numeral.specs.Numeral as N
use Rattle.numeral.specs.Numeral.{numeral_text, float_of}
use Rattle.at_command.specs.Ccid.{iccid_text, card_text}
use Rattle.at_command.specs.Cmgf.{cmgf_text}
use Rattle.at_command.specs.Cmgr.{cmgr_text}
use Rattle.at_command.specs.Cntp.{cntp_text}
use Rattle.at_command.specs.Cops.{cops_text, cops_fields, field_or, name_of}
use Rattle.at_command.specs.Cpsi.{cpsi_text}
use Rattle.at_command.specs.Csq.{csq_text, csq_rest, csq_codes, level_of, strength_of, dbm_of}
use Rattle.at_command.specs.Generic.{ok_text, error_text, prompt_text, close_text}
use Rattle.at_command.specs.Gsn.{imei_text}
use Rattle.at_command.specs.Httptofs.{httptofs_text, download_of}
use Rattle.at_command.specs.Response.{readings}
use Rattle.unsolicited.specs.Registration.{creg_text, cgreg_text, cereg_text, registration_fields, registration_at, cereg_fields, cereg_status, hex_in, status_of}
use Rattle.unsolicited.specs.Gnss.{ugnsinf_text, ugnsinf_fields}
use Rattle.unsolicited.specs.Urc.{urc_readings}
use Rattle.trial.specs.Answer.{all_readings, said_text, line_said}
use Rattle.trial.specs.Fourteen.{rows}
use Rattle.trial.specs.says.Fourteen.{All}

pub fourteen : All rows
unfolding rows line_said said_text all_readings urc_readings readings
    checked line_check utf8 behind char_size first_of mapped only either need_else sized fitting starts_with same ends_with has part_of trim_place unsigned signed magnitude digits_of digit_value value_of
    ok_text error_text prompt_text close_text iccid_text card_text csq_text csq_rest csq_codes level_of strength_of dbm_of mul div of_int round cpsi_text cops_text cops_fields field_or name_of cntp_text
    httptofs_text download_of imei_text cmgf_text cmgr_text
    ugnsinf_text ugnsinf_fields creg_text cgreg_text cereg_text registration_fields registration_at cereg_fields cereg_status hex_in status_of numeral_text float_of N.decimal_of N.behind_sign N.unsigned
fourteen =
    (λ r k. k, (λ r k. k, (λ r k. k, (λ r k. k, (λ r k. k, (λ r k. k, (λ r k. k, (λ r k. k, (λ r k. k, (λ r k. k, (λ r k. k, (λ r k. k, (λ r k. k, (λ r k. k, (λ r k. k, (λ r k. k, (λ r k. k, (λ r k. k, (λ r k. k, (λ r k. k, (λ r k. k, (λ r k. k, (λ r k. k, (λ r k. k, (λ r k. k.exact, (λ r k. k, tt))))))))))))))))))))))))))
