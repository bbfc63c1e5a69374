-- What a response line says, and the thirteen readers in the Rust's order of trial (document 01, "What the port takes"; mod.rs).
use Rattle.std.specs.Prelude.{ℕ, List, [], ◌∷◌}
use Rattle.text.specs.Condition.{nth_reading}
use Rattle.text.specs.Part.{Span}
use Rattle.text.specs.Reading.{Reading, Mark, mapped, first_of}
use Rattle.at_command.specs.Ccid.{Card, iccid_text}
use Rattle.at_command.specs.Cmgf.{cmgf_text}
use Rattle.at_command.specs.Cmgr.{cmgr_text}
use Rattle.at_command.specs.Cntp.{NetTime, cntp_text}
use Rattle.at_command.specs.Cops.{Operator, cops_text}
use Rattle.at_command.specs.Cpsi.{System, cpsi_text}
use Rattle.at_command.specs.Csq.{Signal, csq_text}
use Rattle.at_command.specs.Kind.{Kind, generic_ok, sim_error, write_prompt, signal_quality, system_info, operator_info, network_time, download_info, sms_message_format, sms_message}
use Rattle.at_command.specs.Kind as K
use Rattle.at_command.specs.Generic.{Fault, ok_text, error_text, prompt_text, close_text}
use Rattle.at_command.specs.Gsn.{Identity, imei_text}
use Rattle.at_command.specs.Httptofs.{Download, httptofs_text}
use Rattle.text.specs.Bytes.{bytes}

pub data Response : Type 0 where
  ok : Mark → Response
  error : Fault → Response
  prompt : Mark → Response
  close_ok : ℕ → Response
  iccid : Card → Response
  signal : Signal → Response
  system : System → Response
  operator : Operator → Response
  time : NetTime → Response
  download : Download → Response
  imei : Identity → Response
  format : ℕ → Response
  message : Span → Response

-- what kind of response it is
abbrev pub kind_of : Response → Kind
kind_of (ok x) = generic_ok
kind_of (error x) = sim_error
kind_of (prompt x) = write_prompt
kind_of (close_ok x) = K.close_ok
kind_of (iccid x) = K.iccid
kind_of (signal x) = signal_quality
kind_of (system x) = system_info
kind_of (operator x) = operator_info
kind_of (time x) = network_time
kind_of (download x) = download_info
kind_of (imei x) = K.imei
kind_of (format x) = sms_message_format
kind_of (message x) = sms_message

-- what each of the thirteen says of a line, in the order of trial, which uses the fallback texts "0" and "" for +COPS
unfoldable pub readings : List ℕ → List (Reading Response)
readings s =
    mapped ok (ok_text s)
    ∷ mapped error (error_text s)
    ∷ mapped prompt (prompt_text s)
    ∷ mapped close_ok (close_text s)
    ∷ mapped iccid (iccid_text s)
    ∷ mapped signal (csq_text s)
    ∷ mapped system (cpsi_text s)
    ∷ mapped operator (cops_text (bytes "0") (bytes "") s)
    ∷ mapped time (cntp_text s)
    ∷ mapped download (httptofs_text s)
    ∷ mapped imei (imei_text s)
    ∷ mapped format (cmgf_text s)
    ∷ mapped message (cmgr_text s)
    ∷ []

-- the first that accepts; else 4 if one said 4; else 3
unfoldable pub response_text : List ℕ → Reading Response
response_text s = first_of 3 (readings s)

-- what one of them says, by its place in that order; past the last, a refusal with 3
unfoldable pub reading_at : ℕ → List ℕ → Reading Response
reading_at place s = nth_reading place (readings s)
