-- The texts that are handed out, each of the line read anew (document 01, "The readers": "An answer that is an enum carries its start and end; one more call reads the line anew,
-- with that reader's refusals, and hands out the part, empty where the text is absent").
use Rattle.std.specs.Prelude.{List, ℕ}
use Rattle.std.proofs.Math.Option.{Option, none, some}
use Rattle.text.specs.Handed.{Handed, nowhere, handed}
use Rattle.text.specs.Handed as stands
use Rattle.text.specs.Line.{checked}
use Rattle.text.specs.Part.{Span}
use Rattle.at_command.specs.Cmgr.{cmgr_text}
use Rattle.at_command.specs.Cntp.{NetTime, cntp_text}
use Rattle.at_command.specs.Cops.{Name, in_line, in_fallback, Operator, cops_text}
use Rattle.at_command.specs.Gsn.{Identity, imei_text}

-- the IMEI, or the version number
unfoldable pub imei_handed : List ℕ → Handed
imei_handed s = handed (λ (i : Identity). stands.in_line i.digits) (checked imei_text s)

-- the operator's name: in the line, or in the text lent for it
unfoldable pub name_in : Name → Handed
name_in (in_line p) = stands.in_line p
name_in (in_fallback p) = stands.in_fallback p

unfoldable pub name_handed : List ℕ → List ℕ → List ℕ → Handed
name_handed s format_fallback name_fallback = handed (λ (o : Operator). name_in o.name) (checked (cops_text format_fallback name_fallback) s)

-- the network's time, absent where the line has none
unfoldable pub time_in : Option Span → Handed
time_in none = nowhere 0
time_in (some p) = stands.in_line p

unfoldable pub time_handed : List ℕ → Handed
time_handed s = handed (λ (t : NetTime). time_in t.time) (checked cntp_text s)

-- the sender of a message
unfoldable pub sender_handed : List ℕ → Handed
sender_handed s = handed stands.in_line (checked cmgr_text s)
