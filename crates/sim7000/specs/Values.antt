-- The 20 numbers in which a line's values are handed over (docs/DECISIONS.md 26): the reader's number, its values, and zeros. A text is its start and its end in the line, a
-- float its 32 bits, and what may be missing 1 and its values, or 0 and zeros.
use Rattle.std.specs.Prelude.{ℕ, ◌≡◌, cond, List, [], ◌∷◌, ◌++◌, Float, take, replicate}
use Rattle.std.proofs.Math.Option.{Option, none, some}
use Rattle.text.specs.Part.{Span}
use Rattle.text.specs.Reading.{Reading, read, refused}
use Rattle.numeral.specs.Bits.{bits_of}
use Rattle.at_command.specs.Httptofs.{or_zero}
use Rattle.at_command.specs.Generic.{Fault, generic, cme, cms}
use Rattle.at_command.specs.Cops.{Name, in_line, in_fallback}
use Rattle.at_command.specs.Response.{Response, ok, error, prompt, close_ok, iccid, signal, system, operator, time, download, imei, format, message}
use Rattle.unsolicited.specs.Date.{Date}
use Rattle.unsolicited.specs.Gnss.{Fix, Report, not_enabled, no_fix, fix}
use Rattle.unsolicited.specs.Urc.{Unsolicited, gnss, registration}
use Rattle.trial.specs.Answer.{Said, response, unsolicited, line_said}
use Rattle.sim7000.specs.Reader.{reader_of}

-- ---- what may be missing

abbrev pub there : {A : Type 0} → Option A → ℕ
there none = 0
there (some a) = 1

abbrev pub bits_or0 : Option Float → ℕ
bits_or0 none = 0
bits_or0 (some x) = bits_of x

abbrev pub start_or0 : Option Span → ℕ
start_or0 none = 0
start_or0 (some p) = p.start

abbrev pub end_or0 : Option Span → ℕ
end_or0 none = 0
end_or0 (some p) = p.end

-- ---- the responses

-- the kind of an error, 0 generic, 1 CME, 2 CMS, and its code, 0 for a generic one
abbrev pub fault_kind : Fault → ℕ
fault_kind generic = 0
fault_kind (cme n) = 1
fault_kind (cms n) = 2

abbrev pub fault_code : Fault → ℕ
fault_code generic = 0
fault_code (cme n) = n
fault_code (cms n) = n

-- where the operator's name stands: 0 in the line, 1 in the fallback text
abbrev pub name_in : Name → ℕ
name_in (in_line p) = 0
name_in (in_fallback p) = 1

abbrev pub name_span : Name → Span
name_span (in_line p) = p
name_span (in_fallback p) = p

abbrev pub response_values : Response → List ℕ
response_values (ok x) = []
response_values (error f) = fault_kind f ∷ fault_code f ∷ []
response_values (prompt x) = []
response_values (close_ok connection) = connection ∷ []
response_values (iccid c) = c.country ∷ c.issuer ∷ c.account ∷ []
response_values (signal s) = there s.strength ∷ bits_or0 s.strength ∷ there s.quality ∷ bits_or0 s.quality ∷ []
response_values (system s) = s.system_mode ∷ s.operation_mode ∷ []
response_values (operator o) = o.mode ∷ o.format ∷ name_in o.name ∷ (name_span o.name).start ∷ (name_span o.name).end ∷ []
response_values (time t) = t.code ∷ there t.time ∷ start_or0 t.time ∷ end_or0 t.time ∷ []
response_values (download d) = d.status ∷ d.size ∷ []
response_values (imei i) = i.digits.start ∷ i.digits.end ∷ cond i.is_version_number 1 0 ∷ []
response_values (format n) = n ∷ []
response_values (message sender) = sender.start ∷ sender.end ∷ []

-- ---- the unsolicited

abbrev pub date_values : Date → List ℕ
date_values d = d.year ∷ d.month ∷ d.day ∷ d.hour ∷ d.minute ∷ d.second ∷ []

-- in the order of the line's fields
abbrev pub fix_values : Fix → List ℕ
fix_values f =
    date_values f.date_time
    ++ bits_of f.latitude
    ∷ bits_of f.longitude
    ∷ bits_of f.altitude
    ∷ bits_of f.speed_over_ground
    ∷ bits_of f.course_over_ground
    ∷ bits_of f.hdop
    ∷ bits_of f.pdop
    ∷ bits_of f.vdop
    ∷ f.sat_gps_in_view
    ∷ f.sat_gnss_used
    ∷ f.sat_glonass_used
    ∷ f.signal_noise_ratio
    ∷ []

-- 0 not enabled, 1 no fix, 2 a fix
abbrev pub report_values : Report → List ℕ
report_values not_enabled = 0 ∷ []
report_values (no_fix in_view) = 1 ∷ there in_view ∷ or_zero in_view ∷ []
report_values (fix f) = 2 ∷ fix_values f

abbrev pub urc_values : Unsolicited → List ℕ
urc_values (gnss r) = report_values r
urc_values (registration r) = r.status ∷ there r.lac ∷ or_zero r.lac ∷ there r.ci ∷ or_zero r.ci ∷ []

-- ---- the line

abbrev pub values_of : Said → List ℕ
values_of (response r) = response_values r
values_of (unsolicited u) = urc_values u

-- 20 numbers: these, and zeros
abbrev pub padded : List ℕ → List ℕ
padded l = take 20 (l ++ replicate 20 0)

abbrev pub line_values : Said → List ℕ
line_values s = padded (reader_of s ∷ values_of s)

-- the answer of `sim7000_read_line`, 0 or the refusal, and what it leaves in `values`, which a refusal leaves as it was
pub record ReadLeft : Type 0 where
  pub answer : ℕ
  pub values : List ℕ

abbrev pub read_left : ℕ → List ℕ → ReadLeft
read_left answer values = record { answer = answer; values = values }

abbrev pub handed_over : Reading Said → List ℕ → ReadLeft
handed_over (read s) before = read_left 0 (line_values s)
handed_over (refused k) before = read_left k before

abbrev pub ReadLineKeeps : List ℕ → List ℕ → ℕ → List ℕ → Type 0
ReadLineKeeps line before r after = read_left r after ≡ handed_over (line_said line) before
