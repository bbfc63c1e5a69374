-- Runs worked out by the rules with AT+CSQ open, for a reader of the papers. Document 01's: an unsolicited line comes before the two answers. And document 02's,
-- CR 4: the answers of an AT+CSQ that was given up come late, in both modes; and what Echo stands in place of. CR 7: which lines are counted. With AT+GSN open, CR 3: sixteen
-- digits are an answer. Last, CR 8: what a fix without a date is.
use Rattle.std.specs.Prelude.{ℕ, ◌≡◌, true, List, [], ◌∷◌, ◌++◌, length, replicate}
use Rattle.std.proofs.Math.Option.{Option, map}
use Rattle.text.specs.Bytes.{bytes, all_digits}
use Rattle.text.specs.Line.{line_check}
use Rattle.text.specs.Reading.{read}
use Rattle.at_command.specs.Kind.{Kind, generic_ok}
use Rattle.at_command.specs.Request.{Asked, get_signal_quality, get_imei, Numbers, command_of, encode_reading}
use Rattle.trial.specs.Sort.{line_sort}
use Rattle.unsolicited.specs.Undated.{Undated}
use Rattle.desk.specs.Ordinal.{Numbered}
use Rattle.desk.specs.Lines.{line}
use Rattle.desk.specs.Judge.{Event, Overlong, Taken, Done, Stray, Unsolicited, Echo, Seen, Command, awaiting, stays, table, is_echo, judge}
use Rattle.desk.specs.Rules.{Mode, plain_mode, echo_mode, command_for, rules_of}

abbrev pub csq : Mode → Command
csq mode = command_for mode get_signal_quality

-- document 01's run
abbrev pub input : List ℕ
input = bytes "\r\n+CEREG: 5\r\n\r\n+CSQ: 31,99\r\n\r\nOK\r\n"

-- the answers of an AT+CSQ that was given up, the echo of the next one as a modem sends it, and its answers
abbrev pub late : List ℕ
late = bytes "\r\n+CSQ: 5,0\r\n\r\nOK\r\nAT+CSQ\r\r\n\r\n+CSQ: 31,99\r\n\r\nOK\r\n"

-- empty lines, a prompt and a line past its length among the answers
abbrev pub uneven : List ℕ
uneven = bytes "\r\n\n+CSQ: 31,99\r\n\r\n> " ++ replicate 257 65 ++ bytes "\r\n\nOK\n"

abbrev pub seen : Event → List ℕ → Seen
seen e l = record { event = e; line = l }

abbrev pub nth : ℕ → Event → List ℕ → Numbered Seen
nth n e l = record { ordinal = n; tell = seen e l }

pub record Examples : Type 0 where
  pub shown : rules_of (csq plain_mode) input ≡ nth 1 Unsolicited (bytes "+CEREG: 5") ∷ nth 2 Taken (bytes "+CSQ: 31,99") ∷ nth 3 Done (bytes "OK") ∷ []
  -- in echo mode the late answers are strays, and the true ones are taken
  pub echoed : rules_of (csq echo_mode) late
      ≡ nth 1 (Stray 0) (bytes "+CSQ: 5,0") ∷ nth 2 (Stray 0) (bytes "OK") ∷ nth 3 Echo (bytes "AT+CSQ\r") ∷ nth 4 Taken (bytes "+CSQ: 31,99") ∷ nth 5 Done (bytes "OK") ∷ []
  -- in plain mode the same bytes show the fault: the old signal goes to the paper, and the true one is a stray
  pub fault : rules_of (csq plain_mode) late
      ≡ nth 1 Taken (bytes "+CSQ: 5,0") ∷ nth 2 Done (bytes "OK") ∷ nth 3 (Stray 3) (bytes "AT+CSQ\r") ∷ nth 4 (Stray 0) (bytes "+CSQ: 31,99") ∷ nth 5 (Stray 0) (bytes "OK") ∷ []
  -- empty lines are left out; a prompt is counted, and a line past its length
  pub counted : rules_of (csq plain_mode) uneven ≡ nth 1 Taken (bytes "+CSQ: 31,99") ∷ nth 2 (Stray 0) (bytes "> ") ∷ nth 3 Overlong [] ∷ nth 4 Done (bytes "OK") ∷ []

-- A line that equals a command which a writer gave, with its CR or without, is a Stray 3 to every command by the table: so Echo stands in place of nothing else.
abbrev pub EchoForStray : Type 0
EchoForStray = (a : Asked) (room : ℕ) (w : List ℕ) → Numbers a → encode_reading a room ≡ read w → (l : List ℕ) → is_echo w l ≡ true → (c : Command) → table c (line_sort l) ≡ stays c (Stray 3)

-- Every line of sixteen digits is an answer to AT+GSN: it is taken, and OK is awaited next. In echo mode this is the command after its echo.
abbrev pub VersionTaken : Type 0
VersionTaken = (l : List ℕ) → all_digits l ≡ true → length l ≡ 16 → judge line_sort (command_for plain_mode get_imei) (line l) ≡ record { command = awaiting (generic_ok ∷ []); event = seen Taken l }

-- a command that awaits the echo of a request, or no echo any more, and these answers, or none
abbrev pub awaiting_with : Option Asked → List Kind → Command
awaiting_with echo ks = record { echo = map command_of echo; awaited = ks }

-- A fix without a date is a Stray 13 to every command, and it stays as it was: idle, open in either mode, before the echo and after it.
abbrev pub UndatedStray : Type 0
UndatedStray = (l : List ℕ) → line_check l ≡ 0 → Undated l → (echo : Option Asked) (ks : List Kind)
    → judge line_sort (awaiting_with echo ks) (line l) ≡ record { command = awaiting_with echo ks; event = seen (Stray 13) l }
