-- The requests by number, and what a call that writes a command leaves (document 01, "Refusal numbers"; document 02, CR 4; of a number that is no request,
-- docs/DECISIONS.md 27).
use Rattle.std.specs.Prelude.{ℕ, ◌≡◌, cond, List, [], ◌∷◌, leb, length, get_or}
use Rattle.std.proofs.Math.Option.{Option, none, some}
use Rattle.text.specs.Reading.{Reading, read, refused}
use Rattle.at_command.specs.Request.{Asked, get_signal_quality, show_iccid, get_imei, get_operator_info, set_manual_operator, set_automatic_operator, get_system_info, synchronize_network_time, execute, download_to_file_system, get_sms_message_format, set_sms_message_format, read_sms, encode_reading, written}
use Rattle.desk.specs.Desk.{Opened, opened}
use Rattle.desk.specs.Rules.{Mode, plain_mode, echo_mode, command_for}
use Rattle.sim7000.specs.Parts.{desk_in, numbers_of}

-- ---- the requests

-- a message format is 0 or 1
unfoldable pub format_asked : ℕ → Option Asked
format_asked code = cond (leb code 1) (some (set_sms_message_format code)) none

-- counted from 0, each with the numbers and the texts that it has of those lent
abbrev pub requests : ℕ → ℕ → List ℕ → List ℕ → List (Option Asked)
requests number code first second =
    some get_signal_quality
    ∷ some show_iccid
    ∷ some get_imei
    ∷ some get_operator_info
    ∷ some (set_manual_operator first)
    ∷ some set_automatic_operator
    ∷ some get_system_info
    ∷ some (synchronize_network_time first number code)
    ∷ some execute
    ∷ some (download_to_file_system first second)
    ∷ some get_sms_message_format
    ∷ format_asked code
    ∷ some (read_sms code)
    ∷ []

-- the request of that number; none where there is no such request
unfoldable pub asked_by : ℕ → ℕ → ℕ → List ℕ → List ℕ → Option Asked
asked_by request number code first second = get_or (requests number code first second) request none

-- ---- write

-- the answer of `sim7000_write_command`, 0 or the refusal, and what it leaves in `out` and `size`
pub record WriteLeft : Type 0 where
  pub answer : ℕ
  pub out : List ℕ
  pub size : ℕ

abbrev pub write_left : ℕ → List ℕ → ℕ → WriteLeft
write_left answer out size = record { answer = answer; out = out; size = size }

abbrev pub write_leaves : Reading (List ℕ) → List ℕ → ℕ → WriteLeft
write_leaves (read command) out size = write_left 0 (written (read command) out) (length command)
write_leaves (refused k) out size = write_left k out size

-- 3 where there is no such request, before all else: document 01, whose requests are types, has no number for it; else what the writer says. A refusal
-- leaves both as they were.
unfoldable pub writes : Option Asked → List ℕ → ℕ → WriteLeft
writes none out size = write_left 3 out size
writes (some a) out size = write_leaves (encode_reading a (length out)) out size

-- the contract of `sim7000_write_command`; a primed name is what is lent, as it is after the call
abbrev pub ExportWriteKeeps : ℕ → ℕ → ℕ → List ℕ → List ℕ → List ℕ → ℕ → ℕ → List ℕ → ℕ → Type 0
ExportWriteKeeps request number code first second out size r out' size' = write_left r out' size' ≡ writes (asked_by request number code first second) out size

-- ---- open, in both modes

-- the answer of an exported open, and what it leaves in each part, lent or not
pub record OpenLeft : Type 0 where
  pub answer : ℕ
  pub state : List ℕ
  pub sent : List ℕ
  pub out : List ℕ
  pub size : ℕ

abbrev pub open_left : ℕ → List ℕ → List ℕ → List ℕ → ℕ → OpenLeft
open_left answer state sent out size = record { answer = answer; state = state; sent = sent; out = out; size = size }

abbrev pub open_leaves : Reading ℕ → Opened → List ℕ → List ℕ → List ℕ → ℕ → OpenLeft
open_leaves (read n) o state sent out size = open_left 0 (numbers_of o.state) o.state.command.sent o.out n
open_leaves (refused k) o state sent out size = open_left k state sent out size

-- the desk's own open, on the desk that the lent parts are
abbrev pub opened_on : Mode → Asked → List ℕ → List ℕ → List ℕ → List ℕ → Opened
opened_on mode a line state sent out = opened (desk_in line state sent) (command_for mode a) (encode_reading a (length out)) out

-- 3 where there is no such request, before 8 and 9 too; else what the desk says. A refusal leaves all as it was.
unfoldable pub opens : Mode → Option Asked → List ℕ → List ℕ → List ℕ → List ℕ → ℕ → OpenLeft
opens mode none line state sent out size = open_left 3 state sent out size
opens mode (some a) line state sent out size = open_leaves (opened_on mode a line state sent out).answer (opened_on mode a line state sent out) state sent out size

-- the contract of `sim7000_open`: no open looks at the line's bytes, and this one not at what was sent, so it holds whatever they are
abbrev pub ExportOpenKeeps : List ℕ → ℕ → ℕ → ℕ → List ℕ → List ℕ → List ℕ → ℕ → ℕ → List ℕ → List ℕ → ℕ → Type 0
ExportOpenKeeps state request number code first second out size r state' out' size' =
    (line sent : List ℕ) → length line ≡ 257 → open_left r state' sent out' size' ≡ opens plain_mode (asked_by request number code first second) line state sent out size

-- the contract of `sim7000_open_echo`, which is lent what was sent and keeps the command there
abbrev pub ExportOpenEchoKeeps : List ℕ → List ℕ → ℕ → ℕ → ℕ → List ℕ → List ℕ → List ℕ → ℕ → ℕ → List ℕ → List ℕ → List ℕ → ℕ → Type 0
ExportOpenEchoKeeps state sent request number code first second out size r state' sent' out' size' =
    (line : List ℕ) → length line ≡ 257 → open_left r state' sent' out' size' ≡ opens echo_mode (asked_by request number code first second) line state sent out size
