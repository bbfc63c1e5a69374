-- The exported calls that open, in both modes, and feed a desk, for demand 3 and for what the capture shows, as the crate desk states them: each with its contract kept
-- and none refused. A session may mix them with the calls of that crate: each finds the desk that the one before it left.
use Rattle.std.specs.Prelude.{ℕ, ◌≡◌, List, length, take, get_or, replicate}
use Rattle.std.proofs.Math.Option.{Option, some, map}
use Rattle.at_command.specs.Request.{Asked}
use Rattle.desk.specs.Ordinal.{Numbered}
use Rattle.desk.specs.Judge.{Event, Seen, event_at, Command}
use Rattle.desk.specs.Desk.{State}
use Rattle.desk.specs.Rules.{plain_mode, echo_mode, command_for}
use Rattle.desk.specs.Demand.{Turn}
use Rattle.desk.specs.Calls.{DeskOpens, DeskFeeds, DeskResets}
use Rattle.sim7000.specs.Parts.{desk_in, ExportResetKeeps, ExportFeedKeeps}
use Rattle.sim7000.specs.Command.{asked_by, ExportOpenKeeps, ExportOpenEchoKeeps}

-- what the caller finds in `told` and in its text buffer: the event of the number, with its line and the line's ordinal
abbrev pub seen_in : List ℕ → List ℕ → Option (Numbered Seen)
seen_in told text =
    map (λ (e : Event). record { ordinal = get_or told 4 0; tell = record { event = e; line = take (get_or told 2 0) text } }) (event_at (get_or told 0 0) (get_or told 3 0))

abbrev pub turn_in : List ℕ → List ℕ → List ℕ → Turn
turn_in chunk told text = record { chunk = chunk; taken = get_or told 1 0; seen = seen_in told text }

pub data ExportOpens : State → Command → State → Type 0 where
  own : {s s' : State} {c : Command} → DeskOpens s c s' → ExportOpens s c s'
  exported : (line state sent : List ℕ) (request number code : ℕ) (first second out : List ℕ) (size r : ℕ) (state' out' : List ℕ) (size' : ℕ) (a : Asked) → length line ≡ 257
      → asked_by request number code first second ≡ some a → ExportOpenKeeps state request number code first second out size r state' out' size' → r ≡ 0
      → ExportOpens (desk_in line state sent) (command_for plain_mode a) (desk_in line state' sent)
  echo_exported : (line state sent : List ℕ) (request number code : ℕ) (first second out : List ℕ) (size r : ℕ) (state' sent' out' : List ℕ) (size' : ℕ) (a : Asked) → length line ≡ 257
      → asked_by request number code first second ≡ some a → ExportOpenEchoKeeps state sent request number code first second out size r state' sent' out' size' → r ≡ 0
      → ExportOpens (desk_in line state sent) (command_for echo_mode a) (desk_in line state' sent')

pub data ExportFeeds : State → Turn → State → Type 0 where
  own : {s s' : State} {t : Turn} → DeskFeeds s t s' → ExportFeeds s t s'
  exported : (line state sent chunk text told : List ℕ) (r : ℕ) (line' state' text' told' : List ℕ) → ExportFeedKeeps line state sent chunk text told r line' state' text' told' → r ≡ 0
      → ExportFeeds (desk_in line state sent) (turn_in chunk told' text') (desk_in line' state' sent)

-- zeros are a new desk, and what a reset leaves begins anew
pub data ExportResets : State → Type 0 where
  own : {s : State} → DeskResets s → ExportResets s
  zeros : (line sent : List ℕ) → ExportResets (desk_in line (replicate 4 0) sent)
  exported : (line state sent state' : List ℕ) → ExportResetKeeps state state' → ExportResets (desk_in line state' sent)
