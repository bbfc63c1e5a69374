-- The contract of each call of the desk: what it answers, and what it leaves of the desk and of each lent buffer. A primed name is what is lent, as it is after the call.
use Rattle.std.specs.Prelude.{ℕ, ◌≡◌, List, length, Result}
use Rattle.at_command.specs.Request.{encode_reading}
use Rattle.at_command.specs.says.Request.{asked}
use Rattle.at_command.specs.declared.request.Request.{Request}
use Rattle.text.specs.declared.refusal.Refusal.{Refusal}
use Rattle.desk.specs.Judge.{Command}
use Rattle.desk.specs.Rules.{Mode, plain_mode, echo_mode, command_for}
use Rattle.desk.specs.Desk as D
use Rattle.desk.specs.Desk.{new_state, reset_state, fed, opened}
use Rattle.desk.specs.Says.{state_in, state_of, fed_says, parts_says, opened_says, opened_parts_says, fed_lent_says, opened_lent_says}
use Rattle.desk.specs.declared.State.{State}
use Rattle.desk.specs.declared.Desk.{Desk}
use Rattle.desk.specs.declared.feed.Feed.{Feed}
use Rattle.desk.specs.declared.feed.Fed.{Fed}
use Rattle.desk.specs.declared.feed.FedParts.{FedParts}
use Rattle.desk.specs.declared.open.Opened.{Opened}
use Rattle.desk.specs.declared.open.OpenedParts.{OpenedParts}

-- `Desk::new`
abbrev pub NewKeeps : Desk → Type 0
NewKeeps r = state_of r ≡ new_state

-- `Desk::reset`; of `Desk::reset_lent` the desk behind the reference
abbrev pub ResetKeeps : Desk → Desk → Type 0
ResetKeeps d r = state_of r ≡ reset_state (state_of d)

-- ---- feed: by value, of a lent desk, and of a desk that is lent in parts

abbrev pub FeedKeeps : Desk → List ℕ → List ℕ → Fed → List ℕ → Type 0
FeedKeeps d chunk text r text' = fed_says r text' ≡ fed (state_of d) chunk text

abbrev pub FeedLentKeeps : Desk → List ℕ → List ℕ → Desk → Result Feed Refusal → List ℕ → Type 0
FeedLentKeeps d chunk text d' r text' = fed_lent_says d' r text' ≡ fed (state_of d) chunk text

-- a feed is lent the kept bytes to read: they are after it what they were
abbrev pub FeedOnKeeps : List ℕ → State → List ℕ → List ℕ → List ℕ → FedParts → List ℕ → List ℕ → Type 0
FeedOnKeeps line state sent chunk text r line' text' = parts_says r line' sent text' ≡ fed (state_in line state sent) chunk text

-- ---- open, likewise, in both modes

-- what an open of a request of the code awaits, with its texts
abbrev pub command_by : Mode → Request → List ℕ → List ℕ → Command
command_by mode request first second = command_for mode (asked request first second)

-- what an open of the request makes of a desk
abbrev pub opened_by : Mode → D.State → Request → List ℕ → List ℕ → List ℕ → D.Opened
opened_by mode s request first second out = opened s (command_by mode request first second) (encode_reading (asked request first second) (length out)) out

abbrev pub OpenKeeps : Mode → Desk → Request → List ℕ → List ℕ → List ℕ → Opened → List ℕ → Type 0
OpenKeeps mode d request first second out r out' = opened_says r out' ≡ opened_by mode (state_of d) request first second out

abbrev pub OpenLentKeeps : Mode → Desk → Request → List ℕ → List ℕ → List ℕ → Desk → Result ℕ Refusal → List ℕ → Type 0
OpenLentKeeps mode d request first second out d' r out' = opened_lent_says d' r out' ≡ opened_by mode (state_of d) request first second out

-- no open looks at the line's bytes, and the plain one not at the kept command's: it holds whatever they are
abbrev pub OpenOnKeeps : State → Request → List ℕ → List ℕ → List ℕ → OpenedParts → List ℕ → Type 0
OpenOnKeeps state request first second out r out' =
    (line sent : List ℕ) → length line ≡ 257
    → opened_parts_says r line sent out' ≡ opened_by plain_mode (state_in line state sent) request first second out

abbrev pub OpenEchoOnKeeps : State → List ℕ → Request → List ℕ → List ℕ → List ℕ → OpenedParts → List ℕ → List ℕ → Type 0
OpenEchoOnKeeps state sent request first second out r sent' out' =
    (line : List ℕ) → length line ≡ 257
    → opened_parts_says r line sent' out' ≡ opened_by echo_mode (state_in line state sent) request first second out
