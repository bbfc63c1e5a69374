-- The calls that open and feed a desk, for demand 3 and for what the capture shows: in both modes, by value, of a lent desk, and of a desk that is lent in parts, each
-- with its contract kept and none refused. A session may mix them: each call finds the desk that the one before it left.
use Rattle.std.specs.Prelude.{ℕ, ◌≡◌, true, List, length, Result}
use Rattle.at_command.specs.says.Request.{encoded_says}
use Rattle.at_command.specs.declared.request.Request.{Request}
use Rattle.text.specs.declared.refusal.Refusal.{Refusal}
use Rattle.desk.specs.Judge as J
use Rattle.desk.specs.Desk.{State}
use Rattle.desk.specs.Says.{state_in, state_of, answer_says}
use Rattle.desk.specs.Keeps.{NewKeeps, ResetKeeps, FeedKeeps, FeedLentKeeps, FeedOnKeeps, command_by, OpenKeeps, OpenLentKeeps, OpenOnKeeps, OpenEchoOnKeeps}
use Rattle.desk.specs.Rules.{Mode, plain_mode, echo_mode}
use Rattle.desk.specs.Demand.{Turn, accepts, turn_of}
use Rattle.desk.specs.declared.State.{State as StateCode}
use Rattle.desk.specs.declared.Desk.{Desk}
use Rattle.desk.specs.declared.feed.Feed.{Feed}
use Rattle.desk.specs.declared.feed.Fed.{Fed}
use Rattle.desk.specs.declared.feed.FedParts.{FedParts}
use Rattle.desk.specs.declared.open.Opened.{Opened}
use Rattle.desk.specs.declared.open.OpenedParts.{OpenedParts}

pub data DeskOpens : State → J.Command → State → Type 0 where
  value : (mode : Mode) (d : Desk) (request : Request) (first second out : List ℕ) (r : Opened) (out' : List ℕ) → OpenKeeps mode d request first second out r out'
      → accepts (encoded_says r.answer) ≡ true → DeskOpens (state_of d) (command_by mode request first second) (state_of r.desk)
  lent : (mode : Mode) (d : Desk) (request : Request) (first second out : List ℕ) (d' : Desk) (r : Result ℕ Refusal) (out' : List ℕ)
      → OpenLentKeeps mode d request first second out d' r out'
      → accepts (encoded_says r) ≡ true → DeskOpens (state_of d) (command_by mode request first second) (state_of d')
  parts : (line : List ℕ) (state : StateCode) (sent : List ℕ) (request : Request) (first second out : List ℕ) (r : OpenedParts) (out' : List ℕ)
      → length line ≡ 257
      → OpenOnKeeps state request first second out r out' → accepts (encoded_says r.answer) ≡ true
      → DeskOpens (state_in line state sent) (command_by plain_mode request first second) (state_in line r.state sent)
  echo_parts : (line : List ℕ) (state : StateCode) (sent : List ℕ) (request : Request) (first second out : List ℕ) (r : OpenedParts) (sent' out' : List ℕ)
      → length line ≡ 257
      → OpenEchoOnKeeps state sent request first second out r sent' out' → accepts (encoded_says r.answer) ≡ true
      → DeskOpens (state_in line state sent) (command_by echo_mode request first second) (state_in line r.state sent')

pub data DeskFeeds : State → Turn → State → Type 0 where
  value : (d : Desk) (chunk text : List ℕ) (r : Fed) (text' : List ℕ) → FeedKeeps d chunk text r text' → accepts (answer_says r.answer) ≡ true
      → DeskFeeds (state_of d) (turn_of chunk (answer_says r.answer) text') (state_of r.desk)
  lent : (d : Desk) (chunk text : List ℕ) (d' : Desk) (r : Result Feed Refusal) (text' : List ℕ) → FeedLentKeeps d chunk text d' r text' → accepts (answer_says r) ≡ true
      → DeskFeeds (state_of d) (turn_of chunk (answer_says r) text') (state_of d')
  parts : (line : List ℕ) (state : StateCode) (sent chunk text : List ℕ) (r : FedParts) (line' text' : List ℕ)
      → FeedOnKeeps line state sent chunk text r line' text' → accepts (answer_says r.answer) ≡ true
      → DeskFeeds (state_in line state sent) (turn_of chunk (answer_says r.answer) text') (state_in line' r.state sent)

-- a desk that is new, and one that was reset, by value or lent
pub data DeskResets : State → Type 0 where
  new : (d : Desk) → NewKeeps d → DeskResets (state_of d)
  reset : (d d' : Desk) → ResetKeeps d d' → DeskResets (state_of d')
