-- What the code's types say on paper.
use Rattle.std.specs.Prelude.{ℕ, List, take, Option, Some, None, Result}
use Rattle.std.proofs.Math.Option.{none, some}
use Rattle.std.proofs.Math.Option as M
use Rattle.text.specs.Reading.{Reading}
use Rattle.text.specs.says.Refusal.{reading_said}
use Rattle.text.specs.declared.refusal.Refusal.{Refusal}
use Rattle.at_command.specs.says.Request.{awaits_says, encoded_says}
use Rattle.at_command.specs.declared.request.Awaits.{Awaits}
use Rattle.desk.specs.Machine.{Step, Stop}
use Rattle.desk.specs.Lines as L
use Rattle.desk.specs.Lines.{Line}
use Rattle.desk.specs.Judge as J
use Rattle.desk.specs.Judge.{idle, awaiting, Ruling}
use Rattle.desk.specs.Rules as R
use Rattle.desk.specs.Rules.{plain_mode, echo_mode}
use Rattle.desk.specs.Desk as D
use Rattle.desk.specs.Desk.{Tray, Kept, quiet, event}
use Rattle.desk.specs.Search.{tray_of}
use Rattle.desk.specs.declared.Event.{Event}
use Rattle.desk.specs.declared.Event.TheVariants as E
use Rattle.desk.specs.declared.State.{State}
use Rattle.desk.specs.declared.Desk.{Desk}
use Rattle.desk.specs.declared.cutter.Piece.{Piece}
use Rattle.desk.specs.declared.cutter.Piece.TheVariants as P
use Rattle.desk.specs.declared.cutter.Pushed.{Pushed}
use Rattle.desk.specs.declared.cutter.Found.{Found}
use Rattle.desk.specs.declared.judge.Judged.{Judged}
use Rattle.desk.specs.declared.feed.Heard.{Heard}
use Rattle.desk.specs.declared.feed.Feed.{Feed}
use Rattle.desk.specs.declared.feed.Fed.{Fed}
use Rattle.desk.specs.declared.feed.FedParts.{FedParts}
use Rattle.desk.specs.declared.open.Mode.{Mode}
use Rattle.desk.specs.declared.open.Mode.TheVariants as O
use Rattle.desk.specs.declared.open.Opened.{Opened}
use Rattle.desk.specs.declared.open.OpenedParts.{OpenedParts}

-- the answers that a command still awaits, the echo left aside
abbrev pub command_says : Option Awaits → J.Command
command_says None = idle
command_says (Some a) = awaiting (awaits_says a)

abbrev pub mode_says : Mode → R.Mode
mode_says O.Plain = plain_mode
mode_says O.Echo = echo_mode

abbrev pub event_says : Event → J.Event
event_says E.Overlong = J.Overlong
event_says (E.Stray n) = J.Stray n
event_says E.Failed = J.Failed
event_says E.Taken = J.Taken
event_says E.Done = J.Done
event_says E.Short = J.Short
event_says E.Unsolicited = J.Unsolicited
event_says E.Echo = J.Echo

abbrev pub ruling_says : Judged → Ruling
ruling_says j = record { command = command_says j.command; event = event_says j.event }

-- what a search stops at, if anything: a line is so many of the buffer's first bytes
abbrev pub found_line : Option Piece → List ℕ → M.Option Line
found_line None bytes = none
found_line (Some P.Overlong) bytes = some L.overlong
found_line (Some (P.Line n)) bytes = some (L.line (take n bytes))

abbrev pub size_of : Option Piece → ℕ
size_of None = 0
size_of (Some P.Overlong) = 0
size_of (Some (P.Line n)) = n

-- the desk, whole and in its parts: what holds the line that is coming, and the command that is kept, with the bytes of its echo
abbrev pub kept_says : List ℕ → State → Kept
kept_says sent s = record { sent = sent; size = s.echo; awaited = (command_says s.command).awaited; counted = s.counted }

abbrev pub state_in : List ℕ → State → List ℕ → D.State
state_in line s sent = record { wire = record { bytes = line; len = s.len }; command = kept_says sent s }

abbrev pub state_of : Desk → D.State
state_of d = state_in d.line d.state d.sent

-- what a feed tells that took n bytes
abbrev pub heard_says : ℕ → Option Heard → D.Heard
heard_says n None = quiet n
heard_says n (Some h) = event (event_says h.event) h.ordinal n h.size

abbrev pub feed_says : Feed → D.Heard
feed_says f = heard_says f.taken f.heard

abbrev pub answer_says : Result Feed Refusal → Reading D.Heard
answer_says = reading_said feed_says

-- an answer, with the lent buffers as they are after the call
abbrev pub fed_says : Fed → List ℕ → D.Fed
fed_says r text = record { state = state_of r.desk; answer = answer_says r.answer; text = text }

abbrev pub parts_says : FedParts → List ℕ → List ℕ → List ℕ → D.Fed
parts_says r line sent text = record { state = state_in line r.state sent; answer = answer_says r.answer; text = text }

abbrev pub opened_says : Opened → List ℕ → D.Opened
opened_says r out = record { state = state_of r.desk; answer = encoded_says r.answer; out = out }

abbrev pub opened_parts_says : OpenedParts → List ℕ → List ℕ → List ℕ → D.Opened
opened_parts_says r line sent out = record { state = state_in line r.state sent; answer = encoded_says r.answer; out = out }

-- a call on a lent desk says what the call by value says, with the desk that stands behind the reference after it for the one handed back
abbrev pub fed_lent_says : Desk → Result Feed Refusal → List ℕ → D.Fed
fed_lent_says d r text = fed_says (record { desk = d; answer = r }) text

abbrev pub opened_lent_says : Desk → Result ℕ Refusal → List ℕ → D.Opened
opened_lent_says d r out = opened_says (record { desk = d; answer = r }) out

-- a byte, and a search, with the buffer as it is afterwards
abbrev pub pushed_says : Pushed → List ℕ → Step Tray Line
pushed_says r bytes = record { state = tray_of bytes r.len; tell = found_line r.piece bytes }

abbrev pub found_says : Found → List ℕ → Stop Tray Line
found_says r bytes = record { taken = r.taken; tell = found_line r.piece bytes; state = tray_of bytes r.len }
