-- The desk with its buffer and the command that it keeps, and its calls: what each answers, and what it leaves of the desk and of each lent buffer
-- (document 01, "The desk (added)" and "Refusal numbers", 8 to 10; document 02, CR 4 and 7).
use Rattle.std.specs.Prelude.{ℕ, suc, ◌+◌, Bool, true, false, cond, ◌||◌, List, [], ◌∷◌, ◌++◌, length, take, drop, replicate, ltb, eqb}
use Rattle.std.proofs.Math.Option.{Option, none, some}
use Rattle.text.specs.Reading.{Reading, read, refused}
use Rattle.at_command.specs.Kind.{Kind}
use Rattle.at_command.specs.Request.{written}
use Rattle.desk.specs.Cut.{View, dropping, held, bare, long, cut_one}
use Rattle.trial.specs.Sort.{line_sort}
use Rattle.desk.specs.Machine.{Machine, Stop, after, feed, Ruled, Judging, judged}
use Rattle.desk.specs.Ordinal.{capped, Numbered, numbered}
use Rattle.desk.specs.Lines.{Line, line_of}
use Rattle.desk.specs.Judge.{Event, Seen, Command, idle, is_open, judge}
use Rattle.desk.specs.Rules.{Plain}

-- ---- the buffer

-- The buffer's first len bytes are held of the line that is coming. Where len is past 257 the line is being dropped.
pub record Tray : Type 0 where
  pub bytes : List ℕ
  pub len : ℕ

abbrev pub view_of : Tray → View
view_of t = cond (ltb 257 t.len) dropping (held (take t.len t.bytes))

abbrev pub len_of : View → ℕ
len_of dropping = 258
len_of (held h) = length h

-- every byte of a line but its LF is laid behind those before it, up to the line's length; nothing else in the buffer changes
abbrev pub laid_bytes : View → List ℕ → ℕ → List ℕ
laid_bytes dropping s b = s
laid_bytes (held h) s b = cond (eqb b 10 || long (bare (h ++ b ∷ []))) s (h ++ b ∷ drop (length h + 1) s)

unfoldable pub lay_one : Tray → ℕ → Tray
lay_one t b = record { bytes = laid_bytes (view_of t) t.bytes b; len = len_of (cut_one (view_of t) b).view }

-- the cutter with its buffer
unfoldable pub buffered : Machine Tray Line
buffered t b = record { state = lay_one t b; tell = line_of (cut_one (view_of t) b).piece }

-- ---- the command, as the desk keeps it

-- Bytes, 210 of them in every desk, since no command is longer, of which so many at the front are the echo that is awaited; the answers awaited; and the lines counted
-- since the last accepted open or reset. No echo is awaited where the size is 0, or more than the bytes are.
pub record Kept : Type 0 where
  pub sent : List ℕ
  pub size : ℕ
  pub awaited : List Kind
  pub counted : ℕ

abbrev pub echo_in : List ℕ → ℕ → Option (List ℕ)
echo_in sent size = cond (eqb size 0) none (cond (ltb (length sent) size) none (some (take size sent)))

abbrev pub command_kept : Kept → Command
command_kept k = record { echo = echo_in k.sent k.size; awaited = k.awaited }

-- a command is kept in place of another: an echo that it awaits fills the front of the bytes, nothing else in them changes, and lines are counted anew
abbrev pub sent_in : Option (List ℕ) → List ℕ → List ℕ
sent_in none old = old
sent_in (some sent) old = sent ++ drop (length sent) old

abbrev pub size_in : Option (List ℕ) → ℕ
size_in none = 0
size_in (some sent) = length sent

abbrev pub keep : Command → Kept → Kept
keep c k = record { sent = sent_in c.echo k.sent; size = size_in c.echo; awaited = c.awaited; counted = 0 }

-- ---- the desk

-- the buffer, and the command that is kept
abbrev pub State : Type 0
State = Judging Tray Kept

-- what the buffer holds, and the command that is open
abbrev pub viewed : State → Plain
viewed s = record { wire = view_of s.wire; command = command_kept s.command }

-- a line is judged by the command that is kept, and counted; the bytes stay, and what is awaited after it is kept
unfoldable pub judge_kept : Kept → Line → Ruled Kept (Numbered Seen)
judge_kept k l =
    let r = judge line_sort (command_kept k) l in
    record {
      command = record { sent = k.sent; size = size_in r.command.echo; awaited = r.command.awaited; counted = capped (suc k.counted) };
      event = numbered k.counted r.event;
    }

abbrev pub desk : Machine State (Numbered Seen)
desk = judged judge_kept buffered

-- the desk after all these bytes, however they are fed
abbrev pub after_bytes : State → List ℕ → State
after_bytes s bytes = after desk s bytes

-- a new desk is idle and holds nothing, and no line is counted
abbrev pub new_state : State
new_state = record { wire = record { bytes = replicate 257 0; len = 0 }; command = record { sent = replicate 210 0; size = 0; awaited = []; counted = 0 } }

-- reset closes the command, awaits no echo, forgets an unfinished line and counts lines anew
abbrev pub reset_state : State → State
reset_state s = record { wire = record { bytes = s.wire.bytes; len = 0 }; command = keep idle s.command }

-- ---- feed

-- what a feed tells: how many bytes it took and, where an event came, the event, its line's ordinal, the bytes taken and the line's size
pub data Heard : Type 0 where
  quiet : ℕ → Heard
  event : Event → ℕ → ℕ → ℕ → Heard

abbrev pub heard_of : ℕ → Option (Numbered Seen) → Heard
heard_of n none = quiet n
heard_of n (some x) = event x.tell.event x.ordinal n (length x.tell.line)

-- the line fills the front of the text buffer
abbrev pub text_of : Option (Numbered Seen) → List ℕ → List ℕ
text_of none text = text
text_of (some x) text = x.tell.line ++ drop (length x.tell.line) text

pub record Fed : Type 0 where
  pub state : State
  pub answer : Reading Heard
  pub text : List ℕ

-- the chunk is taken through the first byte that yields an event, or whole
abbrev pub heard : Stop State (Numbered Seen) → List ℕ → Fed
heard f text = record { state = f.state; answer = read (heard_of f.taken f.tell); text = text_of f.tell text }

-- 10 with a text buffer under 256 bytes
unfoldable pub fed : State → List ℕ → List ℕ → Fed
fed s chunk text = cond (ltb (length text) 256) (record { state = s; answer = refused 10; text = text }) (heard (feed desk s chunk) text)

-- ---- open

-- nothing is held, and nothing is being dropped
abbrev pub is_clear : View → Bool
is_clear dropping = false
is_clear (held []) = true
is_clear (held (b ∷ bs)) = false

-- 8 while a command is open, 9 while an unfinished line is held or being dropped, else what the writer says
abbrev pub allowed : State → Reading (List ℕ) → Reading (List ℕ)
allowed s w = cond (is_open (command_kept s.command)) (refused 8) (cond (is_clear (view_of s.wire)) w (refused 9))

pub record Opened : Type 0 where
  pub state : State
  pub answer : Reading ℕ
  pub out : List ℕ

abbrev pub opened_with : State → Command → Reading (List ℕ) → List ℕ → Opened
opened_with s c (read w) out = record { state = record { wire = s.wire; command = keep c s.command }; answer = read (length w); out = written (read w) out }
opened_with s c (refused k) out = record { state = s; answer = refused k; out = out }

-- an open of this command, for which the writer gives these bytes or a refusal
unfoldable pub opened : State → Command → Reading (List ℕ) → List ℕ → Opened
opened s c w out = opened_with s c (allowed s w) out
