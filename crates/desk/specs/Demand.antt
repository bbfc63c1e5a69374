-- Demand 3: after an open, in either mode, what a desk shows depends on the bytes alone, the ordinals too (document 02, CR 7); and complete unsolicited lines slipped in,
-- or before an echo any complete lines but the echo itself (document 02, CR 4), change no other event but its ordinal.
-- It is stated for any openings and feeds: specs/Calls.antt has the desk's own calls, each with its contract kept; proofs/Demand.antt proves it of them.
use Rattle.std.specs.Prelude.{ℕ, ◌≡◌, Bool, true, false, List, [], ◌∷◌, ◌++◌, take}
use Rattle.std.proofs.Math.Option.{Option, none, some}
use Rattle.text.specs.Reading.{Reading, read, refused}
use Rattle.at_command.specs.Kind.{Kind}
use Rattle.desk.specs.Cut.{held}
use Rattle.trial.specs.Sort.{unsolicited, line_sort}
use Rattle.desk.specs.Machine.{shown}
use Rattle.desk.specs.Ordinal.{Numbered, unnumbered}
use Rattle.desk.specs.Lines.{Line, overlong, line, lines_of, Whole}
use Rattle.desk.specs.Judge.{Unsolicited, Seen, Command, echoing, idle, is_echo}
use Rattle.desk.specs.Rules.{events_of, rules_of, Plain, plain, fresh}
use Rattle.desk.specs.Desk.{State, Heard, quiet, event}
use Rattle.desk.specs.Slips.{Leaves, Script, end, byte, slip, own_bytes, all_bytes}

-- ---- a call as its caller has it

-- a feed that is not refused: the chunk that is lent, how many of its bytes are taken, and the event with its line and the line's ordinal, if one came
pub record Turn : Type 0 where
  pub chunk : List ℕ
  pub taken : ℕ
  pub seen : Option (Numbered Seen)

-- the calls by which a desk may be opened, and those by which it may be fed: the desk before, what the call is for or shows, the desk after it
abbrev pub Openings : Type 1
Openings = State → Command → State → Type 0

abbrev pub Feeds : Type 1
Feeds = State → Turn → State → Type 0

-- the call is not refused
abbrev pub accepts : {A : Type 0} → Reading A → Bool
accepts (read a) = true
accepts (refused k) = false

-- an answer, with the text buffer as it is after the call: the line is at its front
abbrev pub taken_by : Reading Heard → ℕ
taken_by (refused k) = 0
taken_by (read (quiet n)) = n
taken_by (read (event e ordinal n size)) = n

abbrev pub seen_by : Reading Heard → List ℕ → Option (Numbered Seen)
seen_by (refused k) text = none
seen_by (read (quiet n)) text = none
seen_by (read (event e ordinal n size)) text = some (record { ordinal = ordinal; tell = record { event = e; line = take size text } })

abbrev pub turn_of : List ℕ → Reading Heard → List ℕ → Turn
turn_of chunk answer text = record { chunk = chunk; taken = taken_by answer; seen = seen_by answer text }

-- ---- what a caller gave and saw

unfoldable pub bytes_of : List Turn → List ℕ
bytes_of [] = []
bytes_of (t ∷ ts) = take t.taken t.chunk ++ bytes_of ts

unfoldable pub seen_of : List Turn → List (Numbered Seen)
seen_of [] = []
seen_of (t ∷ ts) = shown t.seen (seen_of ts)

-- ---- bytes slipped in

-- none of the lines equals the echo
abbrev pub NoEcho : List ℕ → List Line → Type 0
NoEcho sent [] = Unit {0}
NoEcho sent (overlong ∷ ls) = NoEcho sent ls
NoEcho sent (line l ∷ ls) = (is_echo sent l ≡ false) × NoEcho sent ls

-- What may be slipped in where nothing is held: straight after the open and after an LF, as the demand says, and after a prompt. A complete unsolicited line; and
-- in echo mode, while the echo is awaited, whole lines of any kind, none of them equal to it.
pub data May (s : Plain) (w : List ℕ) : Type 0 where
  unasked : (l : List ℕ) → s.wire ≡ held [] → Whole w → lines_of w ≡ line l ∷ [] → line_sort l ≡ read unsolicited → May s w
  early : (sent : List ℕ) → s.wire ≡ held [] → Whole w → s.command.echo ≡ some sent → NoEcho sent (lines_of w) → May s w

-- the events of what is slipped in: Unsolicited for each line of the one kind, and for the other what an idle desk gives
unfoldable pub slipped_in : {s : Plain} → Script plain May s → List Seen
slipped_in end = []
slipped_in (byte b k) = slipped_in k
slipped_in (slip w (unasked l start whole is sort) k) = record { event = Unsolicited; line = l } ∷ slipped_in k
slipped_in (slip w (early sent start whole awaited other) k) = events_of idle w ++ slipped_in k

-- ---- sessions

module _ (Fed : Feeds) where
  -- feeds one after the other, each of the desk as the one before it left it
  pub data Run : State → List Turn → Type 0 where
    ends : {s : State} → Run s []
    feeds : {s s' : State} {t : Turn} {ts : List Turn} → Fed s t s' → Run s' ts → Run s (t ∷ ts)

module _ (Opens : Openings) (Fed : Feeds) where
  -- a desk with any past, an open of the command that is not refused, and feeds after it
  pub record Session (c : Command) : Type 0 where
    pub before : State
    pub opened : State
    pub opens : Opens before c opened
    pub turns : List Turn
    pub runs : Run Fed opened turns

  -- Two sessions of one command whose feeds took the same bytes show the same, ordinals and all, namely what the rules give for these bytes.
  abbrev pub Demand3 : Type 0
  Demand3 =
      (c : Command) (a b : Session c) → bytes_of a.turns ≡ bytes_of b.turns
      → (seen_of a.turns ≡ seen_of b.turns) × (seen_of a.turns ≡ rules_of c (bytes_of a.turns))

  -- Where the second session's bytes are the first's with such bytes slipped in, the events of these, struck out, leave equal lists, the ordinals left out.
  abbrev pub Demand3Slipped : Type 0
  Demand3Slipped =
      (c : Command) (a b : Session c) (k : Script plain May (fresh c)) → bytes_of a.turns ≡ own_bytes plain May k → bytes_of b.turns ≡ all_bytes plain May k
      → Leaves (unnumbered (seen_of b.turns)) (slipped_in k) (unnumbered (seen_of a.turns))

  -- What echo mode adds, with no script in sight: whole lines w, slipped in after whole lines `before`, no line of either equal to the echo, change no other event
  -- but its ordinal.
  abbrev pub Demand3Early : Type 0
  Demand3Early =
      (sent : List ℕ) (ks : List Kind) (a b : Session (echoing sent ks)) (before w rest : List ℕ) → Whole before → NoEcho sent (lines_of before) → Whole w → NoEcho sent (lines_of w)
      → bytes_of a.turns ≡ before ++ rest → bytes_of b.turns ≡ before ++ (w ++ rest) → Leaves (unnumbered (seen_of b.turns)) (events_of idle w) (unnumbered (seen_of a.turns))

  -- From this desk on there is a session of the command that takes these bytes, whatever they are.
  abbrev pub Lives : State → Command → Type 0
  Lives s c = (bytes : List ℕ) → (a : Session c) × ((a.before ≡ s) × (bytes_of a.turns ≡ bytes))
