-- What a line is to the command that is open, and the command afterwards: the desk's table (document 01, "The desk (added)"), and before it the echo that a
-- command may await (document 02, CR 4).
use Rattle.std.specs.Prelude.{ℕ, Bool, true, false, cond, ◌&&◌, ◌||◌, List, [], ◌∷◌, drop, get_or, eqb}
use Rattle.std.proofs.Math.Option.{Option, none, some}
use Rattle.text.specs.Bytes.{same}
use Rattle.text.specs.Reading.{Reading, read, refused}
use Rattle.at_command.specs.Kind.{Kind, generic_ok, sim_error, place_of}
use Rattle.trial.specs.Sort.{Sort, response, unsolicited}
use Rattle.desk.specs.Cut.{bare}
use Rattle.desk.specs.Machine.{Ruled}
use Rattle.desk.specs.Lines.{Line, overlong, line}

-- ---- events

pub data Event : Type 0 where
  Overlong : Event
  Stray : ℕ → Event
  Failed : Event
  Taken : Event
  Done : Event
  Short : Event
  Unsolicited : Event
  Echo : Event

-- an event with its line; Overlong has none
pub record Seen : Type 0 where
  pub event : Event
  pub line : List ℕ

-- the number of an event, as records have it (document 02, CR 11), and of a stray
abbrev pub event_number : Event → ℕ
event_number Unsolicited = 1
event_number Taken = 2
event_number Done = 3
event_number Short = 4
event_number Failed = 5
event_number (Stray n) = 6
event_number Overlong = 7
event_number Echo = 8

abbrev pub stray_number : Event → ℕ
stray_number Unsolicited = 0
stray_number Taken = 0
stray_number Done = 0
stray_number Short = 0
stray_number Failed = 0
stray_number (Stray n) = n
stray_number Overlong = 0
stray_number Echo = 0

-- the event of a number, with a stray's number; 0 is none
abbrev pub event_at : ℕ → ℕ → Option Event
event_at e n = get_or (none ∷ some Unsolicited ∷ some Taken ∷ some Done ∷ some Short ∷ some Failed ∷ some (Stray n) ∷ some Overlong ∷ some Echo ∷ []) e none

-- ---- the command

-- The command is what it still awaits: the echo of what was sent, where it was opened in echo mode and the echo has not come, and the answers in order. No
-- answer is awaited where no command is open.
pub record Command : Type 0 where
  pub echo : Option (List ℕ)
  pub awaited : List Kind

abbrev pub awaiting : List Kind → Command
awaiting ks = record { echo = none; awaited = ks }

-- in echo mode, these bytes having been sent
abbrev pub echoing : List ℕ → List Kind → Command
echoing sent ks = record { echo = some sent; awaited = ks }

abbrev pub idle : Command
idle = awaiting []

abbrev pub any_awaited : List Kind → Bool
any_awaited [] = false
any_awaited (k ∷ ks) = true

abbrev pub is_open : Command → Bool
is_open c = any_awaited c.awaited

-- ---- the tests of the table's first column

-- two kinds are the same where their places in the order of trial are
abbrev pub same_kind : Kind → Kind → Bool
same_kind j k = eqb (place_of j) (place_of k)

abbrev pub is_refused : Reading Sort → Bool
is_refused (refused n) = true
is_refused (read s) = false

abbrev pub is_response : Kind → Reading Sort → Bool
is_response k (read (response j)) = same_kind j k
is_response k (read unsolicited) = false
is_response k (refused n) = false

abbrev pub is_next : List Kind → Reading Sort → Bool
is_next [] s = false
is_next (k ∷ ks) s = is_response k s

abbrev pub is_unsolicited : Reading Sort → Bool
is_unsolicited (read unsolicited) = true
is_unsolicited (read (response k)) = false
is_unsolicited (refused n) = false

-- the number of a refusal
abbrev pub number_of : Reading Sort → ℕ
number_of (refused n) = n
number_of (read s) = 0

-- ---- the table

-- an event, and the command after it
abbrev pub Ruling : Type 0
Ruling = Ruled Command Event

abbrev pub stays : Command → Event → Ruling
stays c e = record { command = c; event = e }

abbrev pub closes : Event → Ruling
closes e = record { command = idle; event = e }

-- Taken; if the last, Done, which closes
abbrev pub takes_next : List Kind → Ruling
takes_next awaited = record { command = awaiting (drop 1 awaited); event = cond (any_awaited (drop 1 awaited)) Taken Done }

-- The first row that fits decides.
unfoldable pub table : Command → Reading Sort → Ruling
table c s =
    -- refused
    cond (is_refused s) (stays c (Stray (number_of s)))
    -- SimError, command open
    (cond (is_open c && is_response sim_error s) (closes Failed)
    -- the next awaited answer
    (cond (is_next c.awaited s) (takes_next c.awaited)
    -- GenericOk, command open, another answer awaited next
    (cond (is_open c && is_response generic_ok s) (closes Short)
    -- unsolicited
    (cond (is_unsolicited s) (stays c Unsolicited)
    -- other, or any response when idle
    (stays c (Stray 0))))))

-- ---- the echo

-- the line equals the command that was sent, with or without its final CR
unfoldable pub is_echo : List ℕ → List ℕ → Bool
is_echo sent l = same l sent || same l (bare sent)

-- A line is judged by its sort and, while an echo is awaited, by its bytes; whoever sorts lines otherwise judges them otherwise.
module _ (sort_of : List ℕ → Reading Sort) where
  -- By the table, where no echo is awaited. Until the echo comes every other line is what it is to an idle desk: a response or an error is Stray 0.
  unfoldable pub ruling : Option (List ℕ) → List Kind → List ℕ → Ruling
  ruling none ks l = table (awaiting ks) (sort_of l)
  ruling (some sent) ks l =
      cond (is_echo sent l) (record { command = awaiting ks; event = Echo })
      (stays (echoing sent ks) (table idle (sort_of l)).event)

  unfoldable pub judge : Command → Line → Ruled Command Seen
  judge c overlong = record { command = c; event = record { event = Overlong; line = [] } }
  judge c (line l) =
      let r = ruling c.echo c.awaited l in
      record { command = r.command; event = record { event = r.event; line = l } }
