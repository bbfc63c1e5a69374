-- What a person with the capture in hand needs (document 02, CR 7): an event's ordinal is the number of lines that are not empty, up to and with its own, among the
-- bytes fed since the desk was opened or reset, or since it was new.
-- It is stated for any calls: specs/Calls.antt has the desk's own, each with its contract kept; proofs/Traced.antt proves it of them.
use Rattle.std.specs.Prelude.{ℕ, ◌≤◌, ◌≡◌, cond, List, [], ◌∷◌, ◌++◌, length, take, eqb}
use Rattle.std.proofs.Math.Option.{none, some}
use Rattle.desk.specs.Ordinal.{greatest, Numbered}
use Rattle.desk.specs.Lines.{Line, overlong, line, lines_of}
use Rattle.desk.specs.Judge.{Overlong, event_number, Seen, Command}
use Rattle.desk.specs.Desk.{State}
use Rattle.desk.specs.Demand.{Turn, Openings, Feeds}

-- the line that an event is of
abbrev pub own_line : Seen → Line
own_line x = cond (eqb (event_number x.event) (event_number Overlong)) overlong (line x.line)

-- these bytes end an event's line, after those before them
pub record Traced (before bytes : List ℕ) (x : Numbered Seen) : Type 0 where
  pub lines : lines_of (before ++ bytes) ≡ lines_of before ++ own_line x.tell ∷ []
  pub counts : length (lines_of (before ++ bytes)) ≤ greatest → x.ordinal ≡ length (lines_of (before ++ bytes))
  pub stays : greatest ≤ length (lines_of (before ++ bytes)) → x.ordinal ≡ greatest

module _ (Opens : Openings) (Resets : State → Type 0) (Fed : Feeds) where
  -- The desk has taken these bytes since it was opened, whatever it was before, or reset. A call that is refused leaves it as it was (proofs/Unchanged.antt here and in
  -- sim7000), and so may come anywhere between.
  pub data Since : List ℕ → State → Type 0 where
    opened : {s s' : State} {c : Command} → Opens s c s' → Since [] s'
    reset : {s : State} → Resets s → Since [] s
    fed : {bytes : List ℕ} {s s' : State} {t : Turn} → Since bytes s → Fed s t s' → Since (bytes ++ take t.taken t.chunk) s'

  abbrev pub EventsTraced : Type 0
  EventsTraced = (before : List ℕ) (s s' : State) (t : Turn) → Since before s → Fed s t s' → (x : Numbered Seen) → t.seen ≡ some x → Traced before (take t.taken t.chunk) x

  -- and no line that is not empty goes by without an event
  abbrev pub QuietTraced : Type 0
  QuietTraced = (before : List ℕ) (s s' : State) (t : Turn) → Since before s → Fed s t s' → t.seen ≡ none → lines_of (before ++ take t.taken t.chunk) ≡ lines_of before
