-- What the private functions of a feed say: a search from a tray, bytes laid in it, bytes with no LF among them, and what is made of a line.
use Rattle.std.specs.Prelude.{ℕ, ◌+◌, ◌-◌, ◌≤◌, ◌≡◌, Bool, false, List, [], ◌∷◌, ◌++◌, length, drop, get_or}
use Rattle.std.proofs.Math.Option.{Option, map}
use Rattle.text.specs.Reading.{Reading, read}
use Rattle.at_command.specs.Kind.{Kind}
use Rattle.desk.specs.Cut.{bare, long as too_long}
use Rattle.desk.specs.Machine.{Stop, feed, command_of, event_of}
use Rattle.desk.specs.Ordinal.{numbered}
use Rattle.desk.specs.Lines.{Line}
use Rattle.desk.specs.Lines as L
use Rattle.desk.specs.Judge.{Event, Ruling, takes_next}
use Rattle.desk.specs.Desk.{Tray, buffered, Kept, judge_kept, Heard, heard_of, text_of}

abbrev pub tray_of : List ℕ → ℕ → Tray
tray_of bytes len = record { bytes = bytes; len = len }

-- a search through a chunk, n bytes having been taken before it
abbrev pub found_after : ℕ → Tray → List ℕ → Stop Tray Line
found_after n t chunk = record { taken = n + (feed buffered t chunk).taken; tell = (feed buffered t chunk).tell; state = (feed buffered t chunk).state }

-- n bytes of chunk from at on are held behind the first len of the bytes, and the search goes on after them
pub record Filled (bytes : List ℕ) (len : ℕ) (chunk : List ℕ) (at n : ℕ) (after : List ℕ) : Type 0 where
  pub few : n ≤ length chunk - at
  pub fits : n ≤ 256 - len
  pub long : length after ≡ length bytes
  pub on : found_after at (tray_of bytes len) (drop at chunk) ≡ found_after (at + n) (tray_of after (len + n)) (drop (at + n) chunk)

-- b behind the first len of the bytes is no part of a prompt, nor is any byte after it: the line's first byte is no '>', or it is too late for one
pub record Plain (bytes : List ℕ) (len b : ℕ) : Type 0 where
  pub first : len ≡ 0 → b ≡ 62 → ⊥
  pub second : len ≡ 1 → get_or bytes 0 0 ≡ 62 → ⊥

-- r says whether a line of len bytes is past its length with b
pub record Past (len b : ℕ) (r : Bool) : Type 0 where
  pub few : r ≡ false → len ≤ 256
  pub is : (h : List ℕ) → length h ≡ len → r ≡ too_long (bare (h ++ b ∷ []))

-- of the answers that are awaited next is the first, and taken is what it is once it comes
pub record Next (awaited : List Kind) (next : Kind) (taken : Ruling) : Type 0 where
  pub first : awaited ≡ next ∷ drop 1 awaited
  pub takes : taken ≡ takes_next awaited

-- what a line is, and the command that is kept after it
abbrev pub Judges : Kept → List ℕ → Kept → Event → Type 0
Judges k l k' e = record { command = k'; event = numbered k.counted (record { event = e; line = l }) } ≡ judge_kept k (L.line l)

-- what a feed makes of what the search told, n bytes having been taken: the command, the answer, and the text buffer
pub record Tells (k : Kept) (told : Option Line) (n : ℕ) (text : List ℕ) (k' : Kept) (answer : Reading Heard) (text' : List ℕ) : Type 0 where
  pub commands : k' ≡ command_of k (map (judge_kept k) told)
  pub answers : answer ≡ read (heard_of n (event_of (map (judge_kept k) told)))
  pub texts : text' ≡ text_of (event_of (map (judge_kept k) told)) text
