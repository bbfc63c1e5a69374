-- The desk in lent parts (document 01, "The desk (added)"; document 02, CR 4 and 7; docs/DECISIONS.md 28): the 257 bytes of the line that is coming, four numbers,
-- `state`, and the 210 bytes of what was sent. The first number counts the bytes held, and above 257 the line is being dropped; the second is the answers that the
-- command awaits; the third is the size of the echo that comes before them, and 0, or above 210, where none does; the fourth counts the lines since the last
-- accepted open or reset. Every number has a meaning, so no state is ill-formed, and zeros are a new desk.
use Rattle.std.specs.Prelude.{ℕ, ◌+◌, ◌-◌, ◌*◌, ◌/◌, ◌%◌, ◌≡◌, cond, List, [], ◌∷◌, ltb, eqb, get_or}
use Rattle.text.specs.Reading.{Reading, read, refused}
use Rattle.at_command.specs.Kind.{Kind, place_of, kind_at}
use Rattle.desk.specs.Ordinal.{capped}
use Rattle.desk.specs.Judge.{is_open, event_number, stray_number}
use Rattle.desk.specs.Desk.{State, command_kept, reset_state, Heard, quiet, event, Fed, fed}

-- ---- the command

-- the answers that a command still awaits: 0 is idle, 1 + k awaits kind k, 14 + 13 a + b awaits a, then b; above 182 it is idle
unfoldable pub awaited_in : ℕ → List Kind
awaited_in n =
    cond (eqb n 0) []
    (cond (ltb n 14) (kind_at (n - 1) ∷ [])
    (cond (ltb n 183) (kind_at ((n - 14) / 13) ∷ kind_at ((n - 14) % 13) ∷ []) []))

-- the number that a call leaves; no request awaits more than two answers
abbrev pub number_of : List Kind → ℕ
number_of [] = 0
number_of (a ∷ []) = 1 + place_of a
number_of (a ∷ b ∷ ks) = 14 + 13 * place_of a + place_of b

-- ---- the desk

-- a count above the greatest ordinal is read as that
abbrev pub desk_in : List ℕ → List ℕ → List ℕ → State
desk_in line state sent =
    record {
      wire = record { bytes = line; len = get_or state 0 0 };
      command = record { sent = sent; size = get_or state 2 0; awaited = awaited_in (get_or state 1 0); counted = capped (get_or state 3 0) };
    }

abbrev pub numbers_of : State → List ℕ
numbers_of s = s.wire.len ∷ number_of s.command.awaited ∷ s.command.size ∷ s.command.counted ∷ []

-- what `sim7000_reset` leaves in the numbers, whatever the bytes are
abbrev pub resets : List ℕ → List ℕ
resets state = numbers_of (reset_state (desk_in [] state []))

-- the contract of `sim7000_reset`; a primed name is what is lent, as it is after the call
abbrev pub ExportResetKeeps : List ℕ → List ℕ → Type 0
ExportResetKeeps state state' = state' ≡ resets state

-- the contract of `sim7000_is_open`: whether that desk's command is open, whatever the bytes are
abbrev pub ExportIsOpenKeeps : List ℕ → ℕ → Type 0
ExportIsOpenKeeps state r = r ≡ cond (is_open (command_kept (desk_in [] state []).command)) 1 0

-- ---- feed

-- what is told: the event's number, 0 without one; the bytes taken; the size of the line in the text buffer; a stray's number; the line's ordinal
abbrev pub told_of : Heard → List ℕ
told_of (quiet n) = 0 ∷ n ∷ 0 ∷ 0 ∷ 0 ∷ []
told_of (event e ordinal n size) = event_number e ∷ n ∷ size ∷ stray_number e ∷ ordinal ∷ []

-- the answer of `sim7000_feed`, and what it leaves in each lent part
pub record FeedLeft : Type 0 where
  pub answer : ℕ
  pub line : List ℕ
  pub state : List ℕ
  pub text : List ℕ
  pub told : List ℕ

-- a refusal leaves all as it was before, where the answer stands for none
abbrev pub left_by : Reading Heard → Fed → FeedLeft → FeedLeft
left_by (refused k) f before = record { answer = k; line = before.line; state = before.state; text = before.text; told = before.told }
left_by (read h) f before = record { answer = 0; line = f.state.wire.bytes; state = numbers_of f.state; text = f.text; told = told_of h }

abbrev pub feed_left : ℕ → List ℕ → List ℕ → List ℕ → List ℕ → FeedLeft
feed_left answer line state text told = record { answer = answer; line = line; state = state; text = text; told = told }

-- the desk's own feed, on the desk that the lent parts are
unfoldable pub feeds : List ℕ → List ℕ → List ℕ → List ℕ → List ℕ → List ℕ → FeedLeft
feeds line state sent chunk text told =
    left_by (fed (desk_in line state sent) chunk text).answer (fed (desk_in line state sent) chunk text) (feed_left 0 line state text told)

-- the contract of `sim7000_feed`, which is lent what was sent to read
abbrev pub ExportFeedKeeps : List ℕ → List ℕ → List ℕ → List ℕ → List ℕ → List ℕ → ℕ → List ℕ → List ℕ → List ℕ → List ℕ → Type 0
ExportFeedKeeps line state sent chunk text told r line' state' text' told' = feed_left r line' state' text' told' ≡ feeds line state sent chunk text told
