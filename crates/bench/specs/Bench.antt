-- A feed of an idle desk: what the benchmark's call leaves in each part that it is lent.
use Rattle.std.specs.Prelude.{ℕ, ◌≡◌, List, [], ◌∷◌}
use Rattle.text.specs.Reading.{Reading, read, refused}
use Rattle.desk.specs.Desk.{State, new_state, Heard, quiet, event, Fed, fed}

pub record Left : Type 0 where
  pub answer : ℕ
  pub line : List ℕ
  pub len : ℕ
  pub text : List ℕ
  pub told : List ℕ

abbrev pub left : ℕ → List ℕ → ℕ → List ℕ → List ℕ → Left
left answer line len text told = record { answer = answer; line = line; len = len; text = text; told = told }

abbrev pub idle : List ℕ → ℕ → State
idle line len = record { wire = record { bytes = line; len = len }; command = new_state.command }

-- the desk's own feed: a refusal leaves all as before; else the answer is 1 with an event and 0 without one
abbrev pub left_by : Reading Heard → Fed → Left → Left
left_by (refused k) f before = record { answer = k; line = before.line; len = before.len; text = before.text; told = before.told }
left_by (read (quiet n)) f before = left 0 f.state.wire.bytes f.state.wire.len f.text (n ∷ 0 ∷ [])
left_by (read (event e ordinal n size)) f before = left 1 f.state.wire.bytes f.state.wire.len f.text (n ∷ size ∷ [])

unfoldable pub feeds : List ℕ → ℕ → List ℕ → List ℕ → List ℕ → Left
feeds line len chunk text told = left_by (fed (idle line len) chunk text).answer (fed (idle line len) chunk text) (left 0 line len text told)

-- the contract of `bench_feed`; a primed name is what is lent, as it is after the call
abbrev pub BenchFeedKeeps : List ℕ → ℕ → List ℕ → List ℕ → List ℕ → ℕ → List ℕ → ℕ → List ℕ → List ℕ → Type 0
BenchFeedKeeps line len chunk text told r line' len' text' told' = left r line' len' text' told' ≡ feeds line len chunk text told
