-- A line that was cut lies in its buffer.
use Rattle.std.specs.Prelude.{ℕ, ◌≡◌, ◌-◌, ◌≤◌, List, length}
use Rattle.console.specs.declared.input.Next.{Next}
use Rattle.console.specs.declared.input.Turn.{Turn}

abbrev pub NextLineKeeps : Next → List ℕ → Type 0
NextLineKeeps next buffer = (next.line.start ≤ next.line.end) × (next.line.end ≤ length buffer)

-- and a turn leaves one less of those that may follow
abbrev pub NextTurnKeeps : Turn → Turn → List ℕ → Type 0
NextTurnKeeps turn next buffer = (next.left ≤ turn.left - 1) × (next.line.start ≤ next.line.end) × (next.line.end ≤ length buffer)

-- the buffer that lines are cut in has as many bytes as before, whether or not a read or a write failed
abbrev pub KeepsSize : List ℕ → List ℕ → Type 0
KeepsSize before after = length after ≡ length before
