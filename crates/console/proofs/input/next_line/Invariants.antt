-- What is searched begins at or behind the line's start.
use Rattle.std.proofs.Common.{◌≡◌, ◌≤◌, length}
use Rattle.console.proofs.input.next_line.Given as goal

abbrev pub invariant-loop : goal.invariant-loop
invariant-loop g l = (l.rest.start ≤ l.from) × (length l.buffer ≡ length l.initial.buffer)
