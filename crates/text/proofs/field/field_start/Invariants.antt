-- The loop's invariant: field n of the line is field n - k of what follows `at`. Assumes nothing.
use Rattle.std.proofs.Common.{◌≡◌, ◌+◌, ◌-◌, ◌≤◌, length, drop}
use Rattle.text.specs.Field.{fields, place_of}
use Rattle.text.proofs.field.field_start.Given as goal

abbrev pub invariant-loop-k : goal.invariant-loop-k
invariant-loop-k l = (l.at ≤ length l.s) × (place_of l.n (fields l.b l.s) ≡ l.at + place_of (l.n - l._k) (fields l.b (drop l.at l.s)))
