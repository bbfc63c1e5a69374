-- The loops' invariants: the bytes that are passed, none of them an LF, are laid.
use Rattle.std.proofs.Common.{◌≡◌, ◌+◌, ◌*◌}
use Rattle.desk.proofs.Searching.{Passed}
use Rattle.desk.proofs.cutter.lay_to_lf.Given as goal

abbrev pub invariant-loop-k : goal.invariant-loop-k
invariant-loop-k l = (l.n ≡ 8 * l.k) × Passed l.initial.line l.len l.part l.n l.line

abbrev pub invariant-loop-b : goal.invariant-loop-b
invariant-loop-b l = (l.n ≡ l.initial.n + l.b-index) × Passed l.fn.line l.len l.part l.n l.line
