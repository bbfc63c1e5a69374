-- The loop's invariant: the bytes before `i` are the same. Assumes nothing.
use Rattle.std.proofs.Common.{◌≡◌, drop}
use Rattle.text.specs.Bytes.{starts_with}
use Rattle.text.proofs.bytes.starts_with.Given as goal

abbrev pub invariant-loop-i : goal.invariant-loop-i
invariant-loop-i l = starts_with l.p l.s ≡ starts_with (drop l.i l.p) (drop l.i l.s)
