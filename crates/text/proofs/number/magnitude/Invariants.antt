-- The loop keeps n, the worth of the digits passed and at most max; what n gives with the bytes that are left is the magnitude of all.
use Rattle.std.proofs.Common.{◌≡◌, ◌≤◌, drop}
use Rattle.text.specs.Number.{magnitude}
use Rattle.text.proofs.Digits.{rest}
use Rattle.text.proofs.number.magnitude.Given as goal

abbrev pub invariant-loop-x : goal.invariant-loop-x
invariant-loop-x l = (l.n ≤ l.max) × (magnitude l.radix l.max l.s ≡ rest l.radix l.max l.n (drop l.x-index l.s))
