-- The loop's invariant: the count of what is passed. Assumes nothing.
use Rattle.std.proofs.Common.{◌≡◌, eqb, count_by, take}
use Rattle.text.proofs.bytes.count_few.Given as goal

abbrev pub invariant-loop-x : goal.invariant-loop-x
invariant-loop-x l = l.n ≡ count_by (λ x. eqb x l.b) (take l.x-index l.s)
