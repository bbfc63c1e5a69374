-- The reader stands on the line, k fields on from its start; what is left of n goes down.
use Rattle.std.proofs.Common.{◌≡◌, ◌≤◌}
use Rattle.text.specs.Reader.{stands_at}
use Rattle.text.proofs.reader.nth_field.Given as goal

abbrev pub invariant-loop-k : goal.invariant-loop-k
invariant-loop-k l = record { line : l.r.line ≡ l.initial.r.line; place : l.r.at ≡ stands_at l._k l.initial.r.line.now; most : l._k ≤ l.n }
