-- What is left of the chunk brings the desk to where the whole chunk brings it.
use Rattle.std.proofs.Common.{◌≡◌, length}
use Rattle.desk.specs.Desk.{after_bytes}
use Rattle.desk.specs.Says.{state_of}
use Rattle.showing.proofs.drain.Given as goal

abbrev pub invariant-loop-rest : goal.invariant-loop-rest
invariant-loop-rest g l = record {
  room : length l.text ≡ 256;
  left : after_bytes (state_of l.desk) l.rest ≡ after_bytes (state_of l.fn.desk) l.fn.chunk;
}

abbrev pub decreases-loop-rest : goal.decreases-loop-rest
decreases-loop-rest g l = length l.rest
