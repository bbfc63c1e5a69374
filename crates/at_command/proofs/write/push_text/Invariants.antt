-- What the loop has seen of the text is laid.
use Rattle.std.proofs.Common.{◌≡◌, ◌≤◌, ◌++◌, take}
use Rattle.at_command.specs.Piece.{escaped}
use Rattle.at_command.proofs.write.push_text.Given as goal

abbrev pub invariant-loop-x : goal.invariant-loop-x
invariant-loop-x l = (l.end ≤ 210) × (take l.end l.bytes ≡ take 210 (take l.len l.initial.bytes ++ escaped (take l.x-index l.piece)))
