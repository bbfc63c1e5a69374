-- The loop's invariant: what goes at the end of the line goes at the end of its first `i` bytes. Assumes nothing.
use Rattle.std.proofs.Common.{◌≡◌, [], ◌∷◌, take}
use Rattle.text.specs.Part.{trim_end}
use Rattle.text.proofs.part.end_of.Given as goal

abbrev pub invariant-loop-i : goal.invariant-loop-i
invariant-loop-i l = trim_end (l.a ∷ l.b ∷ []) l.s ≡ trim_end (l.a ∷ l.b ∷ []) (take l.i l.s)
