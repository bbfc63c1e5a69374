-- The loop keeps: the text is UTF-8 exactly where what is left of it goes on from the state. The rules of both tables are computed once.
use Rattle.text.proofs.Utf8Walk.{At}
use Rattle.text.proofs.utf8.all_chars.Given as goal

abbrev pub invariant-loop-x : goal.invariant-loop-x
invariant-loop-x l = At l.s l.state l.x-index
