-- The loop keeps: the text is UTF-8 exactly where what is left behind `i` chunks is.
use Rattle.std.proofs.Common.{◌≡◌, ◌*◌, drop}
use Rattle.text.specs.Utf8.{utf8}
use Rattle.text.proofs.utf8.behind_ascii.Given as goal

abbrev pub invariant-loop-i : goal.invariant-loop-i
invariant-loop-i l = utf8 l.s ≡ utf8 (drop (8 * l.i) l.s)
