-- `search` meets its contract. The loop's invariant: what is left of the chunk, searched from what is held, ends as the whole search does.
use Prim.Native.Nat.{◌≤◌, ◌-◌}
use Rattle.std.specs.Prelude.{None}
use mathlib.Core.Path.{◌≡◌}
use lib.ListN.{length, drop}
use Rattle.desk.specs.Search.{tray_of, found_after}
use Rattle.desk.proofs.cutter.search.Given as goal

abbrev pub invariant-loop-i : goal.invariant-loop-i
invariant-loop-i l = (l.i ≤ length l.chunk) × (l.piece ≡ None) × (found_after l.i (tray_of l.line l.len) (drop l.i l.chunk) ≡ found_after 0 (tray_of l.initial.line l.start) l.chunk)

abbrev pub decreases-loop-i : goal.decreases-loop-i
decreases-loop-i l = length l.chunk - l.i
