use mathlib.Core.Path.{sym, ◌∙◌}
use native.Mathlib.Omega.{arith}
use borrow.Author.Rules.{rules}
use Rattle.desk.proofs.Searching.{search_end, search_stop, search_on, found_stops}
use Rattle.desk.proofs.cutter.search.Goals as goal

pub loop-i-preserved : goal.loop-i-preserved
loop-i-preserved c = (
  omega arith,
  search rules,
  sym (search_on _ _ _ c.if-i-chunk.false c.push-pushed.ensures (found_stops _ _ ∙ sym c.is_some.ensures ∙ c.if-is_some.false)) ∙ sym c.fill-n.ensures.on ∙ c.loop-i.invariant.2,
)

pub returns-then-i-chunk : goal.returns-then-i-chunk
returns-then-i-chunk c = rw c.loop-i.invariant.1 (sym (search_end _ _ _ c.if-i-chunk.true) ∙ sym c.fill-n.ensures.on ∙ c.loop-i.invariant.2)

pub returns-then-is_some : goal.returns-then-is_some
returns-then-is_some c = sym (search_stop _ _ _ c.if-i-chunk.false c.push-pushed.ensures (found_stops _ _ ∙ sym c.is_some.ensures ∙ c.if-is_some.true)) ∙ sym c.fill-n.ensures.on ∙ c.loop-i.invariant.2
