use Rattle.std.proofs.Common.{arith}
use Rattle.console.proofs.Laws.{behind}
use Rattle.console.proofs.input.keep.Goals as goal

pub overflow_add-place : goal.overflow_add-place
overflow_add-place c = omega (arith, behind _ _ _ _ c.part-kept.ensures)

pub copy_within-requires-clause-in_bounds : goal.copy_within-requires-clause-in_bounds
copy_within-requires-clause-in_bounds c = omega (arith, behind _ _ _ _ c.part-kept.ensures)
