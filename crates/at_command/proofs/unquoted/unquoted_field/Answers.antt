-- The three sums have one bound. Each goal is of a record of its own, so a lemma for the three
-- would be handed all that the bound is of, one by one, and be no plainer.
use borrow.Author.Rules.{rules}
use Prim.Native.Nat.{◌+◌, ◌-◌, ◌≤◌}
use lib.ListN.{length}
use native.Mathlib.Omega.{arith}
use Rattle.at_command.proofs.unquoted.Laws.{in_line_lem, unquoted_at}
use Rattle.at_command.proofs.unquoted.unquoted_field.Goals as goal

pub overflow_add-start : goal.overflow_add-start
overflow_add-start c = let h : c.field_start-at.result + (c.trim_start-lead.result + length c.trim-left.result.now) ≤ length c.args.line.now - 7 = search (rules, in_line_lem) in omega arith

pub overflow_add-start-2 : goal.overflow_add-start-2
overflow_add-start-2 c = let h : c.field_start-at.result + (c.trim_start-lead.result + length c.trim-left.result.now) ≤ length c.args.line.now - 7 = search (rules, in_line_lem) in omega arith

pub overflow_add-result : goal.overflow_add-result
overflow_add-result c = let h : c.field_start-at.result + (c.trim_start-lead.result + length c.trim-left.result.now) ≤ length c.args.line.now - 7 = search (rules, in_line_lem) in omega arith

pub returns : goal.returns
returns c = search (rules, unquoted_at)
