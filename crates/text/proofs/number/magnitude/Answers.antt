use Rattle.std.proofs.Common.{sym, arith, eqb-true}
use borrow.Author.Tests.{eqb-false}
use Rattle.text.proofs.Digits.{digits_none, digits_start, digits_miss, digits_bad, digits_over, digits_over', digits_turn, digits_end, next_le}
use Rattle.text.proofs.number.magnitude.Goals as goal

pub returns-then-is_empty : goal.returns-then-is_empty
returns-then-is_empty c = digits_none _ _ _ (eqb-true _ _ (sym c.if-is_empty.ensures))

pub loop-x-init : goal.loop-x-init
loop-x-init c = (omega arith, digits_start _ _ _ (eqb-false _ _ (sym c.if-is_empty.ensures)))

pub returns-in_err-digit_value : goal.returns-in_err-digit_value
returns-in_err-digit_value c =
    rw (c.from_residual.ensures, ← c.number-radix.ensures.0) (digits_miss _ _ _ _ _ c.loop-x.invariant.1 (omega arith) c.in_err-digit_value.ensures)

pub returns-then-radix-d : goal.returns-then-radix-d
returns-then-radix-d c = rw (← c.number-radix.ensures.0) (digits_bad _ _ _ _ _ c.loop-x.invariant.1 (omega arith) _ c.number-radix.ensures.1 (rw (sym c.from-d.ensures) at c.in_ok-digit_value.ensures) (omega arith))

pub returns-then-limit-n : goal.returns-then-limit-n
returns-then-limit-n c = rw (← c.number-radix.ensures.0) (digits_over _ _ _ _ _ c.loop-x.invariant.1 (omega arith) _ c.number-radix.ensures.1 (rw (sym c.from-d.ensures) at c.in_ok-digit_value.ensures) (omega arith) (omega arith))

pub returns-then-max-m : goal.returns-then-max-m
returns-then-max-m c = rw (← c.number-radix.ensures.0) (digits_over' _ _ _ _ _ c.loop-x.invariant.1 (omega arith) _ c.number-radix.ensures.1 (rw (sym c.from-d.ensures) at c.in_ok-digit_value.ensures) (omega arith) (omega arith))

pub loop-x-preserved : goal.loop-x-preserved
loop-x-preserved c = (
  next_le _ _ _ _ c.number-radix.ensures.1 (omega arith) (omega arith),
  digits_turn _ _ _ _ _ c.loop-x.invariant.1 (omega arith) _ c.number-radix.ensures.1 (rw (sym c.from-d.ensures) at c.in_ok-digit_value.ensures) (omega arith),
)

pub returns : goal.returns
returns c = rw (← c.number-radix.ensures.0) (digits_end _ _ _ _ _ c.loop-x.invariant.0 c.loop-x.invariant.1 (omega arith))
