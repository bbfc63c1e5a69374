-- The decimal digits, two ranges of letters, and the gaps between them.
-- What three answers repeat is the call of one lemma, `no_digit`, with bounds of each goal's own.
use Rattle.std.proofs.Common.{arith}
use Rattle.text.proofs.Digits.{digit_09, digit_capital, digit_small, told_no, no_digit}
use Rattle.text.proofs.number.digit_value.Goals as goal

pub returns-then-is_ascii_digit : goal.returns-then-is_ascii_digit
returns-then-is_ascii_digit c = digit_09 _ _ _ c.is_ascii_digit.ensures c.if-is_ascii_digit.true c.value.ensures

pub returns-in-65-to-70 : goal.returns-in-65-to-70
returns-in-65-to-70 c = digit_capital _ (omega arith) (omega arith)

pub returns-in-97-to-102 : goal.returns-in-97-to-102
returns-in-97-to-102 c = digit_small _ (omega arith) (omega arith)

pub returns-in_default : goal.returns-in_default
returns-in_default c = no_digit _ (search told_no) (λ a b. omega arith) (λ a b. omega arith)

pub returns-in_default-2 : goal.returns-in_default-2
returns-in_default-2 c = no_digit _ (search told_no) (λ a b. omega arith) (λ a b. omega arith)

pub returns-in_default-3 : goal.returns-in_default-3
returns-in_default-3 c = no_digit _ (search told_no) (λ a b. omega arith) (λ a b. omega arith)
