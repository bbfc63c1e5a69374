use Rattle.std.proofs.Common.{◌≡◌, true, false, ◌+◌, ◌*◌, ◌≤◌, length, drop}
use Rattle.text.specs.Bytes.{all_digits}
use Rattle.at_command.specs.Gsn.{luhn}
use Rattle.at_command.proofs.gsn.check_digit.Given as goal

abbrev pub invariant-loop-x : goal.invariant-loop-x
invariant-loop-x l = (all_digits (drop l.x-index l.s) ≡ true) × (l.sum ≤ 9 * l.x-index) × (length l.s ≤ 14) × (luhn false l.s ≡ l.sum + luhn l.odd (drop l.x-index l.s))
