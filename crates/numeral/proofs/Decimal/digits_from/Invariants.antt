use Rattle.std.proofs.Common.{◌≤◌, ◌<◌, ◌^◌, IfSome}
use Rattle.numeral.proofs.DigitLoop.{Loop}
use Rattle.numeral.proofs.Decimal.digits_from.Given as goal

abbrev pub invariant-loop-c : goal.invariant-loop-c
invariant-loop-c l =
    record {
      digits : l.count ≤ 15;
      short : l.number < 10 ^ l.count;
      inside : IfSome l.front (λ front. front ≤ l.count);
      said : Loop l.text l.negative l.number l.count l.front l.c-index;
    }
