-- The decimal that the code has scanned, on paper.
use Rattle.std.specs.Prelude as Std
use Rattle.std.proofs.Math.Option.{Option}
use Rattle.text.specs.says.Refusal.{option_mapped}
use Rattle.numeral.specs.Numeral as paper
use Rattle.numeral.specs.declared.Decimal.{Decimal}

abbrev pub decimal_said : Decimal → paper.Decimal
decimal_said d = record { negative = d.negative; number = d.number; places = d.places }

abbrev pub said : Std.Option Decimal → Option paper.Decimal
said o = option_mapped decimal_said o
