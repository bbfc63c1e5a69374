-- The bases of the code, by their numbers.
use Rattle.std.specs.Prelude.{ℕ}
use Rattle.text.specs.declared.number.Base.{Base}
use Rattle.text.specs.declared.number.Base.TheVariants.{Decimal, Hexadecimal}

abbrev pub base_number : Base → ℕ
base_number Decimal = 10
base_number Hexadecimal = 16
