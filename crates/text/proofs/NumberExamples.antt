-- Worked examples of document 01's rules for integers, each computed.
use Rattle.std.proofs.Common.{◌≡◌, pos, neg_ℤ, refl}
use mathlib.Core.Option.{none, some}
use Rattle.text.specs.Bytes.{bytes, starts_with}
use Rattle.text.specs.Number.{digit_value, digits_of, value_of, magnitude, unsigned, signed}

minus_zero : unsigned 10 255 (bytes "-0") ≡ none
unfolding starts_with digit_value digits_of value_of magnitude unsigned
minus_zero = refl

only_plus : unsigned 10 255 (bytes "+") ≡ none
unfolding starts_with digit_value digits_of value_of magnitude unsigned
only_plus = refl

zeros : unsigned 10 255 (bytes "007") ≡ some 7
unfolding starts_with digit_value digits_of value_of magnitude unsigned
zeros = refl

over_255 : unsigned 10 255 (bytes "256") ≡ none
unfolding starts_with digit_value digits_of value_of magnitude unsigned
over_255 = refl

plus_255 : unsigned 10 255 (bytes "+255") ≡ some 255
unfolding starts_with digit_value digits_of value_of magnitude unsigned
plus_255 = refl

minus_zero_signed : signed 10 2147483647 (bytes "-0") ≡ some (pos 0)
unfolding starts_with digit_value digits_of value_of magnitude signed unsigned
minus_zero_signed = refl

least : signed 10 2147483647 (bytes "-2147483648") ≡ some (neg_ℤ (pos 2147483648))
unfolding starts_with digit_value digits_of value_of magnitude signed unsigned
least = refl

below_least : signed 10 2147483647 (bytes "-2147483649") ≡ none
unfolding starts_with digit_value digits_of value_of magnitude signed unsigned
below_least = refl

hex_00_a5 : unsigned 16 65535 (bytes "00A5") ≡ some 165
unfolding starts_with digit_value digits_of value_of magnitude unsigned
hex_00_a5 = refl

hex_ffff : unsigned 16 65535 (bytes "ffff") ≡ some 65535
unfolding starts_with digit_value digits_of value_of magnitude unsigned
hex_ffff = refl

hex_10000 : unsigned 16 65535 (bytes "10000") ≡ none
unfolding starts_with digit_value digits_of value_of magnitude unsigned
hex_10000 = refl

empty : unsigned 10 255 (bytes "") ≡ none
unfolding starts_with digit_value digits_of value_of magnitude unsigned
empty = refl
