-- The 32 bits of an f32: the sign, eight bits of exponent, 23 of the significand (IEEE 754-2019, 3.4). Every NaN is written as the quiet one
-- with its sign clear and no payload, 7fc00000 in hexadecimal.
use Rattle.std.specs.Prelude.{ℕ, cond, Float}
use Rattle.std.specs.Float.{binary32}
use Rattle.std.specs.Float.Ieee.{is_nan, to_bits}

unfoldable pub bits_of : Float → ℕ
unfolding is_nan to_bits
bits_of x = cond (is_nan x) 2143289344 (to_bits binary32 x)
