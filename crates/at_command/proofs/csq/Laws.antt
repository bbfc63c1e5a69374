-- What the code forms at each rssi from 0 to 31, by a test over all of them; the table of rates; and what a code tells.
use mathlib.Core.Path.{◌≡◌, refl}
use mathlib.Core.Bool.{Bool, true, cond}
use mathlib.Core.List.{List, [], ◌∷◌}
use mathlib.Core.Option.{none, some}
use Prim.Native.Nat.{ℕ, ◌≤◌, ◌<◌, suc-le-suc}
use native.Mathlib.Omega.{arith}
use lib.Dec.{T, leb}
use lib.ListN.{get_or}
use lib.IntN.{ℤ, pos, ◌+ℤ◌, ◌-ℤ◌, ◌*ℤ◌}
use lib.Ieee.{Float, nan, binary32, of_int, of_bits, round, sub, in_float}
use mir.Syntax.{w32}
use mir.Val.{SFits, to_z, of_z}
use borrow.Author.Tests.{le-leb, lt-leb, eq-eqb, ne_eqb}
use Rattle.text.proofs.Below.{every_below, below, entry, sfitsb, sfits, eqz, eqz→eq}
use Rattle.at_command.specs.Csq.{dbm_of, f32, rate_of, quality_of, level_of}

pub each : (f : ℕ → Bool) → T (every_below 32 f) → (r : ℕ) → r ≤ 31 → T (f r)
each f t r h = below 32 f t r (suc-le-suc h)

in_range : (f : ℕ → ℤ) → T (every_below 32 (λ r. sfitsb w32 (f r))) → (r : ℕ) → r ≤ 31 → SFits w32 (f r)
in_range f t r h = sfits w32 (f r) (each (λ r. sfitsb w32 (f r)) t r h)

-- what an i32 gives back of z
abbrev kept : ℤ → ℤ
kept z = to_z w32 (of_z w32 z)

-- rssi - 2, 2 * (rssi - 2), z + 2 * (rssi - 2) and dBm + 115
abbrev less_two : ℕ → ℤ
less_two r = to_z w32 r -ℤ pos 2

abbrev twice : ℕ → ℤ
twice r = pos 2 *ℤ kept (less_two r)

abbrev power : ℤ → ℕ → ℤ
power z r = z +ℤ kept (twice r)

abbrev shifted : ℕ → ℤ
shifted r = kept (dbm_of r) +ℤ pos 115

-- at an rssi of 2 or more
pub power_is : (z : ℤ) → T (every_below 32 (λ r. cond (leb 2 r) (eqz (kept (power z r)) (dbm_of r)) true))
    → (r : ℕ) → r ≤ 31 → (r ≡ 0 → ⊥) → (r ≡ 1 → ⊥) → kept (power z r) ≡ dbm_of r
power_is z t r h k l =
    let e : leb 2 r ≡ true = le-leb 2 r (omega arith) in
    eqz→eq (kept (power z r)) (dbm_of r) (rw e at (each (λ r. cond (leb 2 r) (eqz (kept (power z r)) (dbm_of r)) true) t r h))

pub shifted_fits : (r : ℕ) → r ≤ 31 → SFits w32 (shifted r)
unfolding dbm_of
shifted_fits = in_range shifted tt

pub shifted_is : (r : ℕ) → r ≤ 31 → kept (shifted r) ≡ dbm_of r +ℤ pos 115
unfolding dbm_of
shifted_is r h = eqz→eq (kept (shifted r)) (dbm_of r +ℤ pos 115) (each (λ r. eqz (kept (shifted r)) (dbm_of r +ℤ pos 115)) tt r h)

pub shifted_in : (r : ℕ) → r ≤ 31 → T (in_float binary32 (dbm_of r +ℤ pos 115))
unfolding dbm_of in_float
shifted_in = each (λ r. in_float binary32 (dbm_of r +ℤ pos 115)) tt

-- the constants of the code are bit patterns
pub hundred : of_bits binary32 1120403456 ≡ f32 100
unfolding of_bits of_int
hundred = refl

pub sixty_three : of_bits binary32 1115422720 ≡ f32 63
unfolding of_bits of_int
sixty_three = refl

abbrev floats : List Float
floats =
    of_bits binary32 1041194025
    ∷ of_bits binary32 1049582633
    ∷ of_bits binary32 1058139013
    ∷ of_bits binary32 1066443735
    ∷ of_bits binary32 1074832343
    ∷ of_bits binary32 1083241923
    ∷ of_bits binary32 1091620045
    ∷ of_bits binary32 1100008653
    ∷ []

rate : (b : ℕ) → b ≤ 7 → get_or floats b nan ≡ rate_of b
unfolding of_bits round
rate b h = entry rate_of nan 8 b (suc-le-suc h)

pub quality_is : (b : ℕ) → b ≤ 7 → sub binary32 (of_bits binary32 1120403456) (get_or floats b nan) ≡ quality_of b
unfolding quality_of
quality_is b h = rw (hundred, rate b h)

-- what a code tells
module _ (max : ℕ) (f : ℕ → Float) (n : ℕ) where
  pub level_is : (x : Float) → n ≤ max → x ≡ f n → some (some x) ≡ level_of max f n
  unfolding level_of
  level_is x h e = rw (le-leb n max h, e)

  pub level_none : max < n → n ≡ 99 → some none ≡ level_of max f n
  unfolding level_of
  level_none h e = rw (lt-leb n max h, eq-eqb n 99 e)

  pub level_not : max < n → (n ≡ 99 → ⊥) → none ≡ level_of max f n
  unfolding level_of
  level_not h k = rw (lt-leb n max h, ne_eqb n 99 k)

pub ruleset levels = (level_is, level_none, level_not)
