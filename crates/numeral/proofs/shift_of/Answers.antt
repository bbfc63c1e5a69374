-- The count of leading zeros and the place of the highest set bit make 63.
use mathlib.Core.Path.{◌≡◌, subst}
use Prim.Native.Nat.{ℕ, suc, ◌+◌, ◌-◌, ◌*◌, ◌^◌, ◌≤◌, ◌<◌}
use native.Mathlib.Nat.{le_trans, le_of_eq, lt_of_lt_of_le, lt_of_not-le, lt_irrefl, mul-le-mul_right}
use native.Mathlib.Omega.{arith}
use lib.Pow.{pow-add, pow_mono, shl_lt}
use lib.Count.{count_leading_zeros, leading_top}
use Rattle.numeral.specs.Place.{Placed}
use Rattle.numeral.proofs.shift_of.Goals as goal

-- x has its highest set bit at bit j, below bit 50
module _ (x j z : ℕ) (h : x < 2 ^ 50) (e : z + suc j ≡ 64) (lo : 2 ^ j ≤ x) (hi : x < 2 ^ suc j) where
  under : j < 50
  under = lt_of_not-le (λ (g : 50 ≤ j). lt_irrefl x (lt_of_lt_of_le h (le_trans (pow_mono g) lo)))

  enough : 14 ≤ z
  enough = omega (arith, under)

  placed : Placed x (z - 14)
  placed =
      let l : j + (z - 14) ≡ 49 = omega (arith, under) in
      let u : suc j + (z - 14) ≡ 50 = omega (arith, under) in
      record {
        low = subst (λ (k : ℕ). 2 ^ k ≤ x * 2 ^ (z - 14)) l (le_trans (le_of_eq (pow-add 2 j (z - 14))) (mul-le-mul_right (2 ^ (z - 14)) lo));
        high = subst (λ (k : ℕ). x * 2 ^ (z - 14) < 2 ^ k) u (shl_lt {a = x} (suc j) (z - 14) hi);
        most = omega arith;
      }

pub overflow_sub-result : goal.overflow_sub-result
overflow_sub-result c =
    let t = leading_top 64 c.args.x c.requires.0 c.ranges.x.fits in
    omega (arith, enough c.args.x t.0 (count_leading_zeros 64 c.args.x) c.requires.1 t.1 t.2 t.3)

pub returns : goal.returns
returns c =
    let t = leading_top 64 c.args.x c.requires.0 c.ranges.x.fits in
    placed c.args.x t.0 (count_leading_zeros 64 c.args.x) c.requires.1 t.1 t.2 t.3
