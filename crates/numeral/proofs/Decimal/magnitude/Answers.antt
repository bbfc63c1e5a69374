-- The pattern of the rounded decimal, by which of the two numbers, both with their highest set bit
-- at bit 49, is the larger.
use Rattle.std.proofs.Common.{◌≡◌, ℕ, ◌+◌, ◌-◌, ◌*◌, ◌^◌, ◌≤◌, ◌<◌, false, ap, sym, ◌∙◌, arith}
use native.Mathlib.Nat.{mul_assoc}
use lib.Pow.{pow-add}
use lib.Ieee.{binary32, round, to_bits}
use lib.Ieee.Nearest.{closest}
use Rattle.numeral.specs.Place.{Placed}
use Rattle.numeral.proofs.Pattern.{pattern, pattern_zero, ten_pos, ten_lt}
use Rattle.numeral.proofs.Decimal.magnitude.Goals as goal

-- the pattern of the f32 nearest to m / 10 ^ k
abbrev Bits : ℕ → ℕ → ℕ → Type 0
Bits m k bits = to_bits binary32 (round binary32 false m (10 ^ k)) ≡ bits

module _ (m k d a b n e q : ℕ) (is-d : d ≡ 10 ^ k) (A : Placed m a) (B : Placed d b) (is-n : n ≡ m * 2 ^ a) (is-e : e ≡ d * 2 ^ b) where
  scaled : e ≡ 10 ^ k * 2 ^ b
  scaled = is-e ∙ ap (λ (x : ℕ). x * 2 ^ b) is-d

  over : e ≤ n → q ≡ closest (n * 2 ^ 23) e → q ≤ 2 ^ 24 → Bits m k ((126 + b - a) * 2 ^ 23 + q)
  over g is top = pattern m k a b n e (126 + b - a) q is-n scaled (omega arith) (omega arith) (omega arith) (omega arith) (omega arith) is

  under : n < e → q ≡ closest (n * 2 * 2 ^ 23) e → q ≤ 2 ^ 24 → Bits m k ((125 + b - a) * 2 ^ 23 + q)
  under g is top =
      let twice : n * 2 ≡ m * 2 ^ (a + 1) = ap (λ (x : ℕ). x * 2) is-n ∙ mul_assoc m (2 ^ a) 2 ∙ ap (λ (x : ℕ). m * x) (sym (pow-add 2 a 1)) in
      pattern m k (a + 1) b (n * 2) e (125 + b - a) q twice scaled (omega arith) (omega arith) (omega arith) (omega arith) (omega arith) is

pub returns-then-self-eq0 : goal.returns-then-self-eq0
returns-then-self-eq0 c = rw c.if-self-eq0.true (pattern_zero (10 ^ c.args.self.places) (ten_pos c.args.self.places))

pub shift_of-b-requires : goal.shift_of-b-requires
shift_of-b-requires c =
    let k = c.args.self.places in
    omega (arith, ten_pos k, ten_lt k c.args.self.within)

pub returns-then-n-e : goal.returns-then-n-e
returns-then-n-e c = search under

pub returns : goal.returns
returns c = search over
