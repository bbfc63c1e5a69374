-- The bit pattern of a rounded fraction is one sum: of the exponent at its place and the rounded
-- significand, whose carry is the next exponent's.
use mathlib.Core.Path.{◌≡◌, refl, sym, ap, ◌∙◌, subst}
use mathlib.Core.Logic.{inl, inr}
use mathlib.Core.Bool.{Bool, true, false, not, cond}
use Prim.Native.Nat.{ℕ, zero, suc, ◌+◌, ◌-◌, ◌*◌, ◌/◌, ◌^◌, ◌≤◌, ◌<◌}
use native.Mathlib.Nat.{mul-mul-mul_comm, one-le-pow, pow-le-pow_right, le_trans, le_of_eq, le_antisymm, lt_of_lt_of_le, lt_of_le_of_lt, lt_of_not-le, lt_irrefl, eq-or-lt_of_le, mul_comm, mul_assoc, mul_right_comm, mul-le-mul_right, mul-lt-mul_of_pos_right, mul-pos, mul-div_cancel, le-div_iff_mul-le, div-lt_iff_lt-mul, pow-succ'}
use native.Mathlib.Omega.{arith}
use lib.Dec.{T, ltb}
use lib.Pow.{pow-add, pow_pos, pow_mono, pow-lt, shl_lt}
use lib.Ieee.{Float, nan, inf, fin, Format, binary32, prec, emax, low, up, down, size, odd, units, round, to_bits, of_bits, nan_bits, is_nan, neg}
use lib.Ieee.Digits.{size-lt, size-le}
use lib.Ieee.Fits.{core, round_is, round-fits, down_pos}
use lib.Ieee.Exact.{HasValue, units_val}
use lib.Ieee.Nearest.{closest, closest_same, div_same}
use lib.Ieee.Scale.{round_same}
use lib.Ieee.Bits.{of_bits-to_bits, nan_bits_is}
use Rattle.numeral.proofs.Closest.{closest_ge, closest_le}

-- how many binary digits a number has
pub size_at : (n j : ℕ) → 2 ^ j ≤ n → n < 2 ^ suc j → size n ≡ suc j
size_at n j lo hi =
    le_antisymm (size-le n (suc j) hi)
    (lt_of_not-le (λ (g : size n ≤ j). lt_irrefl n (lt_of_lt_of_le (size-lt n) (le_trans (pow_mono g) lo))))

-- ---- the pattern of a value that is a units of the smallest f32

bits_of : (x : Float) (a : ℕ) → HasValue x false a (2 ^ 149) → to_bits binary32 x ≡ (size a - 24) * 2 ^ 23 + a / 2 ^ (size a - 24)
unfolding to_bits
bits_of nan a h = absurd h
bits_of (inf t) a h = absurd h
bits_of (fin t m e) a h =
    let n : m * up e * 2 ^ 149 / down e ≡ a = ap (λ (x : ℕ). x / down e) h.1 ∙ mul-div_cancel a (down_pos e) in
    ap (λ (x : ℕ). cond t (2 ^ 31) 0 + (size x - 24) * 2 ^ 23 + x / 2 ^ (size x - 24)) n
    ∙ ap (λ (b : Bool). cond b (2 ^ 31) 0 + (size a - 24) * 2 ^ 23 + a / 2 ^ (size a - 24)) h.0
    ∙ omega arith

-- of q * 2 ^ K units, where K binary digits are dropped
cut : (q a k : ℕ) → size a ≡ k + 24 → a ≡ q * 2 ^ k → (size a - 24) * 2 ^ 23 + a / 2 ^ (size a - 24) ≡ k * 2 ^ 23 + q
cut q a k z e =
    let d : size a - 24 ≡ k = omega (arith, z) in
    ap (λ (x : ℕ). x * 2 ^ 23 + a / 2 ^ x) d ∙ ap (λ (x : ℕ). k * 2 ^ 23 + x) (ap (λ (x : ℕ). x / 2 ^ k) e ∙ mul-div_cancel q (pow_pos k))

pattern_of : (q K : ℕ) → 2 ^ 23 ≤ q → q ≤ 2 ^ 24 → (size (q * 2 ^ K) - 24) * 2 ^ 23 + q * 2 ^ K / 2 ^ (size (q * 2 ^ K) - 24) ≡ K * 2 ^ 23 + q
pattern_of q K lo hi = elim (eq-or-lt_of_le hi) [
  | inl e ↦
      let is : q * 2 ^ K ≡ 2 ^ (24 + K) = ap (λ (x : ℕ). x * 2 ^ K) e ∙ sym (pow-add 2 24 K) in
      let z : size (q * 2 ^ K) ≡ suc (24 + K) = rw is (size_at (2 ^ (24 + K)) (24 + K) (le_of_eq refl) (pow-lt (omega arith))) in
      cut (2 ^ 23) (q * 2 ^ K) (suc K) (omega (arith, z)) (is ∙ ap (λ (x : ℕ). 2 ^ x) (omega arith) ∙ pow-add 2 23 (suc K)) ∙ omega arith
  | inr l ↦
      let z : size (q * 2 ^ K) ≡ suc (23 + K) =
      size_at (q * 2 ^ K) (23 + K) (le_trans (le_of_eq (pow-add 2 23 K)) (mul-le-mul_right (2 ^ K) lo)) (subst (λ (x : ℕ). q * 2 ^ K < 2 ^ x) (omega arith) (shl_lt 24 K l)) in
      cut q (q * 2 ^ K) K (omega (arith, z)) refl
]

units_bits : (q K : ℕ) → 2 ^ 23 ≤ q → q ≤ 2 ^ 24 → K < 253 → to_bits binary32 (units binary32 false q K) ≡ K * 2 ^ 23 + q
units_bits q K lo hi h =
    let under : q * 2 ^ K < 2 ^ 277 = lt_of_le_of_lt (le_trans (mul-le-mul_right (2 ^ K) hi) (le_of_eq (sym (pow-add 2 24 K)))) (pow-lt {i = 24 + K} {j = 277} (omega arith)) in
    bits_of (units binary32 false q K) (q * 2 ^ K) (units_val binary32 false q K under) ∙ pattern_of q K lo hi

-- ---- of m / D, which is n / d, from 1 up to 2, at 23 + K binary digits

module _ (m D n d K : ℕ) (D-pos : 0 < D) (d-pos : 0 < d) (lo : d ≤ n) (hi : n < 2 * d) (same : m * 2 ^ 149 * d ≡ n * (2 ^ 23 * 2 ^ K) * D) where
  quotient_size : size (m * 2 ^ 149 / D) ≡ suc (23 + K)
  quotient_size =
      let w = 2 ^ 23 * 2 ^ K in
      let W : w ≡ 2 ^ (23 + K) = sym (pow-add 2 23 K) in
      let lower : w * d ≤ n * w = le_trans (le_of_eq (mul_comm w d)) (mul-le-mul_right w lo) in
      let upper : n * w < 2 * w * d = lt_of_lt_of_le (mul-lt-mul_of_pos_right hi (mul-pos (pow_pos 23) (pow_pos K))) (le_of_eq (mul_right_comm 2 d w)) in
      let q_lo : w ≤ n * w / d = (le-div_iff_mul-le d-pos).1 lower in
      let q_hi : n * w / d < 2 * w = (div-lt_iff_lt-mul d-pos).1 upper in
      subst (λ (x : ℕ). size x ≡ suc (23 + K)) (sym (div_same (m * 2 ^ 149) D (n * w) d D-pos d-pos same))
      (size_at (n * w / d) (23 + K) (le_trans (le_of_eq (sym W)) q_lo) (lt_of_lt_of_le q_hi (le_of_eq (ap (λ (x : ℕ). 2 * x) W ∙ sym (pow-succ' 2 (23 + K))))))

  round_at : round binary32 false m D ≡ units binary32 false (closest (n * 2 ^ 23) d) K
  round_at =
      let drop : size (m * 2 ^ 149 / D) - 24 ≡ K = omega (arith, quotient_size) in
      let apart : n * (2 ^ 23 * 2 ^ K) * D ≡ n * 2 ^ 23 * (D * 2 ^ K) = simp (mul_assoc, mul_comm) in
      round_is binary32 false m D
      ∙ ap (λ (k : ℕ). core binary32 false (m * 2 ^ 149) D k) drop
      ∙ ap (λ (q : ℕ). units binary32 false q K) (closest_same (m * 2 ^ 149) (D * 2 ^ K) (n * 2 ^ 23) d (mul-pos D-pos (pow_pos K)) d-pos (same ∙ apart))

  pattern_at : K < 253 → to_bits binary32 (round binary32 false m D) ≡ K * 2 ^ 23 + closest (n * 2 ^ 23) d
  pattern_at h =
      ap (to_bits binary32) round_at
      ∙ units_bits (closest (n * 2 ^ 23) d) K (closest_ge (n * 2 ^ 23) d (2 ^ 23) d-pos (omega arith)) (closest_le (n * 2 ^ 23) d (2 ^ 24) d-pos (omega arith)) h

-- ---- of a decimal whose two numbers were moved up by a and by b places

pub ten_pos : (k : ℕ) → 0 < 10 ^ k
ten_pos k = one-le-pow k 10 (omega arith)

pub ten_lt : (k : ℕ) → k ≤ 15 → 10 ^ k < 2 ^ 50
ten_lt k h = lt_of_le_of_lt (pow-le-pow_right {n = 10} (omega arith) {i = k} {j = 15} h) (omega arith)

regroup : (m a w D : ℕ) → m * a * w * D ≡ m * D * (a * w)
regroup m a w D = mul_right_comm (m * a) w D ∙ ap (λ (x : ℕ). x * w) (mul_right_comm m a D) ∙ mul_assoc (m * D) a w

pub pattern : (m k a b n d K q : ℕ) → n ≡ m * 2 ^ a → d ≡ 10 ^ k * 2 ^ b → 0 < d → d ≤ n → n < 2 * d → a + (23 + K) ≡ 149 + b → K < 253 → q ≡ closest (n * 2 ^ 23) d
    → to_bits binary32 (round binary32 false m (10 ^ k)) ≡ K * 2 ^ 23 + q
pattern m k a b n d K q is-n is-d pos lo hi places K-lt is-q =
    let same : m * 2 ^ 149 * d ≡ n * (2 ^ 23 * 2 ^ K) * 10 ^ k =
    ap (λ (x : ℕ). m * 2 ^ 149 * x) is-d
    ∙ mul-mul-mul_comm m (2 ^ 149) (10 ^ k) (2 ^ b)
    ∙ ap (λ (x : ℕ). m * 10 ^ k * x) (sym (pow-add 2 149 b) ∙ ap (λ (x : ℕ). 2 ^ x) (sym places) ∙ pow-add 2 a (23 + K) ∙ ap (λ (x : ℕ). 2 ^ a * x) (pow-add 2 23 K))
    ∙ sym (regroup m (2 ^ a) (2 ^ 23 * 2 ^ K) (10 ^ k))
    ∙ ap (λ (x : ℕ). x * (2 ^ 23 * 2 ^ K) * 10 ^ k) (sym is-n) in
    pattern_at m (10 ^ k) n d K (ten_pos k) pos lo hi same K-lt ∙ ap (λ (x : ℕ). K * 2 ^ 23 + x) (sym is-q)

pub pattern_zero : (D : ℕ) → 0 < D → to_bits binary32 (round binary32 false 0 D) ≡ 0
unfolding to_bits round
pattern_zero D h = ap (to_bits binary32) (round_same binary32 false 0 D 0 1 h (omega arith) (omega arith))

-- ---- read back, a pattern of a rounded fraction is that fraction, and no NaN

odd_number : (d : ℕ) (s : Bool) (q k l : ℕ) → is_nan (odd d s q k l) ≡ false
unfolding odd is_nan
odd_number d s zero k l = refl
odd_number d s (suc q) k l = refl

units_number : (f : Format) (s : Bool) (q k : ℕ) → is_nan (units f s q k) ≡ false
unfolding units is_nan
units_number f s q k = go (ltb (q * 2 ^ k) (2 ^ (low f + suc (emax f))))
  where
    go : (b : Bool) → is_nan (cond b (odd (suc (prec f)) s q k (low f)) (inf s)) ≡ false
    go true = odd_number (suc (prec f)) s q k (low f)
    go false = refl

module _ (m D b : ℕ) (is : to_bits binary32 (round binary32 false m D) ≡ b) where
  pub read_back : of_bits binary32 b ≡ round binary32 false m D
  read_back = ap (of_bits binary32) (sym is) ∙ of_bits-to_bits binary32 (round binary32 false m D) (round-fits binary32 false m D)

  pub no_nan : T (not (nan_bits binary32 b))
  no_nan =
      let z : nan_bits binary32 b ≡ false = nan_bits_is binary32 b ∙ ap is_nan read_back ∙ ap is_nan (round_is binary32 false m D) ∙ units_number binary32 false _ _ in
      subst (λ (x : Bool). T (not x)) (sym z) tt

-- ---- a rounded fraction of the other sign

odd_other : (d q k l : ℕ) → neg (odd d false q k l) ≡ odd d true q k l
unfolding odd neg
odd_other d zero k l = refl
odd_other d (suc q) k l = refl

pub round_other : (f : Format) (m D : ℕ) → neg (round f false m D) ≡ round f true m D
unfolding units neg
round_other f m D = rw (round_is f false m D, round_is f true m D) (go (ltb _ _) _ _)
  where
    go : (b : Bool) (q k : ℕ) → neg (cond b (odd (suc (prec f)) false q k (low f)) (inf false)) ≡ cond b (odd (suc (prec f)) true q k (low f)) (inf true)
    go true q k = odd_other (suc (prec f)) q k (low f)
    go false q k = refl
