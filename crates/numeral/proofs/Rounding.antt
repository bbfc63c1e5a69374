-- `round` gives the f32 nearest to its fraction, in whole numbers: no other magnitude of an f32 is nearer, and where another is as near the significand is even.
use mathlib.Core.Path.{◌≡◌, refl, sym, ap, ◌∙◌, subst}
use mathlib.Core.Logic.{◌⊎◌, inl, inr, ⊎_elim}
use mathlib.Core.Bool.{Bool, true, false, ◌&&◌}
use Prim.Native.Nat.{ℕ, zero, suc, ◌+◌, ◌-◌, ◌*◌, ◌/◌, ◌%◌, ◌^◌, ◌≤◌, ◌<◌}
use native.Mathlib.Nat.{lt_irrefl, lt_of_not-le, le_of_suc-le-suc, mul-one, zero-mul, le_trans, le_of_eq, le_of_lt, lt_of_lt_of_le, lt_of_le_of_lt, eq-zero-or-pos, mul_comm, mul_assoc, mul-le-mul_right, mul-lt-mul_of_pos_right, mul-pos, le-div_iff_mul-le, div-lt_iff_lt-mul, div-le_self}
use native.Mathlib.Omega.{arith}
use lib.Dec.{T, ltb, leb, eqb, ltb→lt, leb→le}
use lib.Pow.{pow-add, pow_pos, pow_mono, pow-lt, shl_lt}
use lib.IntN.{ℤ, pos, negsuc}
use lib.Ieee.{Float, fin, binary32, up, down, fits, size, round}
use lib.Ieee.Digits.{size-lt, size-le, size_reaches}
use lib.Ieee.Fits.{round_is, and_l, and_r}
use lib.Ieee.Exact.{HasValue, units_val}
use lib.Ieee.Nearest.{closest}
use borrow.Author.Tests.{ltb-true, ltb-false}
use Rattle.numeral.specs.Nearest.{Nearest, apart}
use Rattle.numeral.proofs.Closest.{Half, closest_half, closest_ge, closest_le, multiple, multiple_even, below}

pub scaled : (p j K : ℕ) → K ≤ j → p * 2 ^ j ≡ p * 2 ^ (j - K) * 2 ^ K
scaled p j K l =
    let e : j ≡ j - K + K = omega arith in
    ap (λ (x : ℕ). p * 2 ^ x) e ∙ ap (λ (x : ℕ). p * x) (pow-add 2 (j - K) K) ∙ sym (mul_assoc p (2 ^ (j - K)) (2 ^ K))

-- one binary digit fewer, at one place more or above
pub shorter : (p j K : ℕ) → p < 2 ^ 24 → j < K → p * 2 ^ j < 2 ^ 23 * 2 ^ K
shorter p j K P l =
    lt_of_lt_of_le (mul-lt-mul_of_pos_right P (pow_pos j))
    (le_trans (le_of_eq (sym (pow-add 2 24 j))) (le_trans (pow_mono {i = 24 + j} {j = 23 + K} (omega arith)) (le_of_eq (pow-add 2 23 K))))

-- ---- every magnitude of an f32 is a multiple of D * 2 ^ K, in units times D, or lies below 2 ^ 23 of them

module _ (N D K q : ℕ) (D-pos : 0 < D) (h : Half N (D * 2 ^ K) q) (full : (K ≡ 0) ⊎ (2 ^ 23 * (D * 2 ^ K) ≤ N)) where
  in_units : (x : ℕ) → x * 2 ^ K * D ≡ x * (D * 2 ^ K)
  in_units x = mul_assoc x (2 ^ K) D ∙ ap (λ (y : ℕ). x * y) (mul_comm (2 ^ K) D)

  low : (p j : ℕ) → p < 2 ^ 24 → j < K → p * 2 ^ j * D < 2 ^ 23 * (D * 2 ^ K)
  low p j P l = lt_of_lt_of_le (mul-lt-mul_of_pos_right (shorter p j K P l) D-pos) (le_of_eq (in_units (2 ^ 23)))

  further : (p j : ℕ) → p < 2 ^ 24 → j < K → apart N (q * (D * 2 ^ K)) < apart N (p * 2 ^ j * D)
  further p j P l = elim full [
    | inl z ↦ absurd (omega arith)
    | inr f ↦ below N (D * 2 ^ K) q h (2 ^ 23) (p * 2 ^ j * D) f (low p j P l)
  ]

  pub nearest_all : (p j : ℕ) → p < 2 ^ 24 → apart N (q * 2 ^ K * D) ≤ apart N (p * 2 ^ j * D)
  nearest_all p j P = rw (in_units q) (go (ltb j K) (ltb-true j K) (ltb-false j K))
    where
      go : (t : Bool) → (t ≡ true → j < K) → (t ≡ false → K ≤ j) → apart N (q * (D * 2 ^ K)) ≤ apart N (p * 2 ^ j * D)
      go true l g = le_of_lt (further p j P (l refl))
      go false l g = rw (scaled p j K (g refl), in_units (p * 2 ^ (j - K))) (multiple N (D * 2 ^ K) q h (p * 2 ^ (j - K)))

  pub nearest_even : (p j : ℕ) → p < 2 ^ 24 → (p * 2 ^ j ≡ q * 2 ^ K → ⊥) → apart N (p * 2 ^ j * D) ≡ apart N (q * 2 ^ K * D) → q % 2 ≡ 0
  nearest_even p j P n e = go (ltb j K) (ltb-true j K) (ltb-false j K) (rw (in_units q) at e)
    where
      go : (t : Bool) → (t ≡ true → j < K) → (t ≡ false → K ≤ j) → apart N (p * 2 ^ j * D) ≡ apart N (q * (D * 2 ^ K)) → q % 2 ≡ 0
      go true l g x = absurd (lt_irrefl (apart N (q * (D * 2 ^ K))) (lt_of_lt_of_le (further p j P (l refl)) (le_of_eq x)))
      go false l g x =
          multiple_even N (D * 2 ^ K) q h (p * 2 ^ (j - K)) (λ v. n (scaled p j K (g refl) ∙ ap (λ (y : ℕ). y * 2 ^ K) v))
          (rw (scaled p j K (g refl), in_units (p * 2 ^ (j - K))) at x)

-- ---- `round` drops as many binary digits as leave 24

in_place : (c D K : ℕ) → 2 ^ (c + K) * D ≡ 2 ^ c * (D * 2 ^ K)
in_place c D K = ap (λ (x : ℕ). x * D) (pow-add 2 c K) ∙ mul_assoc (2 ^ c) (2 ^ K) D ∙ ap (λ (x : ℕ). 2 ^ c * x) (mul_comm (2 ^ K) D)

module _ (n D : ℕ) (D-pos : 0 < D) where
  dropped : (K : ℕ) → size (n / D) - 24 ≡ K → (K ≡ 0) ⊎ (2 ^ 23 * (D * 2 ^ K) ≤ n)
  dropped K e = elim (eq-zero-or-pos K) [
    | inl z ↦ inl z
    | inr g ↦
        let r : 2 ^ (23 + K) ≤ n / D = size_reaches (n / D) (23 + K) (omega arith) in
        inr (le_trans (le_of_eq (sym (in_place 23 D K))) ((le-div_iff_mul-le D-pos).0 r))
  ]

  kept : (K : ℕ) → size (n / D) - 24 ≡ K → n < 2 ^ 24 * (D * 2 ^ K)
  kept K e =
      let a : n / D < 2 ^ (24 + K) = lt_of_lt_of_le (size-lt (n / D)) (pow_mono {i = size (n / D)} {j = 24 + K} (omega arith)) in
      lt_of_lt_of_le ((div-lt_iff_lt-mul D-pos).0 a) (le_of_eq (in_place 24 D K))

few : (m D : ℕ) → m < 2 ^ 50 → size (m * 2 ^ 149 / D) ≤ 199
few m D h = size-le (m * 2 ^ 149 / D) 199 (lt_of_le_of_lt (div-le_self (m * 2 ^ 149) D) (shl_lt 50 149 h))

pub round_nearest : (s : Bool) (m D : ℕ) → 0 < D → m < 2 ^ 50 → Nearest s m D (round binary32 s m D)
round_nearest s m D D-pos h =
    let N = m * 2 ^ 149 in
    let K = size (N / D) - 24 in
    let u = D * 2 ^ K in
    let u_pos : 0 < u = mul-pos D-pos (pow_pos K) in
    let q = closest N u in
    let most : q ≤ 2 ^ 24 = closest_le N u (2 ^ 24) u_pos (kept N D D-pos K refl) in
    let K-le : K ≤ 175 = omega (arith, few m D h) in
    let small : q * 2 ^ K < 2 ^ 277 = lt_of_le_of_lt (le_trans (mul-le-mul_right (2 ^ K) most) (le_of_eq (sym (pow-add 2 24 K)))) (pow-lt {i = 24 + K} {j = 277} (omega arith)) in
    let half = closest_half N u u_pos in
    let full = dropped N D D-pos K refl in
    record {
      sig = q;
      drop = K;
      value = subst (λ (x : Float). HasValue x s (q * 2 ^ K) (2 ^ 149)) (sym (round_is binary32 s m D)) (units_val binary32 s q K small);
      whole = ⊎_elim inl (λ f. inr (closest_ge N u (2 ^ 23) u_pos f)) full;
      most = most;
      nearest = nearest_all N D K q D-pos half full;
      even = nearest_even N D K q D-pos half full;
    }

-- ---- every finite f32 has a magnitude of the form that `Nearest` goes over

pow_le_back : (a l : ℕ) → 2 ^ a ≤ 2 ^ l → a ≤ l
pow_le_back a l h = le_of_suc-le-suc (lt_of_not-le (λ (g : suc l ≤ a). lt_irrefl (2 ^ l) (lt_of_lt_of_le (pow-lt g) h)))

in_smallest : (s : Bool) (p : ℕ) (e : ℤ) → down e ≤ 2 ^ 149 → (j : ℕ) × HasValue (fin s p e) s (p * 2 ^ j) (2 ^ 149)
in_smallest s p (pos a) h = (a + 149, (refl, mul_assoc p (2 ^ a) (2 ^ 149) ∙ ap (λ (x : ℕ). p * x) (sym (pow-add 2 a 149)) ∙ sym (mul-one (p * 2 ^ (a + 149)))))
in_smallest s p (negsuc a) h =
    let l : suc a ≤ 149 = pow_le_back (suc a) 149 h in
    let e : 149 ≡ 149 - suc a + suc a = omega arith in
    (149 - suc a, (refl, ap (λ (x : ℕ). x * 2 ^ 149) (mul-one p) ∙ ap (λ (x : ℕ). p * 2 ^ x) e ∙ ap (λ (x : ℕ). p * x) (pow-add 2 (149 - suc a) (suc a)) ∙ sym (mul_assoc p (2 ^ (149 - suc a)) (2 ^ suc a))))

pub every_f32 : (s : Bool) (p : ℕ) (e : ℤ) → T (fits binary32 (fin s p e)) → (p < 2 ^ 24) × ((j : ℕ) × HasValue (fin s p e) s (p * 2 ^ j) (2 ^ 149))
unfolding fits
every_f32 s zero e h = (omega arith, (0, (refl, ap (λ (x : ℕ). x * 2 ^ 149) (zero-mul (up e)) ∙ sym (zero-mul (down e)))))
every_f32 s (suc p) e h =
    let A = eqb (suc p % 2) 1 in
    let B = ltb (suc p) (2 ^ 24) in
    let C = leb (down e) (2 ^ 149) in
    let D = ltb (suc p * up e) (2 ^ 128 * down e) in
    let abc = and_l (A && B && C) D h in
    (ltb→lt (suc p) (2 ^ 24) (and_r A B (and_l (A && B) C abc)), in_smallest s (suc p) e (leb→le (down e) (2 ^ 149) (and_r (A && B) C abc)))
