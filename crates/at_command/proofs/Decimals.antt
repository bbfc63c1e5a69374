-- A number in decimal. Assumes nothing.
use mathlib.Core.Path.{◌≡◌, refl, ap}
use mathlib.Core.Bool.{Bool, true, false, cond}
use mathlib.Core.List.{List, [], ◌∷◌, ◌++◌}
use Prim.Native.Nat.{ℕ, zero, suc, ◌+◌, ◌/◌, ◌%◌, ◌^◌, ◌≤◌, ◌<◌}
use native.Mathlib.Nat.{pow-suc}
use native.Mathlib.Omega.{arith}
use lib.Dec.{ltb}
use lib.ListN.{length, length-append}
use borrow.Author.Tests.{lt-ltb, le-ltb, ltb-true, ltb-false}
use Rattle.at_command.specs.Piece.{digits_up_to, decimal}

same_else : (t : Bool) (x y z : List ℕ) → (t ≡ false → y ≡ z) → cond t x y ≡ cond t x z
same_else true x y z f = refl
same_else false x y z f = f refl

-- any limit above the number will do
enough : (j k n : ℕ) → n < j → n < k → digits_up_to j n ≡ digits_up_to k n
unfolding digits_up_to
enough zero k n h g = absurd (omega arith)
enough (suc j) zero n h g = absurd (omega arith)
enough (suc j) (suc k) n h g =
    same_else (ltb n 10) _ _ _ (λ (e : ltb n 10 ≡ false). let l = ltb-false n 10 e in ap (λ (s : List ℕ). s ++ (48 + n % 10) ∷ []) (enough j k (n / 10) (omega arith) (omega arith)))

pub decimal_one : (n : ℕ) → n < 10 → decimal n ≡ (48 + n) ∷ []
unfolding decimal digits_up_to
decimal_one n h = rw (lt-ltb n 10 h)

pub decimal_more : (n : ℕ) → 10 ≤ n → decimal n ≡ decimal (n / 10) ++ (48 + n % 10) ∷ []
unfolding decimal digits_up_to
decimal_more n h = rw (le-ltb n 10 h) (ap (λ (s : List ℕ). s ++ (48 + n % 10) ∷ []) (enough n (suc (n / 10)) (n / 10) (omega arith) (omega arith)))

-- a number below 10 ^ k has at most k digits, k being at least one
pub decimal_most : (k n : ℕ) → n < 10 ^ suc k → length (decimal n) ≤ suc k
decimal_most zero n h = rw (decimal_one n h) (omega arith)
decimal_most (suc k) n h = by (ltb n 10) (ltb-true n 10) (ltb-false n 10) (decimal_most k (n / 10) (let p = rw pow-suc at h in omega arith))
  where
    by : (t : Bool) → (t ≡ true → n < 10) → (t ≡ false → 10 ≤ n) → length (decimal (n / 10)) ≤ suc k → length (decimal n) ≤ suc (suc k)
    by true f g r = rw (decimal_one n (f refl)) (omega arith)
    by false f g r = rw (decimal_more n (g refl)) (let z = length-append (decimal (n / 10)) ((48 + n % 10) ∷ []) in omega arith)
