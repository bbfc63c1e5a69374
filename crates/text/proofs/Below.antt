-- Rules of many numbers, each by one test or one list that is computed: of every number below a bound, of every entry of a table, of a signed number.
use Rattle.std.proofs.Common.{◌≡◌, ℕ, zero, suc, ◌+◌, ◌^◌, ◌<◌, Bool, true, false, ◌&&◌, T, eqb, ltb, List, [], ◌∷◌, get_or, ℤ, pos, negsuc, sym, ap, ◌∙◌, subst, inl, inr, le_of_suc-le-suc, not-suc-le-zero, eq-or-lt_of_le, zero-add, arith, eqb→eq, ltb→lt, SFits}
use lib.Ieee.Fits.{and_l, and_r}
use lib.Signed.{mag}
use mir.Syntax.{Width}
use mir.Val.{hbits}
use borrow.Author.Rules.{sfits_of}

-- the test passes at every number below n, so at any one of them
abbrev pub every_below : ℕ → (ℕ → Bool) → Bool
every_below zero f = true
every_below (suc n) f = every_below n f && f n

pub below : (n : ℕ) (f : ℕ → Bool) → T (every_below n f) → (k : ℕ) → k < n → T (f k)
below zero f t k h = absurd (not-suc-le-zero h)
below (suc n) f t k h = elim (eq-or-lt_of_le (le_of_suc-le-suc h)) [
  | inl e ↦ subst (λ (x : ℕ). T (f x)) (sym e) (and_r (every_below n f) (f n) t)
  | inr l ↦ below n f (and_l (every_below n f) (f n) t) k l
]

-- a table whose entry at each place is f of the place
module _ {A : Type 0} (f : ℕ → A) where
  abbrev pub tabled : ℕ → ℕ → List A
  tabled i zero = []
  tabled i (suc n) = f i ∷ tabled (suc i) n

  from : (d : A) (i n k : ℕ) → k < n → get_or (tabled i n) k d ≡ f (i + k)
  from d i zero k h = absurd (not-suc-le-zero h)
  from d i (suc n) zero h = ap f (omega arith)
  from d i (suc n) (suc k) h = from d (suc i) n k (le_of_suc-le-suc h) ∙ ap f (omega arith)

  pub entry : (d : A) (n k : ℕ) → k < n → get_or (tabled 0 n) k d ≡ f k
  entry d n k h = from d 0 n k h ∙ ap f (zero-add k)

-- a signed number fits
abbrev pub sfitsb : Width → ℤ → Bool
sfitsb w z = ltb (mag z) (2 ^ hbits w)

pub sfits : (w : Width) (z : ℤ) → T (sfitsb w z) → SFits w z
sfits w z t = sfits_of (ltb→lt (mag z) (2 ^ hbits w) t)

-- two signed numbers are the same
abbrev pub eqz : ℤ → ℤ → Bool
eqz (pos m) (pos n) = eqb m n
eqz (pos m) (negsuc n) = false
eqz (negsuc m) (pos n) = false
eqz (negsuc m) (negsuc n) = eqb m n

pub eqz→eq : (a b : ℤ) → T (eqz a b) → a ≡ b
eqz→eq (pos m) (pos n) t = ap pos (eqb→eq m n t)
eqz→eq (pos m) (negsuc n) t = absurd t
eqz→eq (negsuc m) (pos n) t = absurd t
eqz→eq (negsuc m) (negsuc n) t = ap negsuc (eqb→eq m n t)
