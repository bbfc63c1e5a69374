-- The calendar: the leap years as the code asks for them, and the days of a month from its table. Assumes nothing.
use mathlib.Core.Path.{◌≡◌, refl, sym}
use mathlib.Core.Bool.{Bool, true, false, ◌&&◌}
use mathlib.Core.List.{List, [], ◌∷◌}
use Prim.Native.Nat.{ℕ, zero, suc, ◌%◌, ◌≤◌, ◌<◌}
use native.Mathlib.Omega.{arith}
use lib.Dec.{eqb, leb}
use lib.ListN.{get_or, get_or-eq_default}
use borrow.Author.Tests.{eq-eqb, ne_eqb, eqb-true, leb-true, leb-false}
use Rattle.text.specs.Bytes.{within, all_within}
use Rattle.text.proofs.Tests.{and_left, and_right, at_most, never}
use Rattle.unsolicited.specs.Calendar.{is_leap, months, days_in}

-- what four hundred divides four divides too
module _ (year : ℕ) where
  pub full_century : year % 100 ≡ 0 → eqb (year % 400) 0 ≡ is_leap year
  unfolding is_leap
  full_century h = rw (eq-eqb (year % 100) 0 h) (go (eqb (year % 4) 0) (eqb (year % 400) 0) (λ e. let z : year % 400 ≡ 0 = eqb-true (year % 400) 0 e in eq-eqb (year % 4) 0 (omega arith)))
    where
      go : (a b : Bool) → (b ≡ true → a ≡ true) → b ≡ (a && b)
      go true b f = refl
      go false true f = sym (f refl)
      go false false f = refl

  pub other_year : (year % 100 ≡ 0 → ⊥) → eqb (year % 4) 0 ≡ is_leap year
  unfolding is_leap
  other_year h = rw (ne_eqb (year % 100) 0 h) (go (eqb (year % 4) 0))
    where
      go : (a : Bool) → a ≡ (a && true)
      go true = refl
      go false = refl

-- the two years differ in February alone
same_months : (month : ℕ) → eqb month 2 ≡ false → get_or (0 ∷ months false) month 0 ≡ get_or (0 ∷ months true) month 0
same_months zero f = refl
same_months (suc zero) f = refl
same_months (suc (suc zero)) f = never (cc)
same_months (suc (suc (suc n))) f = refl

module _ (year month : ℕ) where
  pub no_month : 12 < month → 0 ≡ days_in year month
  unfolding days_in
  no_month h = sym (get_or-eq_default (0 ∷ months (is_leap year)) 0 {n = month} (omega arith))

  -- `days_in`: whether the year is a leap year, under the name t
  module _ (t : Bool) (is : t ≡ is_leap year) where
    pub leap_february : eqb month 2 && t ≡ true → 29 ≡ days_in year month
    unfolding days_in
    leap_february h = rw (eqb-true month 2 (and_left (eqb month 2) t h), ← is, and_right (eqb month 2) t h)

    pub other_month : eqb month 2 && t ≡ false → get_or (0 ∷ months false) month 0 ≡ days_in year month
    unfolding days_in
    other_month h = rw (← is) (go t h)
      where
        go : (t : Bool) → eqb month 2 && t ≡ false → get_or (0 ∷ months false) month 0 ≡ get_or (0 ∷ months t) month 0
        go true h = same_months month (left (eqb month 2) h)
          where
            left : (a : Bool) → a && true ≡ false → a ≡ false
            left true h = h
            left false h = refl
        go false h = refl

-- no month has more than 31
entry_most : (n : ℕ) (s : List ℕ) → all_within 0 n s ≡ true → (i : ℕ) → get_or s i 0 ≤ n
entry_most n [] h i = omega arith
entry_most n (x ∷ s) h zero = at_most 0 n x (and_left (within 0 n x) _ h)
entry_most n (x ∷ s) h (suc i) = entry_most n s (and_right (within 0 n x) _ h) i

pub days_most : (year month : ℕ) → days_in year month ≤ 31
unfolding days_in
days_most year month = entry_most 31 (0 ∷ months (is_leap year)) (go (is_leap year)) month
  where
    go : (t : Bool) → all_within 0 31 (0 ∷ months t) ≡ true
    go true = refl
    go false = refl

-- and where there is a day there is a month
month_least : (year month : ℕ) → 1 ≤ days_in year month → 1 ≤ month
unfolding days_in
month_least year zero h = h
month_least year (suc month) h = omega arith

pub month_there : (year month : ℕ) → 1 ≤ days_in year month → (1 ≤ month) × (month ≤ 12)
month_there year month h = (month_least year month h, go (leb month 12) (leb-true month 12) (leb-false month 12))
  where
    go : (t : Bool) → (t ≡ true → month ≤ 12) → (t ≡ false → 12 < month) → month ≤ 12
    go true f g = f refl
    go false f g = let z = no_month year month (g refl) in absurd (omega arith)
