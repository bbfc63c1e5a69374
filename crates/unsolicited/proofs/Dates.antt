-- The date as the code reads it: its form, its numbers two digits at a time, and whether it exists. Assumes nothing.
use mathlib.Core.Path.{◌≡◌, refl, ap, ◌∙◌}
use mathlib.Core.Bool.{Bool, true, false, not, ◌&&◌, and_assoc}
use mathlib.Core.List.{List, [], ◌∷◌}
use mathlib.Core.Option.{Option, none, some}
use Prim.Native.Nat.{ℕ, ◌+◌, ◌-◌, ◌*◌, ◌≤◌, ◌<◌}
use native.Mathlib.Omega.{arith}
use lib.Dec.{eqb, leb}
use lib.ListN.{length, get_or, take, drop}
use borrow.Author.Tests.{eq-eqb, ne_eqb, le-leb, lt-leb, not-true}
use Rattle.text.specs.Bytes.{within, all_digits}
use Rattle.text.specs.Digit.{above_zero}
use Rattle.text.specs.Number.{value_of}
use Rattle.text.specs.Part.{part_of}
use Rattle.text.proofs.AtIndex.{at_next}
use Rattle.text.proofs.Ascii.{digit_at}
use Rattle.text.proofs.Told.{difference, to_nine}
use Rattle.unsolicited.specs.Calendar.{days_in}
use Rattle.unsolicited.specs.Date.{Date, is_fraction, figures, date_in, is_date, existing, date_of}

-- `pair`: two digits, each under the name that the code has
pub two : (s : List ℕ) (at : ℕ) → at + 2 ≤ length s → part_of s at (at + 2) ≡ get_or s at 0 ∷ get_or s (at + 1) 0 ∷ []
unfolding part_of
two s at h = let z : at + 2 - at ≡ 2 = omega arith in rw (z, at_next s at (omega arith), at_next s (at + 1) (omega arith))

module _ (s : List ℕ) (at : ℕ) (all : all_digits s ≡ true) (h : at + 2 ≤ length s) where
  module _ (x : ℕ) (ex : x ≡ above_zero (get_or s at 0)) where
    pub tens : x ≤ 9
    tens = rw ex (to_nine (get_or s at 0) (digit_at s at all (omega arith)))

    module _ (y : ℕ) (ey : y ≡ above_zero (get_or s (at + 1) 0)) where
      pub units : y ≤ 9
      units = rw ey (to_nine (get_or s (at + 1) 0) (digit_at s (at + 1) all (omega arith)))

      pub pair_is : 10 * x + y ≡ figures at (at + 2) s
      unfolding figures value_of
      pair_is = rw (two s at h, ex, ey, difference (get_or s at 0) (digit_at s at all (omega arith)), difference (get_or s (at + 1) 0) (digit_at s (at + 1) all (omega arith))) (omega arith)

pub ruleset pairs = (tens, units, pair_is)

-- `year`: two of them
pub year_is : (s : List ℕ) → 4 ≤ length s → (x y : ℕ) → x ≡ figures 0 2 s → y ≡ figures 2 4 s → 100 * x + y ≡ figures 0 4 s
unfolding figures value_of part_of
year_is (a ∷ b ∷ c ∷ d ∷ s) h x y ex ey = omega arith
year_is (a ∷ b ∷ c ∷ []) h x y ex ey = absurd (omega arith)
year_is (a ∷ b ∷ []) h x y ex ey = absurd (omega arith)
year_is (a ∷ []) h x y ex ey = absurd (omega arith)
year_is [] h x y ex ey = absurd (omega arith)

-- `is_fraction`
pub none_left : (s : List ℕ) → length s ≡ 0 → true ≡ is_fraction s
unfolding is_fraction
none_left [] h = refl
none_left (x ∷ s) h = absurd (omega arith)

-- a point alone
pub one_left : (s : List ℕ) → (length s ≡ 0 → ⊥) → length s < 2 → false ≡ is_fraction s
unfolding is_fraction
one_left [] f h = absurd (f refl)
one_left (x ∷ []) f h = go (eqb x 46)
  where
    go : (t : Bool) → false ≡ (t && false)
    go true = refl
    go false = refl
one_left (x ∷ y ∷ s) f h = absurd (omega arith)

pub no_point : (s : List ℕ) → (length s ≡ 0 → ⊥) → (get_or s 0 0 ≡ 46 → ⊥) → false ≡ is_fraction s
unfolding is_fraction
no_point [] f g = absurd (f refl)
no_point (x ∷ s) f g = rw (ne_eqb x 46 g)

pub behind_point : (s t : List ℕ) → t ≡ drop 1 s → ¬ length t ≡ 0 → get_or s 0 0 ≡ 46 → (r : Bool) → r ≡ all_digits t → r ≡ is_fraction s
unfolding is_fraction
behind_point [] t is h g r e = absurd (h (ap length is))
behind_point (x ∷ s) t is h g r e =
    let l = ap length is in
    rw (eq-eqb x 46 g, le-leb 1 (length s) (omega arith)) (e ∙ ap all_digits is)

pub ruleset fractions = (none_left, one_left, no_point, behind_point)

-- `existing_date`: the code's tests are those of the definition, put together in another way
module _ (d : Date) (n : ℕ) (days : n ≡ days_in d.year d.month) where
  abbrev tests : Bool
  tests = (within 1980 2099 d.year && within 1 n d.day) && ((leb d.hour 23 && leb d.minute 59) && leb d.second 59)

  tests_are : is_date d ≡ tests
  unfolding is_date
  tests_are = rw (← days) (simp and_assoc)

  pub it_exists : tests ≡ true → some d ≡ existing d
  unfolding existing
  it_exists h = rw (tests_are, h)

  pub exists_not : tests ≡ false → none ≡ existing d
  unfolding existing
  exists_not h = rw (tests_are, h)

pub ruleset existence = (it_exists, exists_not)

-- `new`
module _ (t : List ℕ) where
  pub too_short : length t < 14 → none ≡ date_of t
  unfolding date_of
  too_short h = rw (lt-leb 14 (length t) h)

  -- the first fourteen bytes under the name p, and whether they are digits under the name x
  module _ (p : List ℕ) (front : p ≡ take 14 t) (long : 14 ≤ length t) (x : Bool) (told : x ≡ all_digits p) where
    pub no_digits : not x ≡ true → none ≡ date_of t
    unfolding date_of
    no_digits n = rw (le-leb 14 (length t) long, ← front, ← told, not-true x n)

    -- and what is left, likewise
    module _ (yes : x ≡ true) (q : List ℕ) (rest : q ≡ drop 14 t) (y : Bool) (heard : y ≡ is_fraction q) where
      pub no_fraction : not y ≡ true → none ≡ date_of t
      unfolding date_of
      no_fraction n = rw (le-leb 14 (length t) long, ← front, ← told, yes, ← rest, ← heard, not-true y n)

      pub dated : y ≡ true → (d : Date) → d ≡ date_in p → (o : Option Date) → o ≡ existing d → o ≡ date_of t
      unfolding date_of
      dated n d e o k = rw (le-leb 14 (length t) long, ← front, ← told, yes, ← rest, ← heard, n, ← e) k

pub ruleset dates = (too_short, no_digits, no_fraction, dated)
