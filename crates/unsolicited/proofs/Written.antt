-- What is read of a text is the date that it was written from, and the other way round. Assumes nothing.
use mathlib.Core.Path.{◌≡◌, refl, ap, sym, subst, ◌∙◌}
use mathlib.Core.Bool.{Bool, true, false, cond, ◌&&◌}
use mathlib.Core.List.{List, [], ◌∷◌, ◌++◌, map}
use mathlib.Core.Option.{none, some}
use Prim.Native.Nat.{ℕ, ◌+◌, ◌-◌, ◌*◌, ◌/◌, ◌%◌, ◌≤◌}
use native.Mathlib.Omega.{arith}
use lib.Dec.{eqb, leb}
use lib.ListN.{length, get_or, take, drop, length-take, take-append-drop}
use lib.Seq.{drop-drop}
use borrow.Author.Tests.{le-leb, leb-true, eqb-true}
use Rattle.text.specs.Bytes.{within, all_digits}
use Rattle.text.specs.Digit.{is_digit}
use Rattle.text.specs.Number.{value_of}
use Rattle.text.specs.Part.{part_of}
use Rattle.text.proofs.Ascii.{digit_at}
use Rattle.text.proofs.Parts.{to_end}
use Rattle.text.proofs.Tests.{and_left, and_right, at_least, at_most, not_some, never}
use Rattle.unsolicited.specs.Calendar.{days_in}
use Rattle.unsolicited.specs.Date.{Date, is_fraction, figures, date_in, is_date, existing, date_of}
use Rattle.unsolicited.specs.Written.{in_digits, fourteen_digits, Fraction, nothing, digits, Exists, Says}
use Rattle.unsolicited.specs.says.Dates.{DatesRead}
use Rattle.unsolicited.proofs.Calendars.{days_most, month_there}
use Rattle.unsolicited.proofs.Dates.{two}

-- ---- from the text to the date

-- the digits of what two digits are worth, and of what four are
module _ (x y : ℕ) (dx : is_digit x ≡ true) (dy : is_digit y ≡ true) where
  back_2 : (v : ℕ) → v ≡ 10 * (x - 48) + (y - 48) → in_digits 2 v ≡ x ∷ y ∷ []
  back_2 v e =
      let lx = at_least 48 57 x dx in let hx = at_most 48 57 x dx in let ly = at_least 48 57 y dy in let hy = at_most 48 57 y dy in
      let a : 48 + ((v / 10) % 10) ≡ x = omega arith in
      let b : 48 + ((v / 1) % 10) ≡ y = omega arith in
      rw (a, b)

  back_4 : (z w : ℕ) → is_digit z ≡ true → is_digit w ≡ true → (v : ℕ) → v ≡ 1000 * (x - 48) + (100 * (y - 48) + (10 * (z - 48) + (w - 48))) → in_digits 4 v ≡ x ∷ y ∷ z ∷ w ∷ []
  back_4 z w dz dw v e =
      let lx = at_least 48 57 x dx in let hx = at_most 48 57 x dx in let ly = at_least 48 57 y dy in let hy = at_most 48 57 y dy in
      let lz = at_least 48 57 z dz in let hz = at_most 48 57 z dz in let lw = at_least 48 57 w dw in let hw = at_most 48 57 w dw in
      let a : 48 + ((v / 1000) % 10) ≡ x = omega arith in
      let b : 48 + ((v / 100) % 10) ≡ y = omega arith in
      let c : 48 + ((v / 10) % 10) ≡ z = omega arith in
      let d : 48 + ((v / 1) % 10) ≡ w = omega arith in
      rw (a, b, c, d)

module _ (s : List ℕ) (all : all_digits s ≡ true) where
  pair_back : (at : ℕ) → at + 2 ≤ length s → in_digits 2 (figures at (at + 2) s) ≡ part_of s at (at + 2)
  unfolding figures value_of
  pair_back at h =
      rw (two s at h)
      (back_2 (get_or s at 0) (get_or s (at + 1) 0) (digit_at s at all (omega arith)) (digit_at s (at + 1) all (omega arith)) _ (omega arith))

year_back : (s : List ℕ) → all_digits s ≡ true → 4 ≤ length s → in_digits 4 (figures 0 4 s) ≡ part_of s 0 4
unfolding figures value_of part_of
year_back (a ∷ b ∷ c ∷ d ∷ s) all h =
    back_4 a b (digit_at (a ∷ b ∷ c ∷ d ∷ s) 0 all (omega arith)) (digit_at (a ∷ b ∷ c ∷ d ∷ s) 1 all (omega arith)) c d (digit_at (a ∷ b ∷ c ∷ d ∷ s) 2 all (omega arith)) (digit_at (a ∷ b ∷ c ∷ d ∷ s) 3 all (omega arith)) _ (omega arith)
year_back (a ∷ b ∷ c ∷ []) all h = absurd (omega arith)
year_back (a ∷ b ∷ []) all h = absurd (omega arith)
year_back (a ∷ []) all h = absurd (omega arith)
year_back [] all h = absurd (omega arith)

-- a part before the rest
step : (s : List ℕ) (a b : ℕ) → a ≤ b → (p r : List ℕ) → p ≡ part_of s a b → r ≡ drop b s → p ++ r ≡ drop a s
unfolding part_of
step s a b h p r e f =
    let z : a + (b - a) ≡ b = omega arith in
    rw (e, f) (ap (λ (r : List ℕ). take (b - a) (drop a s) ++ r) (ap (λ (n : ℕ). drop n s) (sym z) ∙ sym (drop-drop (b - a) a s)) ∙ take-append-drop (b - a) (drop a s))

-- so six of them are the whole
module _ (s : List ℕ) (all : all_digits s ≡ true) (h : length s ≡ 14) where
  last : in_digits 2 (figures 12 14 s) ≡ drop 12 s
  last = pair_back s all 12 (omega arith) ∙ ap (λ (n : ℕ). part_of s 12 n) (sym h) ∙ to_end s 12

  written_back : fourteen_digits (date_in s) ≡ s
  unfolding date_in
  written_back =
      step s 0 4 (omega arith) _ _ (year_back s all (omega arith))
      (step s 4 6 (omega arith) _ _ (pair_back s all 4 (omega arith))
      (step s 6 8 (omega arith) _ _ (pair_back s all 6 (omega arith))
      (step s 8 10 (omega arith) _ _ (pair_back s all 8 (omega arith))
      (step s 10 12 (omega arith) _ _ (pair_back s all 10 (omega arith)) last))))

-- a fraction, both ways
fraction : (s : List ℕ) → is_fraction s ≡ true → Fraction s
unfolding is_fraction
fraction [] h = nothing
fraction (x ∷ []) h = let k : leb 1 0 ≡ true = and_left (leb 1 0) true (and_right (eqb x 46) (leb 1 0 && true) h) in never (cc)
fraction (x ∷ d ∷ ds) h = subst (λ (p : ℕ). Fraction (p ∷ d ∷ ds)) (sym (eqb-true x 46 (and_left (eqb x 46) _ h))) (digits d ds (and_right (leb 1 (length (d ∷ ds))) _ (and_right (eqb x 46) _ h)))

fraction_is : (s : List ℕ) → Fraction s → is_fraction s ≡ true
unfolding is_fraction
fraction_is s nothing = refl
fraction_is s (digits d ds h) = rw (le-leb 1 (length (d ∷ ds)) (omega arith)) h

-- the tests, both ways
five : (a b c d e : Bool) → a && b && c && d && e ≡ true → (a ≡ true) × (b ≡ true) × (c ≡ true) × (d ≡ true) × (e ≡ true)
five true true true true true h = (refl, refl, refl, refl, refl)
five true true true true false h = never (cc)
five true true true false e h = never (cc)
five true true false d e h = never (cc)
five true false c d e h = never (cc)
five false b c d e h = never (cc)

module _ (d : Date) where
  exists : is_date d ≡ true → Exists d
  unfolding is_date
  exists h =
      let k = five (within 1980 2099 d.year) (within 1 (days_in d.year d.month) d.day) (leb d.hour 23) (leb d.minute 59) (leb d.second 59) h in
      let low = at_least 1 (days_in d.year d.month) d.day k.1 in
      let high = at_most 1 (days_in d.year d.month) d.day k.1 in
      record {
        year = (at_least 1980 2099 d.year k.0, at_most 1980 2099 d.year k.0);
        month = month_there d.year d.month (omega arith);
        day = (low, high);
        hour = leb-true d.hour 23 k.2;
        minute = leb-true d.minute 59 k.3;
        second = leb-true d.second 59 k.4;
      }

  is_date_lem : Exists d → is_date d ≡ true
  unfolding is_date
  is_date_lem e = rw (le-leb 1980 d.year e.year.0, le-leb d.year 2099 e.year.1, le-leb 1 d.day e.day.0, le-leb d.day (days_in d.year d.month) e.day.1, le-leb d.hour 23 e.hour, le-leb d.minute 59 e.minute, le-leb d.second 59 e.second)

-- an accepted text has the form, and its date exists
module _ (t : List ℕ) (d : Date) where
  abbrev form : Bool
  form = leb 14 (length t) && (all_digits (take 14 t) && is_fraction (drop 14 t))

  accepted : date_of t ≡ some d → (form ≡ true) × (is_date (date_in (take 14 t)) ≡ true) × (date_in (take 14 t) ≡ d)
  unfolding date_of existing
  accepted = go form (is_date (date_in (take 14 t)))
    where
      go : (a b : Bool) → cond a (cond b (some (date_in (take 14 t))) none) none ≡ some d → (a ≡ true) × (b ≡ true) × (date_in (take 14 t) ≡ d)
      go true true e = (refl, refl, cc)
      go true false e = not_some e
      go false b e = not_some e

  pub said : date_of t ≡ some d → Says t d
  said e =
      let k = accepted e in
      let long : 14 ≤ length t = leb-true 14 (length t) (and_left (leb 14 (length t)) _ k.0) in
      let rest = and_right (leb 14 (length t)) _ k.0 in
      let all : all_digits (take 14 t) ≡ true = and_left (all_digits (take 14 t)) _ rest in
      let h : length (take 14 t) ≡ 14 = length-take 14 t ∙ omega arith in
      record {
        exists = subst Exists k.2 (exists (date_in (take 14 t)) k.1);
        behind = drop 14 t;
        fraction = fraction (drop 14 t) (and_right (all_digits (take 14 t)) _ rest);
        is = sym (take-append-drop 14 t) ∙ ap (λ (s : List ℕ). s ++ drop 14 t) (sym (written_back (take 14 t) all h) ∙ ap fourteen_digits k.2);
      }

-- ---- from the date to the text

digit_ok : (n : ℕ) → is_digit (48 + (n % 10)) ≡ true
digit_ok n = rw (le-leb 48 (48 + (n % 10)) (omega arith), le-leb (48 + (n % 10)) 57 (omega arith))

all_digits_lem : (d : Date) → all_digits (fourteen_digits d) ≡ true
all_digits_lem d = simp digit_ok

-- what the digits of a number are worth
two_worth : (v : ℕ) → v ≤ 99 → value_of 10 (map (λ (x : ℕ). x - 48) (in_digits 2 v)) ≡ v
unfolding value_of
two_worth v h = omega arith

-- each place is ten of the next
in_turn : (p q r v a b c d : ℕ) → a ≡ p → q ≡ p * 10 + b → r ≡ q * 10 + c → v ≡ r * 10 + d → value_of 10 ((48 + a - 48) ∷ (48 + b - 48) ∷ (48 + c - 48) ∷ (48 + d - 48) ∷ []) ≡ v
unfolding value_of
in_turn p q r v a b c d x y z w = omega arith

four_worth : (v : ℕ) → v ≤ 9999 → value_of 10 (map (λ (x : ℕ). x - 48) (in_digits 4 v)) ≡ v
four_worth v h = in_turn (v / 1000) (v / 100) (v / 10) v _ _ _ _ (omega arith) (omega arith) (omega arith) (omega arith)

same_date : (year month day hour minute second : ℕ) (d : Date) → year ≡ d.year → month ≡ d.month → day ≡ d.day → hour ≡ d.hour → minute ≡ d.minute → second ≡ d.second
    → record { year = year; month = month; day = day; hour = hour; minute = minute; second = second } ≡ d
same_date year month day hour minute second d a b c e f g = rw (a, b, c, e, f, g)

module _ (d : Date) (e : Exists d) where
  read_back : date_in (fourteen_digits d) ≡ d
  unfolding date_in figures part_of
  read_back =
      same_date _ _ _ _ _ _ d (four_worth d.year (omega (arith, e.year.1))) (two_worth d.month (omega (arith, e.month.1)))
      (two_worth d.day (omega (arith, e.day.1, days_most d.year d.month))) (two_worth d.hour (omega (arith, e.hour)))
      (two_worth d.minute (omega (arith, e.minute))) (two_worth d.second (omega (arith, e.second)))

  unsaid : (f : List ℕ) → Fraction f → date_of (fourteen_digits d ++ f) ≡ some d
  unfolding date_of existing
  unsaid f h = rw (le-leb 14 (length (fourteen_digits d ++ f)) (omega arith), all_digits_lem d, fraction_is f h, read_back, is_date_lem d e)

pub read_so : (t : List ℕ) (d : Date) → Says t d → date_of t ≡ some d
read_so t d h = ap date_of h.is ∙ unsaid d h.exists h.behind h.fraction

pub dates_read : DatesRead
dates_read t r k d = (λ e. said t d (sym k ∙ e), λ h. k ∙ read_so t d h)
