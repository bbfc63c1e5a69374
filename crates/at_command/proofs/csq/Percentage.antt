-- The strengths lie from 0 to 100, near the exact percentage, and rise with the rssi: tests over all of them. And no line is read with another strength.
use mathlib.Core.Path.{◌≡◌, refl}
use mathlib.Core.Bool.{Bool, true, false, not, cond, ◌&&◌}
use mathlib.Core.List.{List}
use mathlib.Core.Option.{none, some}
use Prim.Native.Nat.{ℕ, ◌-◌, ◌*◌, ◌≤◌, ◌<◌}
use native.Mathlib.Omega.{arith}
use lib.Dec.{T, leb, ltb, leb→le, ltb→lt, eqb, lit<}
use lib.IntN.{pos, nat_abs, ◌+ℤ◌}
use lib.Ieee.{Float, nan, inf, fin, up, down, mul, div, of_int}
use lib.Ieee.Exact.{HasValue}
use lib.Ieee.Fits.{and_l, and_r, down_pos}
use borrow.Author.Tests.{leb-true}
use lib.ListN.{drop}
use Rattle.text.specs.Bytes.{bytes, starts_with, has}
use Rattle.text.specs.Part.{before, after}
use Rattle.text.specs.Number.{unsigned}
use Rattle.text.specs.Line.{checked}
use Rattle.text.specs.Reading.{read}
use Rattle.text.proofs.Tests.{never}
use Rattle.text.proofs.Yields.{Yields, yields_read, yields_only, yields_need, yields_checked}
use Rattle.text.proofs.Below.{every_below, below, eqz, eqz→eq}
use Rattle.at_command.specs.Csq.{dbm_of, strength_of, quality_of, level_of, Signal, csq_codes, csq_rest, csq_text, Percent, Less, Strength}
use Rattle.at_command.proofs.csq.Laws.{each}

-- dBm + 115 as a whole number
abbrev over : ℕ → ℕ
over r = nat_abs (dbm_of r +ℤ pos 115)

over_is : (r : ℕ) → r ≤ 31 → dbm_of r +ℤ pos 115 ≡ pos (over r)
unfolding dbm_of
over_is r h = eqz→eq (dbm_of r +ℤ pos 115) (pos (over r)) (each (λ r. eqz (dbm_of r +ℤ pos 115) (pos (over r))) tt r h)

-- x is a fraction that is not below zero: top x / bottom x
abbrev fraction : Float → Bool
fraction nan = false
fraction (inf s) = false
fraction (fin s m e) = not s

abbrev top : Float → ℕ
top nan = 0
top (inf s) = 0
top (fin s m e) = m * up e

abbrev bottom : Float → ℕ
bottom nan = 1
bottom (inf s) = 1
bottom (fin s m e) = down e

bottom_pos : (x : Float) → 0 < bottom x
bottom_pos nan = lit< tt
bottom_pos (inf s) = lit< tt
bottom_pos (fin s m e) = down_pos e

value_of : (x : Float) → T (fraction x) → HasValue x false (top x) (bottom x)
value_of nan t = absurd t
value_of (inf s) t = absurd t
value_of (fin true m e) t = absurd t
value_of (fin false m e) t = (refl, refl)

fractions : (r : ℕ) → r ≤ 31 → T (fraction (strength_of r))
unfolding dbm_of strength_of mul div of_int
fractions = each (λ r. fraction (strength_of r)) tt

-- what `Percent` says of n / d at dBm + 115
bounded : ℕ → ℕ → ℕ → Bool
bounded o n d = leb n (100 * d) && (leb (100000 * (63 * n - 100 * o * d)) (63 * d) && leb (100000 * (100 * o * d - 63 * n)) (63 * d))

all_bounded : (r : ℕ) → r ≤ 31 → T (bounded (over r) (top (strength_of r)) (bottom (strength_of r)))
unfolding bounded dbm_of strength_of mul div of_int
all_bounded = each (λ r. bounded (over r) (top (strength_of r)) (bottom (strength_of r))) tt

percent_of : (r o : ℕ) (x : Float) → dbm_of r +ℤ pos 115 ≡ pos o → T (fraction x) → T (bounded o (top x) (bottom x)) → Percent r x
unfolding bounded
percent_of r o x h f t =
    let n = top x in
    let d = bottom x in
    let A = leb n (100 * d) in
    let B = leb (100000 * (63 * n - 100 * o * d)) (63 * d) in
    let C = leb (100000 * (100 * o * d - 63 * n)) (63 * d) in
    record {
      n = n;
      d = d;
      over = o;
      positive = bottom_pos x;
      value = value_of x f;
      most = leb→le n (100 * d) (and_l A (B && C) t);
      above = h;
      high = leb→le (100000 * (63 * n - 100 * o * d)) (63 * d) (and_l B C (and_r A (B && C) t));
      low = leb→le (100000 * (100 * o * d - 63 * n)) (63 * d) (and_r B C (and_r A (B && C) t));
    }

pub percent : (r : ℕ) → r ≤ 31 → Percent r (strength_of r)
percent r h = percent_of r (over r) (strength_of r) (over_is r h) (fractions r h) (all_bounded r h)

-- the order of two fractions
under : Float → Float → Bool
under x y = ltb (top x * bottom y) (top y * bottom x)

all_under : (i j : ℕ) → i < j → j ≤ 31 → T (under (strength_of i) (strength_of j))
unfolding under dbm_of strength_of mul div of_int
all_under i j l h = below j (λ i. under (strength_of i) (strength_of j)) (each (λ j. every_below j (λ i. under (strength_of i) (strength_of j))) tt j h) i l

pub rises : (i j : ℕ) → i < j → j ≤ 31 → Less (strength_of i) (strength_of j)
unfolding under
rises i j l h =
    let x = strength_of i in
    let y = strength_of j in
    record {
      n = top x;
      d = bottom x;
      m = top y;
      e = bottom y;
      positive = (bottom_pos x, bottom_pos y);
      left = value_of x (fractions i (omega arith));
      right = value_of y (fractions j h);
      less = ltb→lt (top x * bottom y) (top y * bottom x) (all_under i j l h);
    }

level : (max : ℕ) (f : ℕ → Float) (n : ℕ) (x : Float) → level_of max f n ≡ some (some x) → (n ≤ max) × (x ≡ f n)
unfolding level_of
level max f n x = go (leb n max) (leb-true n max) (eqb n 99)
  where
    go : (t : Bool) → (t ≡ true → n ≤ max) → (u : Bool) → cond t (some (some (f n))) (cond u (some none) none) ≡ some (some x) → (n ≤ max) × (x ≡ f n)
    go true h u e = (h refl, cc)
    go false h true e = never (cc)
    go false h false e = never (cc)

abbrev Known : Signal → Type 0
Known g = (x : Float) → g.strength ≡ some x → Strength x

module _ (s : List ℕ) where
  known : Yields Known (λ (k : ℕ). Unit {0}) (csq_text s)
  unfolding csq_text csq_rest csq_codes
  known =
      yields_only Known _ (starts_with (bytes "+CSQ: ") s) _ tt (λ front.
      yields_only Known _ (has 44 (drop 6 s)) _ tt (λ two.
      yields_need Known _ (unsigned 10 255 (before 44 (drop 6 s))) _ tt (λ r i.
      yields_need Known _ (unsigned 10 255 (after 44 (drop 6 s))) _ tt (λ b j.
      yields_need Known _ (level_of 31 strength_of r) _ tt (λ l e.
      yields_need Known _ (level_of 7 quality_of b) _ tt (λ q k x z.
      let v : (r ≤ 31) × (x ≡ strength_of r) = level 31 strength_of r x (rw z at e) in
      record { rssi = r; most = v.0; is = v.1; percent = rw v.1 (percent r v.0) }))))))

  -- what `from_line` answers
  pub strength_read : (g : Signal) (x : Float) → checked csq_text s ≡ read g → g.strength ≡ some x → Strength x
  strength_read g x e = yields_read Known (λ (k : ℕ). Unit {0}) (checked csq_text s) g (yields_checked Known _ csq_text s (λ n. tt) known) e x
