-- A number written in decimal is all digits, and reads back as itself (document 01, "Numbers in a line"). Assumes nothing.
use mathlib.Core.Path.{◌≡◌, refl, ap, sym, ◌∙◌}
use mathlib.Core.Bool.{Bool, true, false, cond, ◌&&◌}
use mathlib.Core.List.{List, [], ◌∷◌, ◌++◌}
use mathlib.Core.Option.{none as nothing, some}
use Prim.Native.Nat.{ℕ, zero, suc, ◌+◌, ◌-◌, ◌*◌, ◌/◌, ◌%◌, ◌^◌, ◌≤◌, ◌<◌}
use native.Mathlib.Nat.{pow-zero, pow-suc, mul-one, mul_assoc}
use native.Mathlib.Omega.{arith}
use lib.Dec.{ltb}
use lib.ListN.{length, length-append}
use borrow.Author.Tests.{lt-ltb, le-leb, ltb-true, ltb-false, ne_eqb}
use Rattle.text.specs.Bytes.{bytes, starts_with, all_digits}
use Rattle.text.specs.Number.{digit_value, digits_of, value_of, up_to, worth, magnitude, unsigned}
use Rattle.at_command.specs.Piece.{decimal}
use Rattle.at_command.proofs.Decimals.{decimal_one, decimal_more}

-- s has the digits ds
data Spells : List ℕ → List ℕ → Type 0 where
  none : Spells [] []
  next : {d : ℕ} {s ds : List ℕ} → d < 10 → Spells s ds → Spells ((48 + d) ∷ s) (d ∷ ds)

last : {s ds : List ℕ} (d : ℕ) → d < 10 → Spells s ds → Spells (s ++ (48 + d) ∷ []) (ds ++ d ∷ [])
last d h none = next h none
last d h (next k r) = next k (last d h r)

is_digit_lem : (d : ℕ) → d < 10 → digit_value (48 + d) ≡ some d
unfolding digit_value
is_digit_lem d h = let e : 48 + d - 48 ≡ d = omega arith in rw (le-leb 48 (48 + d) (omega arith), le-leb (48 + d) 57 (omega arith), e)

reads : {s ds : List ℕ} → Spells s ds → digits_of 10 s ≡ some ds
unfolding digits_of
reads none = refl
reads (next {d} h r) = rw (is_digit_lem d h, lt-ltb d 10 h, reads r)

digits : {s ds : List ℕ} → Spells s ds → all_digits s ≡ true
digits none = refl
digits (next {d} h r) = rw (le-leb 48 (48 + d) (omega arith), le-leb (48 + d) 57 (omega arith)) (digits r)

value_last : (ds : List ℕ) (d : ℕ) → value_of 10 (ds ++ d ∷ []) ≡ value_of 10 ds * 10 + d
unfolding value_of
value_last [] d = rw (pow-zero, mul-one) (omega arith)
value_last (e ∷ ds) d =
    let l : length (ds ++ d ∷ []) ≡ suc (length ds) = length-append ds (d ∷ []) ∙ omega arith in
    let p : e * 10 ^ suc (length ds) ≡ e * 10 ^ length ds * 10 = rw (pow-suc) (sym (mul_assoc e (10 ^ length ds) 10)) in
    let r = value_last ds d in
    rw (l, p) (omega arith)

record Digits (n : ℕ) : Type 0 where
  digits : List ℕ
  spells : Spells (decimal n) digits
  value : value_of 10 digits ≡ n

all_digits_lem : (k n : ℕ) → n < k → Digits n
unfolding value_of
all_digits_lem zero n h = absurd (omega arith)
all_digits_lem (suc k) n h = by (ltb n 10) (ltb-true n 10) (ltb-false n 10) (λ (l : 10 ≤ n). all_digits_lem k (n / 10) (omega arith))
  where
    by : (t : Bool) → (t ≡ true → n < 10) → (t ≡ false → 10 ≤ n) → (10 ≤ n → Digits (n / 10)) → Digits n
    by true f g r =
        let l = f refl in
        record { digits = n ∷ []; spells = rw (decimal_one n l) (next l none); value = rw (pow-zero, mul-one) (omega arith) }
    by false f g r =
        let l = g refl in
        let t = r l in
        let v = t.value in
        record {
          digits = t.digits ++ (n % 10) ∷ [];
          spells = rw (decimal_more n l) (last (n % 10) (omega arith) t.spells);
          value = value_last t.digits (n % 10) ∙ omega arith;
        }

whole : (max n : ℕ) (s ds : List ℕ) → Spells s ds → (s ≡ [] → ⊥) → value_of 10 ds ≡ n → n ≤ max → unsigned 10 max s ≡ some n
unfolding starts_with unsigned magnitude
whole max n s ds none e v h = absurd (e refl)
whole max n s ds (next {d} {s = t} k r) e v h =
    let plus : starts_with (bytes "+") ((48 + d) ∷ t) ≡ false = ap (λ (b : Bool). b && true) (ne_eqb (48 + d) 43 (λ z. omega arith)) in
    ap (λ (b : Bool). cond b (magnitude 10 max t) (magnitude 10 max ((48 + d) ∷ t))) plus
    ∙ ap (worth 10 max) (reads (next k r))
    ∙ ap (up_to max) v
    ∙ ap (λ (b : Bool). cond b (some n) nothing) (le-leb n max h)

some_digit : (n : ℕ) → decimal n ≡ [] → ⊥
some_digit n e = by (ltb n 10) (ltb-true n 10) (ltb-false n 10)
  where
    by : (t : Bool) → (t ≡ true → n < 10) → (t ≡ false → 10 ≤ n) → ⊥
    by true f g = let z = ap length (sym (decimal_one n (f refl)) ∙ e) in omega arith
    by false f g =
        let z = ap length (sym (decimal_more n (g refl)) ∙ e) in
        let l = length-append (decimal (n / 10)) ((48 + n % 10) ∷ []) in
        omega arith

pub decimal_reads : (max n : ℕ) → n ≤ max → unsigned 10 max (decimal n) ≡ some n
decimal_reads max n h = let d = all_digits_lem (suc n) n (omega arith) in whole max n (decimal n) d.digits d.spells (some_digit n) d.value h

pub decimal_digits : (n : ℕ) → all_digits (decimal n) ≡ true
decimal_digits n = digits (all_digits_lem (suc n) n (omega arith)).spells
