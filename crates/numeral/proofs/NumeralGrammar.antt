-- What the paper's function says is what the grammar says: `sound`, `complete`, `unsaid`, `silent`; and no text says two things: `single`.
use mathlib.Core.Path.{◌≡◌, refl, sym, ap, ◌∙◌, subst}
use mathlib.Core.Bool.{Bool, true, false, cond, ◌&&◌, ◌||◌}
use mathlib.Core.List.{List, [], ◌∷◌, ◌++◌, append-nil}
use mathlib.Core.Option.{Option, none, some}
use Prim.Native.Nat.{ℕ, suc, ◌+◌, ◌^◌, ◌≤◌, ◌<◌}
use native.Mathlib.Nat.{pow-le-pow_right, add-zero, zero-add}
use native.Mathlib.Numerals.{add-one}
use native.Mathlib.Omega.{arith}
use lib.Dec.{eqb, leb}
use lib.ListN.{length, take, drop, length-append, drop_of_length-le}
use lib.Seq.{take-length, take-append_seam, drop-append-add}
use borrow.Author.Tests.{ne_eqb, eqb-true, le-leb, leb-true}
use Rattle.text.specs.Bytes.{bytes, starts_with, index_of}
use Rattle.text.specs.Part.{before, after}
use Rattle.text.specs.Number.{digits_of, value_of}
use Rattle.text.proofs.Tests.{not_some}
use Rattle.numeral.specs.Numeral.{Decimal, point, unsigned, decimal, behind_sign, decimal_of}
use Rattle.numeral.specs.Grammar.{Sign, bare, plus, minus, Body, whole, pointed, Says}
use Rattle.numeral.proofs.Digits.{digit_ge, first, digits_length, digits_value}

-- ---- what `decimal` makes

record Made (n : Bool) (p : ℕ) (o : Option (List ℕ)) (d : Decimal) : Type 0 where
  digits : List ℕ
  are : o ≡ some digits
  at_least : 1 ≤ length digits
  at_most : length digits ≤ 15
  is : d ≡ record { negative = n; number = value_of 10 digits; places = p }

made : (n : Bool) (p : ℕ) (o : Option (List ℕ)) (d : Decimal) → decimal n p o ≡ some d → Made n p o d
made n p none d e = not_some e
made n p (some ds) d e = go (leb 1 (length ds)) (leb (length ds) 15) (leb-true 1 (length ds)) (leb-true (length ds) 15) e
  where
    go : (a b : Bool) → (a ≡ true → 1 ≤ length ds) → (b ≡ true → length ds ≤ 15)
        → cond (a && b) (some (record { negative = n; number = value_of 10 ds; places = p })) none ≡ some d → Made n p (some ds) d
    go true true l h e = record { digits = ds; are = refl; at_least = l refl; at_most = h refl; is = cc }
    go true false l h e = not_some e
    go false b l h e = not_some e

-- ---- the function's parts are the grammar's

longer : {t f b : List ℕ} (x : ℕ) → Body t f b → Body (x ∷ t) (x ∷ f) b
longer x whole = whole
longer x pointed = pointed

body_of : (t : List ℕ) → Body t (before point t) (after point t)
body_of [] = whole
body_of (x ∷ t) = go (eqb x point) (eqb-true x point) (body_of t)
  where
    go : (a : Bool) → (a ≡ true → x ≡ point) → Body t (before point t) (after point t)
        → Body (x ∷ t) (take (cond a 0 (suc (index_of point t))) (x ∷ t)) (drop (cond a 0 (suc (index_of point t)) + 1) (x ∷ t))
    go true e r = rw (e refl) pointed
    go false e r = rw add-one (longer x (rw add-one at r))

record Signed (n : Bool) (s t : List ℕ) : Type 0 where
  sign : List ℕ
  is : Sign n sign
  text : s ≡ sign ++ t

sign_of : (s : List ℕ) → Signed (starts_with (bytes "-") s) s (unsigned s)
unfolding unsigned starts_with
sign_of [] = record { sign = []; is = bare; text = refl }
sign_of (x ∷ s) = go (eqb x 45) (eqb x 43) (eqb-true x 45) (eqb-true x 43)
  where
    go : (a b : Bool) → (a ≡ true → x ≡ 45) → (b ≡ true → x ≡ 43) → Signed (a && true) (x ∷ s) (cond ((a && true) || (b && true)) s (x ∷ s))
    go true b e f = record { sign = bytes "-"; is = minus; text = ap (λ (y : ℕ). y ∷ s) (e refl) }
    go false true e f = record { sign = bytes "+"; is = plus; text = ap (λ (y : ℕ). y ∷ s) (f refl) }
    go false false e f = record { sign = []; is = bare; text = refl }

pub sound : (s : List ℕ) (d : Decimal) → decimal_of s ≡ some d → Says s d
unfolding decimal_of behind_sign
sound s d e =
    let t = unsigned s in
    let g = sign_of s in
    let m = made (starts_with (bytes "-") s) (length (after point t)) (digits_of 10 (before point t ++ after point t)) d e in
    record {
      sign = g.sign;
      body = t;
      front = before point t;
      back = after point t;
      digits = m.digits;
      text = g.text;
      is_sign = rw m.is g.is;
      is_body = body_of t;
      are_digits = m.are;
      at_least = m.at_least;
      at_most = m.at_most;
      value = ap (λ (x : Decimal). x.number) m.is;
      places = ap (λ (x : Decimal). x.places) m.is;
    }

-- ---- and the grammar's parts are the function's

-- in front of what follows them, digits have no point
clear : (f b r ds : List ℕ) → digits_of 10 (f ++ b) ≡ some ds → index_of point (f ++ r) ≡ length f + index_of point r
clear [] b r ds e = sym (zero-add (index_of point r))
clear (x ∷ f) b r ds e =
    let h = first x (f ++ b) ds e in
    let n : x ≡ point → ⊥ = λ q. omega (arith, digit_ge x h.worth h.is) in
    rw (ne_eqb x point n, clear f b r h.others h.are) (omega arith)

split : {t f b : List ℕ} → Body t f b → (ds : List ℕ) → digits_of 10 (f ++ b) ≡ some ds → (before point t ≡ f) × (after point t ≡ b)
split {f = f} whole ds e =
    let i : index_of point f ≡ length f = subst (λ (l : List ℕ). index_of point l ≡ length f) (append-nil f) (clear f [] [] ds e ∙ add-zero (length f)) in
    (rw i (take-length f), rw i (drop_of_length-le f {i = length f + 1} (omega arith)))
split {f = f} {b = b} pointed ds e =
    let i : index_of point (f ++ point ∷ b) ≡ length f = clear f b (point ∷ b) ds e ∙ add-zero (length f) in
    (rw i (take-append_seam f (point ∷ b)), rw i (drop-append-add f (point ∷ b) 1))

-- a body begins with a digit or the point, and with no sign
no_sign : {t f b : List ℕ} → Body t f b → (ds : List ℕ) → digits_of 10 (f ++ b) ≡ some ds → (c : ℕ) → c < 46 → starts_with (c ∷ []) t ≡ false
unfolding starts_with
no_sign {f = []} whole ds e c h = refl
no_sign {f = []} {b = b} pointed ds e c h = rw (ne_eqb point c (λ q. omega arith))
no_sign {f = x ∷ f} whole ds e c h = rw (ne_eqb x c (λ q. omega (arith, digit_ge x _ (first x (f ++ []) ds e).is)))
no_sign {f = x ∷ f} {b = b} pointed ds e c h = rw (ne_eqb x c (λ q. omega (arith, digit_ge x _ (first x (f ++ b) ds e).is)))

with_sign : {n : Bool} {g t f b : List ℕ} → Sign n g → Body t f b → (ds : List ℕ) → digits_of 10 (f ++ b) ≡ some ds → decimal_of (g ++ t) ≡ behind_sign n t
unfolding decimal_of unsigned starts_with
with_sign bare y ds e = rw (no_sign y ds e 45 (omega arith), no_sign y ds e 43 (omega arith))
with_sign plus y ds e = refl
with_sign minus y ds e = refl

pub complete : (s : List ℕ) (d : Decimal) → Says s d → decimal_of s ≡ some d
unfolding behind_sign
complete s d r =
    let p = split r.is_body r.digits r.are_digits in
    rw (r.text, with_sign r.is_sign r.is_body r.digits r.are_digits, p.0, p.1, r.are_digits, le-leb 1 (length r.digits) r.at_least, le-leb (length r.digits) 15 r.at_most, ← r.value, ← r.places)

pub single : (s : List ℕ) (d e : Decimal) → Says s d → Says s e → d ≡ e
single s d e a b = let p = complete s d a in let q = complete s e b in cc

-- refused exactly where nothing is said
pub unsaid : (s : List ℕ) → decimal_of s ≡ none → (d : Decimal) → Says s d → ⊥
unsaid s e d r = not_some (sym e ∙ complete s d r)

pub silent : (s : List ℕ) → ((d : Decimal) → Says s d → ⊥) → decimal_of s ≡ none
silent s f = go (decimal_of s) refl
  where
    go : (o : Option Decimal) → decimal_of s ≡ o → decimal_of s ≡ none
    go none e = e
    go (some d) e = absurd (f d (sound s d e))

-- ---- a numeral's two numbers are small

pub small_behind : (n : Bool) (t : List ℕ) (d : Decimal) → behind_sign n t ≡ some d → (d.number < 10 ^ 15) × (d.places ≤ 15)
unfolding behind_sign
small_behind n t d e =
    let front = before point t in
    let back = after point t in
    let m = made n (length back) (digits_of 10 (front ++ back)) d e in
    let p : 10 ^ length m.digits ≤ 10 ^ 15 = pow-le-pow_right {n = 10} (omega arith) {i = length m.digits} {j = 15} m.at_most in
    let long = digits_length (front ++ back) m.digits m.are in
    let number : d.number ≡ value_of 10 m.digits = ap (λ (x : Decimal). x.number) m.is in
    let places : d.places ≡ length back = ap (λ (x : Decimal). x.places) m.is in
    (omega (arith, digits_value (front ++ back) m.digits m.are), omega (arith, length-append front back, m.at_most))

pub small : (s : List ℕ) (d : Decimal) → decimal_of s ≡ some d → (d.number < 10 ^ 15) × (d.places ≤ 15)
unfolding decimal_of
small s d e = small_behind (starts_with (bytes "-") s) (unsigned s) d e
