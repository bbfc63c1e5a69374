-- What callers of the integer readers cite. A number that was read is at most its bound. What the answer to a part of a line says is stated
-- once, and for the unsigned and the signed numbers put into the set `numbers`.
use Rattle.std.proofs.Common.{◌≡◌, ℕ, zero, suc, ◌+◌, ◌^◌, ◌<◌, ◌≤◌, Bool, true, false, cond, leb, List, [], ◌∷◌, drop, ℤ, pos, sym, refl, ap, ◌∙◌, lt_of_le_of_lt, arith, lit<, pow_pos, to_z-of_z, w32, SFits, to_z, of_z, leb-true, Some, None}
use Rattle.std.specs.Prelude as Std
use mathlib.Core.Option.{Option, none, some, map}
use mir.Syntax.{Width}
use mir.Val.{hbits}
use Rattle.text.specs.Bytes.{bytes, starts_with}
use Rattle.text.specs.Number.{digits_of, value_of, worth, magnitude, unsigned, negative, signed}
use Rattle.text.specs.says.Refusal.{option_said}
use Rattle.text.specs.Reading.{Reading, refused, need}
use Rattle.text.proofs.Tests.{never}
use Rattle.text.proofs.Readings.{need_so, need_not, via}

-- a number that was read is at most its bound
up_le : (max n m : ℕ) (t : Bool) → (t ≡ true → m ≤ max) → cond t (some m) none ≡ some n → n ≤ max
up_le max n m true h e = let z : m ≡ n = cc in let k : m ≤ max = h refl in omega arith
up_le max n m false h e = never (cc)

worth_le : (base max n : ℕ) (o : Option (List ℕ)) → worth base max o ≡ some n → n ≤ max
worth_le base max n none e = never (cc)
worth_le base max n (some []) e = never (cc)
worth_le base max n (some (d ∷ ds)) e = up_le max n (value_of base (d ∷ ds)) (leb (value_of base (d ∷ ds)) max) (leb-true _ _) e

pub magnitude_le : (base max n : ℕ) (s : List ℕ) → magnitude base max s ≡ some n → n ≤ max
unfolding magnitude
magnitude_le base max n s e = worth_le base max n (digits_of base s) e

pub unsigned_le : (base max n : ℕ) (s : List ℕ) → unsigned base max s ≡ some n → n ≤ max
unfolding unsigned
unsigned_le base max n s e = by (starts_with (bytes "+") s) e
  where
    by : (t : Bool) → cond t (magnitude base max (drop 1 s)) (magnitude base max s) ≡ some n → n ≤ max
    by true k = magnitude_le base max n (drop 1 s) k
    by false k = magnitude_le base max n s k

-- and a signed one lies between -(max + 1) and max: it fits a type that holds both
pub negative_fits : (w : Width) (m : ℕ) → m ≤ 2 ^ hbits w → SFits w (negative m)
negative_fits w zero b = record { sfits = pow_pos (hbits w) }
negative_fits w (suc k) b = record { sfits = b }

module _ (w : Width) (max : ℕ) (z : ℤ) (b : max < 2 ^ hbits w) where
  below_fits : (o : Option ℕ) → ((n : ℕ) → o ≡ some n → n ≤ max + 1) → map negative o ≡ some z → SFits w z
  below_fits none f e = never (cc)
  below_fits (some m) f e =
      let i : negative m ≡ z = cc in
      let j : m ≤ max + 1 = f m refl in
      rw i at (negative_fits w m (omega arith))

  above_fits : (o : Option ℕ) → ((n : ℕ) → o ≡ some n → n ≤ max) → map pos o ≡ some z → SFits w z
  above_fits none f e = never (cc)
  above_fits (some m) f e =
      let i : pos m ≡ z = cc in
      let j : SFits w (pos m) = record { sfits = lt_of_le_of_lt (f m refl) b } in
      rw i at j

  pub signed_fits : (base : ℕ) (s : List ℕ) → signed base max s ≡ some z → SFits w z
  unfolding signed
  signed_fits base s e = by (starts_with (bytes "-") s) e
    where
      by : (t : Bool) → cond t (map negative (magnitude base (max + 1) (drop 1 s))) (map pos (unsigned base max s)) ≡ some z → SFits w z
      by true = below_fits (magnitude base (max + 1) (drop 1 s)) (λ n. magnitude_le base (max + 1) n (drop 1 s))
      by false = above_fits (unsigned base max s) (λ n. unsigned_le base max n s)

-- what the answer r to a part t says of the text s that the part is, where the reader reads so on paper
module _ {N : Type 0} (reads : List ℕ → Option N) (t s : List ℕ) (r : Std.Option N) (h : option_said r ≡ reads t) (i : t ≡ s) where
  is_said : (n : N) → r ≡ Some n → some n ≡ reads s
  is_said n e = ap option_said (sym e) ∙ h ∙ ap reads i

  not_said : r ≡ None → none ≡ reads s
  not_said e = ap option_said (sym e) ∙ h ∙ ap reads i

-- and how a reading goes on that needs the number for k
module _ (base max : ℕ) (t s : List ℕ) (r : Std.Option ℕ) where
  pub is_unsigned : (n : ℕ) → option_said r ≡ unsigned base max t → t ≡ s → r ≡ Some n → some n ≡ unsigned base max s
  is_unsigned n h i e = is_said (unsigned base max) t s r h i n e

  pub not_unsigned : option_said r ≡ unsigned base max t → t ≡ s → r ≡ None → none ≡ unsigned base max s
  not_unsigned h i e = not_said (unsigned base max) t s r h i e

  module _ {B : Type 0} (k : ℕ → Reading B) where
    pub read_unsigned : (n : ℕ) (q : Reading B) → option_said r ≡ unsigned base max t → t ≡ s → r ≡ Some n → q ≡ k n → q ≡ need (unsigned base max s) k
    read_unsigned n q h i e z = need_so 3 (unsigned base max s) n k q (is_unsigned n h i e) z

    pub miss_unsigned : option_said r ≡ unsigned base max t → t ≡ s → r ≡ None → refused 3 ≡ need (unsigned base max s) k
    miss_unsigned h i e = need_not 3 (unsigned base max s) k (not_unsigned h i e)

-- a local holds an i32 as its bits, which read back as the value
module _ (base : ℕ) (t s : List ℕ) (r : Std.Option ℤ) where
  pub is_signed : (n : ℤ) → option_said r ≡ signed base 2147483647 t → t ≡ s → r ≡ Some n → some (to_z w32 (of_z w32 n)) ≡ signed base 2147483647 s
  is_signed n h i e =
      let g : some n ≡ signed base 2147483647 s = is_said (signed base 2147483647) t s r h i n e in
      rw (to_z-of_z (signed_fits w32 2147483647 n (lit< tt) base s (sym g))) g

  pub not_signed : option_said r ≡ signed base 2147483647 t → t ≡ s → r ≡ None → none ≡ signed base 2147483647 s
  not_signed h i e = not_said (signed base 2147483647) t s r h i e

  module _ {B : Type 0} (k : ℤ → Reading B) where
    pub read_signed : (n : ℤ) (q : Reading B) → option_said r ≡ signed base 2147483647 t → t ≡ s → r ≡ Some n → q ≡ k (to_z w32 (of_z w32 n)) → q ≡ need (signed base 2147483647 s) k
    read_signed n q h i e z = need_so 3 (signed base 2147483647 s) (to_z w32 (of_z w32 n)) k q (is_signed n h i e) z

    pub miss_signed : option_said r ≡ signed base 2147483647 t → t ≡ s → r ≡ None → refused 3 ≡ need (signed base 2147483647 s) k
    miss_signed h i e = need_not 3 (signed base 2147483647 s) k (not_signed h i e)

-- an answer that is handed on
pub unsigned_via : (base max : ℕ) (o : Option ℕ) (t s : List ℕ) → o ≡ unsigned base max t → t ≡ s → o ≡ unsigned base max s
unsigned_via base max o t s = via (unsigned base max) o t s

pub signed_via : (base max : ℕ) (o : Option ℤ) (t s : List ℕ) → o ≡ signed base max t → t ≡ s → o ≡ signed base max s
signed_via base max o t s = via (signed base max) o t s

pub ruleset numbers = (unsigned_via, signed_via, read_unsigned, miss_unsigned, is_unsigned, not_unsigned, read_signed, miss_signed, is_signed, not_signed)
