-- Whole numbers in a line, as Rust's `parse` and `from_str_radix` read them (document 01, "Numbers in a line"): one optional sign, then at
-- least one ASCII digit of the base, and a value that the type can hold. Leading zeros are allowed.
use Rattle.std.specs.Prelude.{ℕ, ◌+◌, ◌-◌, ◌*◌, ◌^◌, cond, List, [], ◌∷◌, length, drop, ℤ, pos, neg_ℤ, nat_le, nat_lt}
use Rattle.std.proofs.Math.Option.{Option, none, some, map}
use Rattle.text.specs.Bytes.{bytes, within, starts_with}

-- what a digit is worth: '0' to '9', and the letters 'A' to 'F' of both cases; none for any other byte
unfoldable pub digit_value : ℕ → Option ℕ
digit_value x =
    cond (within 48 57 x) (some (x - 48))
    (cond (within 65 70 x) (some (x - 55))
    (cond (within 97 102 x) (some (x - 87)) none))

-- a digit of the base
abbrev pub below : ℕ → Option ℕ → Option ℕ
below base none = none
below base (some d) = cond (nat_lt d base) (some d) none

-- a byte's digit before those of the rest
abbrev pub prefixed : Option ℕ → Option (List ℕ) → Option (List ℕ)
prefixed (some d) (some ds) = some (d ∷ ds)
prefixed (some d) none = none
prefixed none o = none

-- the digits that a text's bytes are in the base; none where a byte is no digit of it
unfoldable pub digits_of : ℕ → List ℕ → Option (List ℕ)
digits_of base [] = some []
digits_of base (x ∷ s) = prefixed (below base (digit_value x)) (digits_of base s)

-- what digits are worth together: each the base to the count of those behind it
unfoldable pub value_of : ℕ → List ℕ → ℕ
value_of base [] = 0
value_of base (d ∷ ds) = d * base ^ length ds + value_of base ds

-- a value, if it is at most max
abbrev pub up_to : ℕ → ℕ → Option ℕ
up_to max n = cond (nat_le n max) (some n) none

-- the value of digits, of which there is at least one
abbrev pub worth : ℕ → ℕ → Option (List ℕ) → Option ℕ
worth base max none = none
worth base max (some []) = none
worth base max (some (d ∷ ds)) = up_to max (value_of base (d ∷ ds))

-- the number of at most max that a text's bytes are the digits of
unfoldable pub magnitude : ℕ → ℕ → List ℕ → Option ℕ
magnitude base max s = worth base max (digits_of base s)

-- an unsigned number of at most max: a plus may stand before it, and nothing else
unfoldable pub unsigned : ℕ → ℕ → List ℕ → Option ℕ
unsigned base max s = cond (starts_with (bytes "+") s) (magnitude base max (drop 1 s)) (magnitude base max s)

abbrev pub negative : ℕ → ℤ
negative n = neg_ℤ (pos n)

-- a signed number from -(max + 1) to max: a minus may stand before it too
unfoldable pub signed : ℕ → ℕ → List ℕ → Option ℤ
signed base max s =
    cond (starts_with (bytes "-") s)
    (map negative (magnitude base (max + 1) (drop 1 s)))
    (map pos (unsigned base max s))
