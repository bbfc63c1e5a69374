-- What a line shows at its front and at its end (document 02, CR 6): each reader asks for some of it, and refuses with 3 a line that lacks it.
use Rattle.std.specs.Prelude.{◌≡◌, ℕ, zero, suc, ◌-◌, Bool, true, false, cond, ◌&&◌, ◌||◌, List, [], ◌∷◌, length, ◌==◌, slice_index}
use Rattle.text.specs.Bytes.{starts_with, ends_with}
use Rattle.text.specs.Class.{Class, digit, hex_letter, quote, comma, other, class_of}
use Rattle.text.specs.Reading.{Reading, refused}

-- what is asked of a line
pub record Condition : Type 0 where
  -- one of these texts stands at its front
  pub begins : List (List ℕ)
  -- the class of its first byte, a plus before it left out
  pub first : Class → Bool
  -- this text stands at its end
  pub ends : List ℕ
  -- the class of its last byte
  pub last : Class → Bool
  -- where it ends: how many bytes it has
  pub size : ℕ → Bool

-- nothing is asked
abbrev pub whatever : {A : Type 0} → A → Bool
whatever a = true

-- a front alone
abbrev pub beginning : List (List ℕ) → Condition
beginning ps = record { begins = ps; first = whatever; ends = []; last = whatever; size = whatever }

abbrev pub is_digit_class : Class → Bool
is_digit_class digit = true
is_digit_class hex_letter = false
is_digit_class quote = false
is_digit_class comma = false
is_digit_class other = false

-- a digit, or a letter that is a hexadecimal digit
abbrev pub is_hex_class : Class → Bool
is_hex_class digit = true
is_hex_class hex_letter = true
is_hex_class quote = false
is_hex_class comma = false
is_hex_class other = false

abbrev pub begins_one : List (List ℕ) → List ℕ → Bool
begins_one [] l = false
begins_one (p ∷ ps) l = starts_with p l || begins_one ps l

-- the bytes at the ends of a line, 0 where there is none
abbrev pub first_byte : List ℕ → ℕ
first_byte l = cond (slice_index l 0 == 43) (slice_index l 1) (slice_index l 0)

abbrev pub last_byte : List ℕ → ℕ
last_byte l = slice_index l (length l - 1)

-- the line has all that is asked for
unfoldable pub meets : Condition → List ℕ → Bool
meets c l = begins_one c.begins l && (c.first (class_of (first_byte l)) && (ends_with c.ends l && (c.last (class_of (last_byte l)) && c.size (length l))))

-- row i of a table of conditions, counted from 0; past the last, one that no line meets
abbrev pub row : ℕ → List Condition → Condition
row i [] = beginning []
row zero (c ∷ cs) = c
row (suc i) (c ∷ cs) = row i cs

-- and what reader i says; past the last, a refusal with 3
abbrev pub nth_reading : {A : Type 0} → ℕ → List (Reading A) → Reading A
nth_reading i [] = refused 3
nth_reading zero (r ∷ rs) = r
nth_reading (suc i) (r ∷ rs) = nth_reading i rs

-- a line that fails the condition of a reader gets 3 from it
abbrev pub UnmetRefused : {A : Type 0} → List Condition → List ℕ → List (Reading A) → Type 0
UnmetRefused cs l rs = (i : ℕ) → meets (row i cs) l ≡ false → nth_reading i rs ≡ refused 3

-- no line meets two of the conditions
abbrev pub NoTwo : List Condition → List ℕ → Type 0
NoTwo cs l = (i j : ℕ) → meets (row i cs) l ≡ true → meets (row j cs) l ≡ true → i ≡ j

-- the line meets no condition but that of row r
abbrev pub Points : List Condition → List ℕ → ℕ → Type 0
Points cs l r = (i : ℕ) → meets (row i cs) l ≡ true → i ≡ r
