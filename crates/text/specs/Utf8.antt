-- UTF-8 by the grammar of RFC 3629, section 4.
use Rattle.std.specs.Prelude.{◌≡◌, ℕ, zero, suc, ◌+◌, ◌<◌, ◌≤◌, Bool, true, false, cond, ◌&&◌, List, [], ◌∷◌, ◌++◌, length, take, drop, ◌==◌, slice_index}
use mathlib.Core.List.{Memᴰ}
use Rattle.text.specs.Bytes.{within}

-- a range of bytes, both ends taken in
pub record Range : Type 0 where
  pub low : ℕ
  pub high : ℕ

abbrev pub to : ℕ → ℕ → Range
to a b = record { low = a; high = b }

-- UTF8-tail = %x80-BF
abbrev pub tail : Range
tail = to 0x80 0xBF

-- the rows of UTF8-1, UTF8-2, UTF8-3 and UTF8-4, in the RFC's order
abbrev pub rows : List (List Range)
rows =
    (to 0x00 0x7F ∷ [])
    ∷ (to 0xC2 0xDF ∷ tail ∷ [])
    ∷ (to 0xE0 0xE0 ∷ to 0xA0 0xBF ∷ tail ∷ [])
    ∷ (to 0xE1 0xEC ∷ tail ∷ tail ∷ [])
    ∷ (to 0xED 0xED ∷ to 0x80 0x9F ∷ tail ∷ [])
    ∷ (to 0xEE 0xEF ∷ tail ∷ tail ∷ [])
    ∷ (to 0xF0 0xF0 ∷ to 0x90 0xBF ∷ tail ∷ tail ∷ [])
    ∷ (to 0xF1 0xF3 ∷ tail ∷ tail ∷ tail ∷ [])
    ∷ (to 0xF4 0xF4 ∷ to 0x80 0x8F ∷ tail ∷ tail ∷ [])
    ∷ []

-- the bytes fit the row: one in each of its ranges, in order, and no more
abbrev pub fits : List Range → List ℕ → Bool
fits [] [] = true
fits [] (x ∷ c) = false
fits (r ∷ rs) [] = false
fits (r ∷ rs) (x ∷ c) = within r.low r.high x && fits rs c

-- UTF8-char = UTF8-1 / UTF8-2 / UTF8-3 / UTF8-4: the bytes fit a row that is among these
pub record Character (c : List ℕ) : Type 0 where
  pub row : List Range
  pub listed : Memᴰ row rows
  pub fit : fits row c ≡ true

-- UTF8-octets = *( UTF8-char )
pub data Octets : List ℕ → Type 0 where
  none : Octets []
  char : {c s : List ℕ} → Character c → Octets s → Octets (c ++ s)

-- The grammar as a test, which passes exactly where `Octets` holds (`utf8_octets` of proofs/Utf8Grammar.antt).
-- how many bytes the character at the front of a text has, by the first of the rows that fits; 0 where none does
abbrev pub size_by : List (List Range) → List ℕ → ℕ
size_by [] s = 0
size_by (r ∷ rs) s = cond (fits r (take (length r) s)) (length r) (size_by rs s)

unfoldable pub char_size : List ℕ → ℕ
char_size s = size_by rows s

-- what stands behind the first n characters; a place where no character stands is not passed
unfoldable pub behind : ℕ → List ℕ → List ℕ
behind zero s = s
behind (suc n) s = behind n (drop (char_size s) s)

-- a text of n bytes has at most n characters, and nothing stands behind them
unfoldable pub utf8 : List ℕ → Bool
utf8 s = length (behind (length s) s) == 0

-- the n bytes from a on are ASCII (UTF8-1 = %x00-7F)
abbrev pub AsciiIn : List ℕ → ℕ → ℕ → Type 0
AsciiIn s a n = (k : ℕ) → a ≤ k → k < a + n → slice_index s k < 0x80

-- a place inside a character of a text: behind the character's first byte and before its end. Rust cuts no text there.
pub record Inside (s : List ℕ) (at : ℕ) : Type 0 where
  pub front : List ℕ
  pub character : List ℕ
  pub back : List ℕ
  pub text : s ≡ front ++ (character ++ back)
  pub octets : Octets front
  pub is : Character character
  pub behind_first : length front < at
  pub before_end : at < length front + length character
