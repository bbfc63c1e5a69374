-- Parts of a line: their bytes, and where they begin in it.
use Rattle.std.specs.Prelude.{◌≡◌, ℕ, suc, ◌+◌, ◌-◌, Bool, true, false, cond, ◌||◌, List, [], ◌∷◌, length, take, drop, ◌==◌, nat_lt}
use Rattle.std.specs.Borrow.{Bor}
use Rattle.text.specs.Bytes.{index_of}

-- the bytes from a up to e: none where a is e or more, and none past the end
unfoldable pub part_of : List ℕ → ℕ → ℕ → List ℕ
part_of s a e = take (e - a) (drop a s)

-- a, or the line's end where a lies past it
unfoldable pub inside : List ℕ → ℕ → ℕ
inside s a = cond (nat_lt (length s) a) (length s) a

-- t has these bytes, and is a part of s and no copy: its first byte lies where s's byte at a lies
pub record IsPart (s t : Bor (List ℕ)) (a : ℕ) (text : List ℕ) : Type 0 where
  pub bytes : t.now ≡ text
  pub place : t.ref_ptr ≡ (s.ref_ptr.0, inside s.now a + s.ref_ptr.1)

-- where a text stands in its line
pub record Span : Type 0 where
  pub start : ℕ
  pub end : ℕ

-- the span of a text that begins at a
abbrev pub span_of : ℕ → List ℕ → Span
span_of a text = record { start = a; end = a + length text }

-- what stands before the first b, all of the line where it has none; and what after it, nothing where it has none
abbrev pub before : ℕ → List ℕ → List ℕ
before b s = take (index_of b s) s

abbrev pub after : ℕ → List ℕ → List ℕ
after b s = drop (index_of b s + 1) s

-- the byte is one of these
abbrev pub among : List ℕ → ℕ → Bool
among [] x = false
among (b ∷ bs) x = x == b || among bs x

-- without the bytes at the front that are one of these
abbrev pub trim_front : List ℕ → List ℕ → List ℕ
trim_front bs [] = []
trim_front bs (x ∷ s) = cond (among bs x) (trim_front bs s) (x ∷ s)

-- without those at the end: a byte goes where it is one of these and nothing is kept behind it
abbrev pub keep : Bool → ℕ → List ℕ → List ℕ
keep t x (y ∷ s) = x ∷ y ∷ s
keep true x [] = []
keep false x [] = x ∷ []

abbrev pub trim_end : List ℕ → List ℕ → List ℕ
trim_end bs [] = []
trim_end bs (x ∷ s) = keep (among bs x) x (trim_end bs s)

-- without both
abbrev pub trimmed : List ℕ → List ℕ → List ℕ
trimmed bs s = trim_end bs (trim_front bs s)

-- where what is left begins: behind the bytes at the front that go; at the line's own start where nothing is left
abbrev pub leading : List ℕ → List ℕ → ℕ
leading bs [] = 0
leading bs (x ∷ s) = cond (among bs x) (suc (leading bs s)) 0

unfoldable pub trim_place : List ℕ → List ℕ → ℕ
trim_place bs s = cond (leading bs s == length s) 0 (leading bs s)
