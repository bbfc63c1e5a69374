-- Texts handed out (document 01, "The readers": "A returned text is that part of the lent line and no copy", "one more call reads the line anew, with that reader's refusals, and
-- hands out the part, empty where the text is absent").
use Rattle.std.specs.Prelude.{◌≡◌, ℕ, Bool, true, false, cond, List}
use Rattle.std.specs.Borrow.{Bor}
use Rattle.text.specs.Part.{Span, part_of, IsPart}
use Rattle.text.specs.Reading.{Reading, read, refused}

-- where a text stands that is handed out, and the number that goes with it: 0, or the reader's refusal
pub record Handed : Type 0 where
  pub refusal : ℕ
  pub fallback : Bool
  pub span : Span

-- in the line; or in the text lent for it, where the line has none
abbrev pub in_line : Span → Handed
in_line p = record { refusal = 0; fallback = false; span = p }

abbrev pub in_fallback : Span → Handed
in_fallback p = record { refusal = 0; fallback = true; span = p }

-- no text: it is empty, at the line's start; the number is 0 where the text is absent
abbrev pub nowhere : ℕ → Handed
nowhere k = record { refusal = k; fallback = false; span = record { start = 0; end = 0 } }

module _ {A : Type 0} where
  -- what is handed out of what a line says, and nothing but the number where it is refused
  unfoldable pub handed : (A → Handed) → Reading A → Handed
  handed text (read a) = text a
  handed text (refused k) = nowhere k

-- the lent text that it is a part of
abbrev pub lent : Bor (List ℕ) → Bor (List ℕ) → Handed → Bor (List ℕ)
lent line fallback h = cond h.fallback fallback line

-- t is that part, and no copy: what a call answers that cuts it out
unfoldable pub IsHanded : (line fallback : Bor (List ℕ)) → Handed → Bor (List ℕ) → Type 0
IsHanded line fallback h t = IsPart (lent line fallback h) t h.span.start (part_of (lent line fallback h).now h.span.start h.span.end)

-- and one that hands it out: the part, and the number
pub record HandsOut (line fallback : Bor (List ℕ)) (h : Handed) (text : Bor (List ℕ)) (refusal : ℕ) : Type 0 where
  pub part : IsHanded line fallback h text
  pub number : refusal ≡ h.refusal
