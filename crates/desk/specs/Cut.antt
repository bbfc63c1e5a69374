-- Cutting a modem's bytes into lines (document 01, "The desk (added)"; CR is 13 and LF 10, ITU-T V.250).
use Rattle.std.specs.Prelude.{ℕ, ◌-◌, Bool, cond, List, [], ◌∷◌, ◌++◌, length, take, ltb, eqb}
use Rattle.text.specs.Bytes.{bytes, same, ends_with}

-- what is held of the line that is coming; a line past its length is being dropped
pub data View : Type 0 where
  dropping : View
  held : List ℕ → View

-- what a byte completes: nothing, an empty line, a line past its length, a line
pub data Piece : Type 0 where
  nothing : Piece
  blank : Piece
  overlong : Piece
  line : List ℕ → Piece

-- what is held after a byte, and what the byte completes
pub record Cut : Type 0 where
  pub view : View
  pub piece : Piece

-- a line without the one CR at its end
unfoldable pub bare : List ℕ → List ℕ
bare h = cond (ends_with (bytes "\r") h) (take (length h - 1) h) h

-- the line is past 256 bytes
abbrev pub long : List ℕ → Bool
long l = ltb 256 (length l)

-- "> " is a line at once
abbrev pub is_prompt : List ℕ → Bool
is_prompt l = same l (bytes "> ")

-- what an LF makes of the line before it
abbrev pub ended : List ℕ → Piece
ended l = cond (long l) overlong (cond (eqb (length l) 0) blank (line l))

-- one byte: LF ends the line; past 256 bytes, CR taken off, the line is dropped up to its LF; "> " at a line's start is a line at once
unfoldable pub cut_one : View → ℕ → Cut
cut_one dropping b =
    cond (eqb b 10) (record { view = held []; piece = overlong })
    (record { view = dropping; piece = nothing })
cut_one (held h) b =
    cond (eqb b 10) (record { view = held []; piece = ended (bare h) })
    (cond (long (bare (h ++ b ∷ []))) (record { view = dropping; piece = nothing })
    (cond (is_prompt (h ++ b ∷ [])) (record { view = held []; piece = line (h ++ b ∷ []) })
    (record { view = held (h ++ b ∷ []); piece = nothing })))
