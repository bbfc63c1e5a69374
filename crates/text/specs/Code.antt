-- Codes that are matched as texts: "00" is not "0" (document 01, "Numbers in a line").
use Rattle.std.specs.Prelude.{ℕ, cond, List, [], ◌∷◌}
use Prim.Native.String.{String}
use Rattle.std.proofs.Math.Option.{Option, none, some}
use Rattle.text.specs.Bytes.{bytes, same}

-- a text, and the number that stands for it on paper
pub record Entry : Type 0 where
  pub text : List ℕ
  pub number : ℕ

abbrev pub is : String → ℕ → Entry
is t n = record { text = bytes t; number = n }

-- the number of the entry that the text is; none where it is none of them
abbrev pub code_in : List Entry → List ℕ → Option ℕ
code_in [] t = none
code_in (e ∷ es) t = cond (same t e.text) (some e.number) (code_in es t)
