-- The desk numerals (document 01, "Numbers in a line") as a grammar beside `decimal_of`: which texts are numerals, and the exact decimal that each says.
-- proofs/NumeralGrammar.antt proves them one.
use Rattle.std.specs.Prelude.{ℕ, ◌≤◌, ◌≡◌, Bool, true, false, List, [], ◌∷◌, ◌++◌, length}
use Rattle.std.proofs.Math.Option.{some}
use Rattle.text.specs.Bytes.{bytes}
use Rattle.text.specs.Number.{digits_of, value_of}
use Rattle.numeral.specs.Numeral.{Decimal, point}

-- an optional sign
pub data Sign : Bool → List ℕ → Type 0 where
  bare : Sign false []
  plus : Sign false (bytes "+")
  minus : Sign true (bytes "-")

-- what stands in front of the point and what stands behind it, where there is a point
pub data Body : List ℕ → List ℕ → List ℕ → Type 0 where
  whole : {f : List ℕ} → Body f f []
  pointed : {f b : List ℕ} → Body (f ++ point ∷ b) f b

-- s is a numeral, and d the decimal that it says
pub record Says (s : List ℕ) (d : Decimal) : Type 0 where
  pub sign : List ℕ
  pub body : List ℕ
  pub front : List ℕ
  pub back : List ℕ
  pub digits : List ℕ
  pub text : s ≡ sign ++ body
  pub is_sign : Sign d.negative sign
  pub is_body : Body body front back
  pub are_digits : digits_of 10 (front ++ back) ≡ some digits
  pub at_least : 1 ≤ length digits
  pub at_most : length digits ≤ 15
  pub value : d.number ≡ value_of 10 digits
  pub places : d.places ≡ length back
