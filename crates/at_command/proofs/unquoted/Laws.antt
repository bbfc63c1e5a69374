-- A quoted field lies in the line. Assumes nothing.
use mathlib.Core.Path.{◌≡◌, ap, ◌∙◌}
use mathlib.Core.List.{List, [], ◌∷◌}
use Prim.Native.Nat.{ℕ, ◌+◌, ◌-◌, ◌≤◌, ◌<◌}
use native.Mathlib.Omega.{arith}
use lib.ListN.{length, drop, length-drop}
use Rattle.text.specs.Part.{Span, trimmed, trim_place}
use Rattle.text.specs.Field.{fields, nth, place_of}
use Rattle.text.proofs.Fields.{field_in}
use Rattle.text.proofs.Trims.{trim_in}
use Rattle.at_command.specs.Unquoted.{unquoted_field}

-- what the code has of the field n of the rest: its place p, its bytes f, and the place a and the bytes u of what is left without quotes
module _ (s t f u : List ℕ) (n p a : ℕ) (rest : t ≡ drop 7 s) (there : n < length (fields 44 (drop 7 s))) (at : p ≡ place_of n (fields 44 t))
    (field : f ≡ nth n (fields 44 t)) (lead : a ≡ trim_place (34 ∷ []) f) (left : u ≡ trimmed (34 ∷ []) f) where
  place_is : p ≡ place_of n (fields 44 (drop 7 s))
  place_is = at ∙ ap (λ (l : List ℕ). place_of n (fields 44 l)) rest

  field_is : f ≡ nth n (fields 44 (drop 7 s))
  field_is = field ∙ ap (λ (l : List ℕ). nth n (fields 44 l)) rest

  pub in_line_lem : p + (a + length u) ≤ length s - 7
  in_line_lem =
      let i : p + length f ≤ length (drop 7 s) = rw (place_is, field_is) (field_in 44 n (drop 7 s) there) in
      let j : a + length u ≤ length f = rw (lead, left) (trim_in (34 ∷ []) f) in
      omega (arith, length-drop 7 s)

  pub unquoted_at : ◌≡◌ {A = Span} (record { start = 7 + p + a; end = 7 + p + a + length u }) (unquoted_field n (fields 44 (drop 7 s)))
  unquoted_at = rw (left, lead, field_is, place_is)
