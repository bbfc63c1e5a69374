-- The field or the fallback text. Assumes nothing.
use mathlib.Core.Path.{◌≡◌, refl, ap, ◌∙◌, subst}
use mathlib.Core.List.{List, [], ◌∷◌}
use Prim.Native.Nat.{ℕ, ◌+◌, ◌≤◌, ◌<◌}
use native.Mathlib.Nat.{zero-add}
use lib.ListN.{length, drop}
use borrow.Author.Tests.{lt-ltb, le-ltb}
use denote.Ref.{Bor}
use Rattle.text.specs.Part.{IsPart, Span, trimmed, trim_place}
use Rattle.text.specs.Field.{fields, nth, place_of}
use Rattle.text.specs.Reading.{Reading, read}
use Rattle.text.proofs.Trims.{trim_in}
use Rattle.text.specs.says.Handed.{at_says}
use Rattle.text.specs.declared.handed.TextAt.{TextAt}
use Rattle.text.specs.declared.handed.TextAt.TheVariants.{InLine, InFallback}
use Rattle.at_command.specs.Handed.{name_in}
use Rattle.at_command.specs.says.Cops.{name_says}
use Rattle.at_command.specs.Unquoted.{unquoted_field}
use Rattle.at_command.specs.Cops.{FieldOr, field_or, Name, in_line, in_fallback, name_of, Operator}

module _ (t fallback : Bor (List ℕ)) (n k : ℕ) (count : k ≡ length (fields 44 t.now)) where
  pub field_there : (r : Bor (List ℕ)) → n < k → IsPart t r (place_of n (fields 44 t.now)) (nth n (fields 44 t.now)) → FieldOr t fallback n r
  unfolding field_or
  field_there r h p =
      let z = lt-ltb n (length (fields 44 t.now)) (subst (λ (m : ℕ). n < m) count h) in
      record { bytes = rw z p.bytes; place = rw z p.place }

  pub field_absent : k ≤ n → FieldOr t fallback n fallback
  unfolding field_or
  field_absent h =
      let z = le-ltb n (length (fields 44 t.now)) (subst (λ (m : ℕ). m ≤ n) count h) in
      record { bytes = rw z; place = rw z }

module _ (s t fallback : List ℕ) (k : ℕ) (rest : t ≡ drop 7 s) (count : k ≡ length (fields 44 t)) where
  many : k ≡ length (fields 44 (drop 7 s))
  many = count ∙ ap (λ (l : List ℕ). length (fields 44 l)) rest

  pub third : 2 < k → 2 < length (fields 44 (drop 7 s))
  third h = subst (λ (m : ℕ). 2 < m) many h

  pub name_in_line : (x : Span) → 2 < k → x ≡ unquoted_field 2 (fields 44 (drop 7 s)) → in_line x ≡ name_of (fields 44 (drop 7 s)) fallback
  unfolding name_of
  name_in_line x h e = rw (lt-ltb 2 (length (fields 44 (drop 7 s))) (third h), e)

  pub name_in_fallback : (a : ℕ) (u : List ℕ) → k ≤ 2 → a ≡ trim_place (34 ∷ []) fallback → u ≡ trimmed (34 ∷ []) fallback
      → in_fallback (record { start = a; end = a + length u }) ≡ name_of (fields 44 (drop 7 s)) fallback
  unfolding name_of
  name_in_fallback a u h e q =
      let z : length (fields 44 (drop 7 s)) ≤ 2 = subst (λ (m : ℕ). m ≤ 2) many h in
      rw (le-ltb 2 (length (fields 44 (drop 7 s))) z, e, q, zero-add)

pub operator : (m f : ℕ) (x y : Name) → x ≡ y
    → ◌≡◌ {A = Reading Operator} (read (record { mode = m; format = f; name = x })) (read (record { mode = m; format = f; name = y }))
operator m f x y e = rw e

pub left_fits : (a : ℕ) (u fallback : List ℕ) → a ≡ trim_place (34 ∷ []) fallback → u ≡ trimmed (34 ∷ []) fallback → a + length u ≤ length fallback
left_fits a u fallback e h = rw (e, h) (trim_in (34 ∷ []) fallback)

-- the place that is cut out
pub name_cut : (at : TextAt) → at_says at ≡ name_in (name_says at)
unfolding name_in
name_cut (InLine p) = refl
name_cut (InFallback p) = refl

pub name_good : (n : Name) → 0 ≡ (name_in n).refusal
unfolding name_in
name_good (in_line p) = refl
name_good (in_fallback p) = refl
