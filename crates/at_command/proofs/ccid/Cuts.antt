-- Where the Rust stops because byte 2, 4 or 6 lies inside a character (document 01, "Readings that look right"), the number is refused.
use mathlib.Core.Path.{◌≡◌, refl, sym, ◌∙◌}
use mathlib.Core.Bool.{true}
use mathlib.Core.List.{List}
use mathlib.Core.Option.{some}
use Prim.Native.Nat.{ℕ}
use native.Mathlib.Omega.{arith}
use Rattle.text.specs.Bytes.{bytes, starts_with}
use Rattle.text.specs.Number.{unsigned, magnitude, digits_of, digit_value, value_of}
use Rattle.text.specs.Part.{part_of}
use Rattle.text.specs.Reading.{refused}
use Rattle.text.specs.Utf8.{Inside}
use Rattle.text.proofs.Begins.{begins_with}
use Rattle.text.proofs.Tests.{not_some}
use Rattle.text.proofs.Utf8Cuts.{ends_inside}
use Rattle.text.proofs.Yields.{yields_only, yields_sized, yields_need}
use Rattle.at_command.specs.Ccid.{card_text}
use Rattle.at_command.proofs.NoResponse.{refuses_3}

two : (s : List ℕ) → starts_with (bytes "89") s ≡ true → unsigned 10 255 (part_of s 0 2) ≡ some 89
unfolding part_of unsigned magnitude starts_with digits_of digit_value value_of
two s = begins_with (λ (t : List ℕ). unsigned 10 255 (part_of t 0 2) ≡ some 89) (bytes "89") s (λ r. refl)

module _ (t : List ℕ) where
  pub cut_2 : Inside t 2 → card_text t ≡ refused 3
  unfolding card_text
  cut_2 i =
      refuses_3 _ (yields_sized _ _ 19 20 t _ refl (λ e. yields_only _ _ _ _ refl (λ b.
      not_some (sym (ends_inside 10 255 t 0 2 (omega arith) i) ∙ two t b))))

  pub cut_4 : Inside t 4 → card_text t ≡ refused 3
  unfolding card_text
  cut_4 i =
      refuses_3 _ (yields_sized _ _ 19 20 t _ refl (λ e. yields_only _ _ _ _ refl (λ b.
      yields_need _ _ _ _ refl (λ n k. not_some (sym (ends_inside 10 255 t 2 4 (omega arith) i) ∙ k)))))

  pub cut_6 : Inside t 6 → card_text t ≡ refused 3
  unfolding card_text
  cut_6 i =
      refuses_3 _ (yields_sized _ _ 19 20 t _ refl (λ e. yields_only _ _ _ _ refl (λ b.
      yields_need _ _ _ _ refl (λ n k. yields_need _ _ _ _ refl (λ m k. not_some (sym (ends_inside 10 255 t 4 6 (omega arith) i) ∙ k))))))
