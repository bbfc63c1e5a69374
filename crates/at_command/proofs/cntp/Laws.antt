-- Where the time stands. Assumes nothing.
use mathlib.Core.Path.{◌≡◌, refl, ap, sym, ◌∙◌}
use mathlib.Core.Bool.{Bool, true}
use mathlib.Core.List.{List}
use mathlib.Core.Option.{Option, none, some}
use Rattle.std.specs.Prelude as Std
use Rattle.std.specs.Prelude.{Some, None, unwrap_or}
use Prim.Native.Nat.{ℕ, ◌+◌, ◌<◌, ◌≤◌}
use native.Mathlib.Omega.{arith}
use lib.ListN.{length, drop, length-drop}
use borrow.Author.Tests.{ltb-true}
use denote.Ref.{Bor}
use Rattle.text.specs.Bytes.{index_of, has}
use Rattle.text.specs.Handed.{IsHanded}
use Rattle.text.specs.Part.{Span, span_of, before, after}
use Rattle.text.specs.Reading.{Reading, read}
use Rattle.text.specs.says.Handed.{at_says}
use Rattle.text.specs.says.Part.{place_says}
use Rattle.text.specs.says.Refusal.{option_mapped}
use Rattle.text.specs.declared.handed.TextAt.TheVariants.{InLine}
use Rattle.text.specs.declared.part.Place.{Place}
use Rattle.text.specs.Code.{code_in}
use Rattle.text.proofs.Readings.{need_so, either_so, fits}
use Rattle.at_command.specs.Cntp.{NetTime, ntp_codes, cntp_rest}
use Rattle.at_command.specs.Handed.{time_in}

-- behind the first comma of the rest, up to the line's end
module _ (s t : List ℕ) (x : Bool) (rest : t ≡ drop 7 s) (comma : x ≡ has 44 t) (there : x ≡ true) where
  inside : index_of 44 (drop 7 s) < length (drop 7 s)
  unfolding has
  inside = ltb-true (index_of 44 (drop 7 s)) (length (drop 7 s)) (ap (has 44) (sym rest) ∙ sym comma ∙ there)

  pub start_fits : (e : ℕ) → e ≡ 7 + index_of 44 (drop 7 s) → e < length s
  start_fits e h = omega (arith, inside, length-drop 7 s)

  pub time_at : (c k e : ℕ) → c ≡ k → e ≡ 7 + index_of 44 (drop 7 s)
      → ◌≡◌ {A = Reading NetTime} (read (record { code = c; time = some (record { start = e + 1; end = length s }) }))
      (read (record { code = k; time = some (span_of (7 + (index_of 44 (drop 7 s) + 1)) (after 44 (drop 7 s))) }))
  time_at c k e q h =
      let i = index_of 44 (drop 7 s) in
      let z : e + 1 ≡ 7 + (i + 1) = omega arith in
      let y : length s ≡ 7 + (i + 1) + length (drop (i + 1) (drop 7 s)) = omega (arith, inside, length-drop 7 s, length-drop (i + 1) (drop 7 s)) in
      rw (q, z, ← y)

-- `network_time`: the code of the part u in front, and the part a behind the comma
pub time_read : (s t u a : List ℕ) (x : Bool) (e c : ℕ) → t ≡ drop 7 s → x ≡ has 44 t → x ≡ true → some c ≡ code_in ntp_codes u → u ≡ before 44 t → a ≡ after 44 t → length a ≤ 32
    → e ≡ 7 + index_of 44 (drop 7 s) → read (record { code = c; time = some (record { start = e + 1; end = length s }) }) ≡ cntp_rest (drop 7 s)
unfolding cntp_rest
time_read s t u a x e c rest comma there code front behind few at =
    need_so 3 (code_in ntp_codes (before 44 (drop 7 s))) c _ _ (code ∙ ap (code_in ntp_codes) (front ∙ ap (before 44) rest))
    (either_so (has 44 (drop 7 s)) x _ _ _ (comma ∙ ap (has 44) rest) there
    (fits 32 a (after 44 (drop 7 s)) _ _ (behind ∙ ap (after 44) rest) few (time_at s t x rest comma there c c e refl at)))

-- the part that is cut out, of no bytes where there is no time
pub time_part : (line t : Bor (List ℕ)) (o : Std.Option Place) (p : Place) → p ≡ unwrap_or o (record { start = 0; end = 0 }) → IsHanded line line (at_says (InLine p)) t → IsHanded line line (time_in (option_mapped place_says o)) t
unfolding time_in
time_part line t (Some q) p e h = rw e at h
time_part line t None p e h = rw e at h

pub time_good : (o : Option Span) → 0 ≡ (time_in o).refusal
unfolding time_in
time_good none = refl
time_good (some p) = refl
