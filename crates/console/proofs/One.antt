-- No second answer meets a contract, nor another final content of the buffer.
use mathlib.Core.Path.{◌≡◌, sym, ap, subst, ◌∙◌}
use mathlib.Core.Bool.{cond}
use mathlib.Core.List.{List}
use Prim.Native.Nat.{ℕ, ◌-◌, ◌<◌}
use native.Mathlib.Omega.{arith}
use lib.Dec.{ltb}
use lib.ListN.{length}
use Rattle.io.specs.Digits.{last_digits}
use Rattle.text.specs.Bytes.{bytes}
use Rattle.console.proofs.Digits.{one_count}
use Rattle.console.specs.Output.{Puts, PutsNumber, PutsDecimal, PutsHex, EndsLine}

-- one answer: output::put
pub one_put : (s before x y : List ℕ) (at e f : ℕ) → Puts s at before e x → Puts s at before f y → (e ≡ f) × (x ≡ y)
one_put s before x y at e f p q = (p.ends ∙ sym q.ends, p.holds ∙ sym q.holds)

one_number : (base least n : ℕ) → 0 < base → (before x y : List ℕ) (at e f : ℕ) → PutsNumber base least n at before e x → PutsNumber base least n at before f y → (e ≡ f) × (x ≡ y)
one_number base least n b before x y at e f p q =
    one_put (last_digits base q.places n) before x y at e f
    (subst (λ (k : ℕ). Puts (last_digits base k n) at before e x) (one_count base least n p.places q.places b p.fewest q.fewest) p.puts) q.puts

-- one answer: output::put_decimal
pub one_decimal : (n at : ℕ) (before : List ℕ) (e f : ℕ) (x y : List ℕ) → PutsDecimal n at before e x → PutsDecimal n at before f y → (e ≡ f) × (x ≡ y)
one_decimal n at before e f x y = one_number 10 1 n (omega arith) before x y at e f

-- one answer: output::put_hex
pub one_hex : (n at : ℕ) (before : List ℕ) (e f : ℕ) (x y : List ℕ) → PutsHex n at before e x → PutsHex n at before f y → (e ≡ f) × (x ≡ y)
one_hex n at before e f x y = one_number 16 8 n (omega arith) before x y at e f

-- one answer: output::end_line
pub one_line : (before x y : List ℕ) (at e f : ℕ) → EndsLine at before e x → EndsLine at before f y → (e ≡ f) × (x ≡ y)
one_line before x y at e f p q =
    let same = one_put (bytes "\n") before x y at p.end q.end p.puts q.puts in
    (p.begins ∙ ap (λ (k : ℕ). cond (ltb (length before - 1024) k) 0 k) same.0 ∙ sym q.begins, same.1)
