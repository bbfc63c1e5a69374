-- The sign of a numeral, as the library's `starts_with` tells it.
use Rattle.std.proofs.Common.{◌≡◌, ℕ, ◌-◌, Bool, true, false, cond, ◌||◌, eqb, List, [], ◌∷◌, length, take, drop, refl, sym, arith, eq-eqb, ne_eqb}
use Rattle.std.proofs.lemmas.Bool.{eqb-true, eqb-false}
use Rattle.std.proofs.lemmas.Grind.{common_steps}
use mir.Val.{bool_byte}
use Rattle.std.specs.List as std
use Rattle.text.specs.Bytes.{bytes, starts_with}
use Rattle.numeral.specs.Numeral.{unsigned}

-- `==` either way round
eqb-comm : (a b : ℕ) → eqb a b ≡ eqb b a
eqb-comm a b = go (eqb a b) (eqb-true a b) (eqb-false a b)
  where
    go : (t : Bool) → (t ≡ true → a ≡ b) → (t ≡ false → a ≡ b → ⊥) → t ≡ eqb b a
    go true e f = sym (eq-eqb b a (sym (e refl)))
    go false e f = sym (ne_eqb b a (λ q. f refl (sym q)))

pub begins : (s : List ℕ) (x : ℕ) → std.starts_with eqb s (x ∷ []) ≡ starts_with (x ∷ []) s
unfolding starts_with
begins [] x = refl
begins (y ∷ s) x = rw eqb-comm refl

-- behind the sign, where there is one
cut : (s : List ℕ) (b : Bool) → take (length s - bool_byte b) (drop (bool_byte b) s) ≡ cond b (drop 1 s) s
cut s true = grind (arith, common_steps)
cut s false = grind (arith, common_steps)

pub behind : (s : List ℕ) (p q : Bool) → p ≡ std.starts_with eqb s (bytes "-") → q ≡ std.starts_with eqb s (bytes "+")
    → take (length s - bool_byte (p || q)) (drop (bool_byte (p || q)) s) ≡ unsigned s
unfolding unsigned
behind s p q e f = rw (← begins s 45, ← begins s 43, ← e, ← f) (cut s (p || q))
