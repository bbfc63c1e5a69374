-- The two trials are apart: a line that begins as an unsolicited one does is refused with 3 by every reader of responses, and any other by every reader of
-- the unsolicited.
use Prim.Native.Nat.{ℕ}
use mathlib.Core.Path.{◌≡◌, refl}
use mathlib.Core.Bool.{Bool, true, false, ◌||◌}
use mathlib.Core.List.{List, [], ◌∷◌}
use lib.ListN.{replicate}
use Rattle.text.specs.Bytes.{bytes, starts_with}
use Rattle.text.specs.Reading.{Reading, refused, only, mapped, each}
use Rattle.text.proofs.Begins.{begins_with}
use Rattle.text.proofs.Tests.{never}
use Rattle.at_command.specs.Response.{readings}
use Rattle.at_command.proofs.NoResponse.{reserved, no_readings}
use Rattle.unsolicited.specs.Gnss.{Report, ugnsinf_text}
use Rattle.unsolicited.specs.Registration.{Registration, creg_text, cgreg_text, cereg_text}
use Rattle.unsolicited.specs.Urc.{gnss, registration, urc_readings, begins}

-- what holds wherever the line begins with one of the four texts
begun : {P : Type 0} (l : List ℕ) → begins l ≡ true → (starts_with (bytes "+UGNSINF: ") l ≡ true → P) → (starts_with (bytes "+CREG: ") l ≡ true → P)
    → (starts_with (bytes "+CGREG: ") l ≡ true → P) → (starts_with (bytes "+CEREG: ") l ≡ true → P) → P
unfolding begins
begun {P} l = go (starts_with (bytes "+UGNSINF: ") l) (starts_with (bytes "+CREG: ") l) (starts_with (bytes "+CGREG: ") l) (starts_with (bytes "+CEREG: ") l)
  where
    go : (a b c d : Bool) → a || (b || (c || d)) ≡ true → (a ≡ true → P) → (b ≡ true → P) → (c ≡ true → P) → (d ≡ true → P) → P
    go true b c d e f g h k = f refl
    go false true c d e f g h k = g refl
    go false false true d e f g h k = h refl
    go false false false d e f g h k = k e

begun_reserved : (l : List ℕ) → begins l ≡ true → reserved l ≡ true
unfolding reserved
begun_reserved l e =
    let P : List ℕ → Type 0 = λ s. reserved s ≡ true in
    begun l e
    (begins_with P (bytes "+UGNSINF: ") l (λ t. refl))
    (begins_with P (bytes "+CREG: ") l (λ t. refl))
    (begins_with P (bytes "+CGREG: ") l (λ t. refl))
    (begins_with P (bytes "+CEREG: ") l (λ t. refl))

pub responses_not : (l : List ℕ) → begins l ≡ true → readings l ≡ replicate 13 (refused 3)
responses_not l e = no_readings l (begun_reserved l e)

pub urcs_not : (l : List ℕ) → begins l ≡ false → urc_readings l ≡ refused 3 ∷ refused 3 ∷ refused 3 ∷ refused 3 ∷ []
unfolding begins urc_readings ugnsinf_text creg_text cgreg_text cereg_text only mapped
urcs_not l e = go (starts_with (bytes "+UGNSINF: ") l) (starts_with (bytes "+CREG: ") l) (starts_with (bytes "+CGREG: ") l) (starts_with (bytes "+CEREG: ") l) _ _ _ _ e
  where
    go : (a b c d : Bool) (q : Reading Report) (r t u : Reading Registration) → a || (b || (c || d)) ≡ false
        → mapped gnss (only a q) ∷ each registration (only b r ∷ only c t ∷ only d u ∷ []) ≡ refused 3 ∷ refused 3 ∷ refused 3 ∷ refused 3 ∷ []
    go false false false false q r t u h = refl
    go true b c d q r t u h = never (cc)
    go false true c d q r t u h = never (cc)
    go false false true d q r t u h = never (cc)
    go false false false true q r t u h = never (cc)
