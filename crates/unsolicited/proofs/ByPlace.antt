-- One reader by its place in the order of trial: what it says, and its refusal with the value forgotten. Assumes nothing.
use Prim.Native.Nat.{ℕ, ◌≤◌}
use mathlib.Core.Path.{◌≡◌, ap, sym, ◌∙◌}
use mathlib.Core.List.{List}
use Rattle.std.proofs.Common.{Result, Ok, Err, MatchResult, IsOkAnd}
use Rattle.text.specs.Reading.{Reading, read, refused, mapped, refusal_in}
use Rattle.text.specs.declared.refusal.Refusal.{Refusal}
use Rattle.text.specs.says.Refusal.{reading_said}
use Rattle.unsolicited.specs.declared.Urc.{Urc}
use Rattle.unsolicited.specs.says.Urc.{urc_says}
use Rattle.text.proofs.Conditions.{reading_past, refusal_as}
use Rattle.unsolicited.specs.Urc.{Unsolicited, urc_readings, urc_reading_at}

-- the reader at place k, under its name among the unsolicited
module _ {A : Type 0} (g : A → Unsolicited) (text : List ℕ → Reading A) (k : ℕ) (at : (l : List ℕ) → urc_reading_at k l ≡ mapped g (text l)) (l : List ℕ) (place : ℕ) (e : place ≡ k) where
  is_at : mapped g (text l) ≡ urc_reading_at place l
  is_at = sym (at l) ∙ ap (λ (i : ℕ). urc_reading_at i l) (sym e)

  pub said_at : (x : Reading A) (q : Reading Unsolicited) → x ≡ text l → q ≡ mapped g x → q ≡ urc_reading_at place l
  said_at x q h z = z ∙ ap (mapped g) h ∙ is_at

  -- and its refusal alone
  pub forgets : (n : ℕ) → n ≡ refusal_in (text l) → n ≡ refusal_in (urc_reading_at place l)
  forgets n z = z ∙ refusal_as g (text l) ∙ ap refusal_in is_at

-- an answer with its value among the unsolicited, as `map` gives it
pub among : {V A : Type 0} (g : A → Unsolicited) (f : V → A) (h : V → Urc) → ((v : V) → urc_says (h v) ≡ g (f v)) → (r : Result V Refusal) (q : Result Urc Refusal)
    → MatchResult r (λ v. IsOkAnd q (λ u. u ≡ h v)) (λ k. q ≡ Err k) → reading_said urc_says q ≡ mapped g (reading_said f r)
unfolding mapped
among g f h same (Ok v) (Ok u) e = ap (λ (u : Urc). read (urc_says u)) e ∙ ap read (same v)
among g f h same (Ok v) (Err k) e = absurd e
among g f h same (Err k) q e = rw e

-- past the last
pub past_last : (l : List ℕ) (place : ℕ) → 4 ≤ place → refused 3 ≡ urc_reading_at place l
unfolding urc_reading_at urc_readings
past_last l place h = sym (reading_past (urc_readings l) place h)
