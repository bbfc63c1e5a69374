-- What an accepted line begins with: one of four texts, each a name and ": ", where the Rust splits the line; the date that it has, and with what a line is refused.
-- Assumes nothing.
use mathlib.Core.Path.{◌≡◌, refl, ap, sym, subst, ◌∙◌}
use mathlib.Core.List.{List, [], ◌∷◌, ◌++◌}
use Prim.Native.Nat.{ℕ}
use Rattle.text.specs.Bytes.{bytes, starts_with}
use Rattle.text.specs.Reading.{Reading, read, refused, only, mapped, each, first_of}
use Rattle.text.proofs.Begins.{begins_with}
use Rattle.text.proofs.Readings.{first_each, first_whole}
use Rattle.text.proofs.Yields.{Yields, AllYield, yields_only, yields_first, yields_mapped, yields_read}
use Rattle.unsolicited.specs.Gnss.{Report, ugnsinf_text}
use Rattle.unsolicited.specs.Registration.{Registration, creg_text, cgreg_text, cereg_text, registration_readings, registration_text}
use Rattle.unsolicited.specs.Urc.{Unsolicited, gnss, registration, urc_readings, urc_text}
use Rattle.unsolicited.proofs.Trials.{Plain}
use Rattle.unsolicited.proofs.Reports.{Dated, Refusal, plain, reports_so}
use Rattle.unsolicited.proofs.Registrations.{plain_creg, plain_cgreg, plain_cereg}

-- what holds of every line that begins so holds of those that are accepted
module _ (P : List ℕ → Type 0) (s : List ℕ) where
  abbrev Holds : {A : Type 0} → Reading A → Type 0
  Holds {A} r = Yields (λ (a : A). P s) (λ (k : ℕ). Unit {0}) r

  holds : {A : Type 0} (r : Reading A) → P s → Holds r
  holds (read a) p = p
  holds (refused k) p = tt

  begun : {A : Type 0} (p : List ℕ) (r : Reading A) → ((t : List ℕ) → P (p ++ t)) → Holds (only (starts_with p s) r)
  begun p r f = yields_only _ _ (starts_with p s) r tt (λ e. holds r (begins_with P p s f e))

  -- the same of a reader under another name
  named : {A B : Type 0} (f : A → B) (p : List ℕ) (r : Reading A) → ((t : List ℕ) → P (p ++ t)) → Holds (mapped f (only (starts_with p s) r))
  named f p r g = yields_mapped _ _ f _ (begun p r g)

  pub urc_cases : ((t : List ℕ) → P (bytes "+CREG: " ++ t)) → ((t : List ℕ) → P (bytes "+CGREG: " ++ t)) → ((t : List ℕ) → P (bytes "+CEREG: " ++ t))
      → ((t : List ℕ) → P (bytes "+UGNSINF: " ++ t)) → (u : Unsolicited) → urc_text s ≡ read u → P s
  unfolding urc_text urc_readings creg_text cgreg_text cereg_text ugnsinf_text
  urc_cases creg cgreg cereg ugnsinf u e =
      yields_read (λ (u : Unsolicited). P s) (λ (k : ℕ). Unit {0}) (urc_text s) u
      (yields_first _ _ 3 (urc_readings s) tt
      (named gnss _ _ ugnsinf, (named registration _ _ creg, (named registration _ _ cgreg, (named registration _ _ cereg, tt))))) e

-- the date that an unsolicited line has where it is a fix, and its refusals: a registration has none, and refuses with 3 alone
abbrev pub DatedUrc : List ℕ → Unsolicited → Type 0
DatedUrc l (gnss r) = Dated l r
DatedUrc l (registration r) = Unit {0}

as_urc : (l : List ℕ) (r : Reading Registration) → Plain r → Yields (DatedUrc l) (Refusal l) (mapped registration r)
unfolding mapped
as_urc l (read a) p = tt
as_urc l (refused k) p = subst (Refusal l) (sym p) plain

pub urcs_so : (l : List ℕ) → AllYield (DatedUrc l) (Refusal l) (urc_readings l)
unfolding urc_readings
urcs_so l =
    (yields_mapped _ _ gnss _ (reports_so l), (as_urc l (creg_text l) (plain_creg l), (as_urc l (cgreg_text l) (plain_cgreg l), (as_urc l (cereg_text l) (plain_cereg l), tt))))

pub urc_so : (l : List ℕ) → Yields (DatedUrc l) (Refusal l) (urc_text l)
unfolding urc_text
urc_so l = yields_first _ _ 3 (urc_readings l) plain (urcs_so l)

-- the trial as the code nests it
pub urc_nested : (s : List ℕ) → first_of 3 (mapped gnss (ugnsinf_text s) ∷ mapped registration (registration_text s) ∷ []) ≡ urc_text s
unfolding urc_text urc_readings registration_text first_of mapped
urc_nested s = go (ugnsinf_text s) (registration_readings s)
  where
    go : (g : Reading Report) (rs : List (Reading Registration)) → first_of 3 (mapped gnss g ∷ mapped registration (first_of 3 rs) ∷ []) ≡ first_of 3 (mapped gnss g ∷ each registration rs)
    go (read r) rs = refl
    go (refused k) rs = ap (λ (r : Reading Unsolicited). first_of k (r ∷ [])) (sym (first_each registration 3 rs)) ∙ first_whole k (each registration rs)
