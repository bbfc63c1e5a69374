-- The unsolicited lines, in order of trial (document 01, "What the port takes"; mod.rs).
use Rattle.std.specs.Prelude.{ℕ, Bool, ◌||◌, List, ◌∷◌}
use Rattle.text.specs.Bytes.{bytes, starts_with}
use Rattle.text.specs.Condition.{nth_reading}
use Rattle.text.specs.Reading.{Reading, mapped, each, first_of}
use Rattle.unsolicited.specs.Gnss.{Report, ugnsinf_text}
use Rattle.unsolicited.specs.Registration.{Registration, registration_readings}

pub data Unsolicited : Type 0 where
  gnss : Report → Unsolicited
  registration : Registration → Unsolicited

-- GnssReport, then the three registrations
unfoldable pub urc_readings : List ℕ → List (Reading Unsolicited)
urc_readings s = mapped gnss (ugnsinf_text s) ∷ each registration (registration_readings s)

unfoldable pub urc_text : List ℕ → Reading Unsolicited
urc_text s = first_of 3 (urc_readings s)

-- what one of the four says, by its place in that order; past the last, a refusal with 3
unfoldable pub urc_reading_at : ℕ → List ℕ → Reading Unsolicited
urc_reading_at place s = nth_reading place (urc_readings s)

-- the line begins as one of these does: by this test the ordered trial chooses which of the two to ask (trial/proofs/Turns.antt)
unfoldable pub begins : List ℕ → Bool
begins s = starts_with (bytes "+UGNSINF: ") s || (starts_with (bytes "+CREG: ") s || (starts_with (bytes "+CGREG: ") s || starts_with (bytes "+CEREG: ") s))
