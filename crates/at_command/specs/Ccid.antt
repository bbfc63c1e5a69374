-- The ICCID (document 01, "Iccid"; ccid.rs; ITU-T E.118): 89, country, issuer and account.
use Rattle.std.specs.Prelude.{ℕ, List, drop}
use Rattle.text.specs.Bytes.{bytes, starts_with}
use Rattle.text.specs.Part.{part_of, trim_end}
use Rattle.text.specs.Number.{unsigned}
use Rattle.text.specs.Reading.{Reading, read, only, sized, need}

pub record Card : Type 0 where
  pub country : ℕ
  pub issuer : ℕ
  pub account : ℕ

-- 19 or 20 bytes, "89" first, then u8, u8 and the rest as u64. A number that is cut inside a character is so refused (proofs/ccid/Cuts.antt).
unfoldable pub card_text : List ℕ → Reading Card
card_text t =
    sized 19 20 t
    (only (starts_with (bytes "89") t)
    (need (unsigned 10 255 (part_of t 2 4)) (λ c.
    need (unsigned 10 255 (part_of t 4 6)) (λ i.
    need (unsigned 10 18446744073709551615 (drop 6 t)) (λ a.
    read (record { country = c; issuer = i; account = a }))))))

-- every trailing f or F goes first
unfoldable pub iccid_text : List ℕ → Reading Card
iccid_text s = card_text (trim_end (bytes "fF") s)
