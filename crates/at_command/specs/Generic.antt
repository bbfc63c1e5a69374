-- The final lines (document 01, "Final lines"; generic_response.rs): OK and ERROR are result codes of V.250, 5.7, +CME ERROR is
-- TS 27.007's, 9.2, +CMS ERROR and the prompt are TS 27.005's, 3.2.5 and 3.5.1, SHUT OK and CLOSE OK the modem's own.
use Rattle.std.specs.Prelude.{ℕ, ◌-◌, List, length, drop}
use Rattle.text.specs.Bytes.{bytes, same, starts_with, ends_with}
use Rattle.text.specs.Part.{part_of}
use Rattle.text.specs.Number.{unsigned}
use Rattle.text.specs.Reading.{Reading, read, Mark, mark, only, either, need}

-- OK and SHUT OK are GenericOk
unfoldable pub ok_text : List ℕ → Reading Mark
ok_text s = either (same s (bytes "OK")) (read mark) (only (same s (bytes "SHUT OK")) (read mark))

-- "ERROR", and "+CME ERROR: " or "+CMS ERROR: " with a u32
pub data Fault : Type 0 where
  generic : Fault
  cme : ℕ → Fault
  cms : ℕ → Fault

unfoldable pub error_text : List ℕ → Reading Fault
error_text s =
    either (starts_with (bytes "+CME ERROR: ") s) (need (unsigned 10 4294967295 (drop 12 s)) (λ n. read (cme n)))
    (either (starts_with (bytes "+CMS ERROR: ") s) (need (unsigned 10 4294967295 (drop 12 s)) (λ n. read (cms n)))
    (only (same s (bytes "ERROR")) (read generic)))

-- "> " exactly
unfoldable pub prompt_text : List ℕ → Reading Mark
prompt_text s = only (same s (bytes "> ")) (read mark)

-- the number before ", CLOSE OK", read to 64 bits
unfoldable pub close_text : List ℕ → Reading ℕ
close_text s = only (ends_with (bytes ", CLOSE OK") s) (need (unsigned 10 18446744073709551615 (part_of s 0 (length s - 10))) (λ n. read n))
