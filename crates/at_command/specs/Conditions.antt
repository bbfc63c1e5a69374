-- What each of the thirteen asks of a line's front and end, in the order of trial (document 02, CR 6): a line that lacks it is refused with 3.
use Rattle.std.specs.Prelude.{List, [], ◌∷◌, leb}
use Rattle.text.specs.Bytes.{bytes, within}
use Rattle.text.specs.Condition.{Condition, whatever, beginning, is_digit_class, is_hex_class}

-- an ICCID and an IMEI may begin alike: they differ in where they end. An ICCID may have trailing letters f or F, and an IMEI has none
unfoldable pub conditions : List Condition
conditions =
    beginning (bytes "OK" ∷ bytes "SHUT OK" ∷ [])
    ∷ beginning (bytes "+CME ERROR: " ∷ bytes "+CMS ERROR: " ∷ bytes "ERROR" ∷ [])
    ∷ beginning (bytes "> " ∷ [])
    ∷ record { begins = [] ∷ []; first = is_digit_class; ends = bytes ", CLOSE OK"; last = whatever; size = whatever }
    ∷ record { begins = bytes "89" ∷ []; first = whatever; ends = []; last = is_hex_class; size = leb 19 }
    ∷ beginning (bytes "+CSQ: " ∷ [])
    ∷ beginning (bytes "+CPSI: " ∷ [])
    ∷ beginning (bytes "+COPS: " ∷ [])
    ∷ beginning (bytes "+CNTP: " ∷ [])
    ∷ beginning (bytes "+HTTPTOFS: " ∷ [])
    ∷ record { begins = [] ∷ []; first = is_digit_class; ends = []; last = is_digit_class; size = within 15 16 }
    ∷ beginning (bytes "+CMGF: " ∷ [])
    ∷ beginning (bytes "+CMGR: " ∷ [])
    ∷ []
