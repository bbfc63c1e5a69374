-- Document 01, "Lines to prove and to run": the fourteen, as one table, the tenth as document 02, CR 3, has it.
use Rattle.std.specs.Prelude.{ℕ, true, false, List, [], ◌∷◌, ◌++◌, pos, replicate, Float}
use Rattle.std.proofs.Math.Option.{none, some}
use Rattle.std.specs.Float.{fin}
use Rattle.text.specs.Bytes.{bytes}
use Rattle.text.specs.Reading.{Reading, read, refused}
use Rattle.at_command.specs.Cops.{in_fallback}
use Rattle.at_command.specs.Gsn.{whole}
use Rattle.at_command.specs.Response.{signal, operator, download, imei}
use Rattle.unsolicited.specs.Gnss.{not_enabled}
use Rattle.unsolicited.specs.Urc.{gnss, registration}
use Rattle.trial.specs.Answer.{Said, response, unsolicited}

-- a line with what it says, or with its refusal; or a numeral with its f32
pub data Row : Type 0 where
  says : List ℕ → Reading Said → Row
  is : List ℕ → Float → Row

-- line 10 (document 02, CR 3): a version number, whichever of these digits is the last
abbrev pub any_last : List ℕ → List Row
any_last [] = []
any_last (d ∷ ds) = says (bytes "490154203237518" ++ d ∷ []) (read (response (imei (whole 16 true)))) ∷ any_last ds

-- 0.0 is 0, 100.0 is 25 * 2 ^ 2, and 16777220 is 4194305 * 2 ^ 2
unfoldable pub rows : List Row
rows =
    -- 1, 2, 3
    says (bytes "+CSQ: 0,99") (read (response (signal (record { strength = some (fin false 0 (pos 0)); quality = none }))))
    ∷ says (bytes "+CSQ: 31,99") (read (response (signal (record { strength = some (fin false 25 (pos 2)); quality = none }))))
    ∷ says (bytes "+CSQ: 32,0") (refused 3)
    -- 4, 5
    ∷ says (bytes "+CEREG: 1,") (refused 3)
    ∷ says (bytes "+CEREG: 2,+5") (read (unsolicited (registration (record { status = 2; lac = none; ci = none }))))
    -- 6, 7
    ∷ says (bytes "+CGREG: 1,2,3") (refused 3)
    ∷ says (bytes "+CGREG: 2,1,\"00A5\",\"01B2\",7,a,b,c") (read (unsolicited (registration (record { status = 1; lac = some 165; ci = some 434 }))))
    ∷ says (bytes "+CREG: 2,1,\"00A5\",\"01B2\",7,a,b,c") (refused 3)
    -- 8
    ∷ says (bytes "+HTTPTOFS: 200,x") (read (response (download (record { status = 200; size = 0 }))))
    -- 9, 10
    ∷ says (bytes "490154203237518") (read (response (imei (whole 15 false))))
    ∷ says (bytes "490154203237517") (refused 3)
    ∷ any_last (bytes "0123456789")
    -- 11
    ++ says (bytes "+UGNSINF: 0" ++ replicate 20 44) (read (unsolicited (gnss not_enabled)))
    ∷ says (bytes "+UGNSINF: 0" ++ replicate 19 44) (refused 3)
    -- 12
    ∷ says (56 ∷ 195 ∷ 169 ∷ replicate 16 49) (refused 3)
    -- 13
    ∷ is (bytes "16777219") (fin false 4194305 (pos 2))
    -- 14
    ∷ says (bytes "+COPS: 0") (read (response (operator (record { mode = 0; format = 0; name = in_fallback (record { start = 0; end = 0 }) }))))
    ∷ []
