-- Each of the four refuses with 3 a line that lacks its front.
use mathlib.Core.List.{List}
use Prim.Native.Nat.{ℕ}
use Rattle.text.specs.Bytes.{bytes}
use Rattle.text.specs.Condition.{UnmetRefused}
use Rattle.text.proofs.Conditions.{only_front, asked, asked_as}
use Rattle.unsolicited.specs.Conditions.{urc_conditions}
use Rattle.unsolicited.specs.Gnss.{ugnsinf_text}
use Rattle.unsolicited.specs.Registration.{creg_text, cgreg_text, cereg_text}
use Rattle.unsolicited.specs.Urc.{urc_readings}

pub urcs_asked : (l : List ℕ) → UnmetRefused urc_conditions l (urc_readings l)
unfolding urc_conditions urc_readings ugnsinf_text creg_text cgreg_text cereg_text
urcs_asked l =
    asked urc_conditions l (urc_readings l) (
      asked_as _ _ _ (only_front (bytes "+UGNSINF: ") l _),
      (
        asked_as _ _ _ (only_front (bytes "+CREG: ") l _),
        (
          asked_as _ _ _ (only_front (bytes "+CGREG: ") l _),
          (
            asked_as _ _ _ (only_front (bytes "+CEREG: ") l _),
            tt,
          ),
        ),
      ),
    )
