-- What each of the four asks of a line's front, in the order of trial (document 02, CR 6).
use Rattle.std.specs.Prelude.{List, [], ◌∷◌}
use Rattle.text.specs.Bytes.{bytes}
use Rattle.text.specs.Condition.{Condition, beginning}

unfoldable pub urc_conditions : List Condition
urc_conditions = beginning (bytes "+UGNSINF: " ∷ []) ∷ beginning (bytes "+CREG: " ∷ []) ∷ beginning (bytes "+CGREG: " ∷ []) ∷ beginning (bytes "+CEREG: " ∷ []) ∷ []
