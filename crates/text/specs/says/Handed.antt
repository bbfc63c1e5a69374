-- What a text's place says on paper, and what the calls say that hand out the text.
use Rattle.std.specs.Prelude.{◌≡◌, ℕ, List, Result, Ok, Err}
use Rattle.std.specs.Borrow.{Bor}
use Rattle.text.specs.Handed.{Handed, in_line, in_fallback, HandsOut}
use Rattle.text.specs.says.Part.{place_says}
use Rattle.text.specs.says.Refusal.{number_of}
use Rattle.text.specs.declared.handed.TextAt.{TextAt}
use Rattle.text.specs.declared.handed.TextAt.TheVariants.{InLine, InFallback}
use Rattle.text.specs.declared.refusal.Refusal.{Refusal}

abbrev pub at_says : TextAt → Handed
at_says (InLine place) = in_line (place_says place)
at_says (InFallback place) = in_fallback (place_says place)

-- the text, with no refusal; or the number of the refusal
abbrev pub TextKeeps : (line fallback : Bor (List ℕ)) → Handed → Result (Bor (List ℕ)) Refusal → Type 0
TextKeeps line fallback h (Ok text) = HandsOut line fallback h text 0
TextKeeps line fallback h (Err k) = number_of k ≡ h.refusal
