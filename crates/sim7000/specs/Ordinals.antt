-- What C finds in the numbers after a feed that answers 0, in words of these numbers alone (document 02, CR 7).
use Rattle.std.specs.Prelude.{ℕ, suc, ◌≡◌, List, get_or}
use Rattle.text.specs.Copy.{least}
use Rattle.sim7000.specs.Parts.{ExportFeedKeeps}

pub record OrdinalsTold (state state' told' : List ℕ) : Type 0 where
  -- without an event no ordinal is told, and the count stays, a greater one being 4,294,967,295
  pub quiet : get_or told' 0 0 ≡ 0 → (get_or told' 4 0 ≡ 0) × (get_or state' 3 0 ≡ least (get_or state 3 0) 4294967295)
  -- with one the ordinal is one more than the count, at most 4,294,967,295, and is the count after it
  pub event : (get_or told' 0 0 ≡ 0 → ⊥) → (get_or told' 4 0 ≡ least (suc (get_or state 3 0)) 4294967295) × (get_or state' 3 0 ≡ get_or told' 4 0)

-- a feed that keeps its contract
abbrev pub OrdinalsExported : Type 0
OrdinalsExported = (line state sent chunk text told line' state' text' told' : List ℕ) → ExportFeedKeeps line state sent chunk text told 0 line' state' text' told' → OrdinalsTold state state' told'
