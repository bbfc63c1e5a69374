-- What a call that answers a reader of fields says: the line that it stands on, and where.
use Rattle.std.specs.Prelude.{◌≡◌, ℕ, List}
use Rattle.std.specs.Borrow.{Bor}
use Rattle.text.specs.declared.reader.FieldReader.{FieldReader}

abbrev pub ReaderKeeps : Bor (List ℕ) → ℕ → FieldReader → Type 0
ReaderKeeps line at r = (r.line ≡ line) × (r.at ≡ at)
