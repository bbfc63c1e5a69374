-- Where the fields of +UGNSINF begin, found once for all of them, and which field is a registration's status; for private functions.
use Rattle.std.specs.Prelude.{ℕ, ◌≡◌, cond, List, [], ◌∷◌, length}
use Rattle.std.proofs.Math.Option.{Option, none, some}
use Rattle.text.specs.Field.{fields}
use Rattle.text.specs.Part.{among}
use Rattle.text.specs.Reader.{FieldStartsKeeps}

-- ps says where each of the 21 fields of s begins, and where a next one would
pub record Places (ps s : List ℕ) : Type 0 where
  pub count : length (fields 44 s) ≡ 21
  pub starts : FieldStartsKeeps s ps

-- which of so many fields is the status: of 1 or 4 the first, of so many as are listed the second; none where so many are refused
abbrev pub status_place : List ℕ → ℕ → Option ℕ
status_place skipping count = cond (among (1 ∷ 4 ∷ []) count) (some 0) (cond (among skipping count) (some 1) none)
