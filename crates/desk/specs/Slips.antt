-- Bytes slipped into a machine's own, for demand 3.
use Rattle.std.specs.Prelude.{ℕ, List, [], ◌∷◌, ◌++◌}
use Rattle.desk.specs.Machine.{Machine}

-- `struck` struck out of `all` leaves `own`
pub data Leaves {A : Type 0} : List A → List A → List A → Type 0 where
  none : Leaves [] [] []
  keep : {x : A} {all struck own : List A} → Leaves all struck own → Leaves (x ∷ all) struck (x ∷ own)
  strike : {x : A} {all struck own : List A} → Leaves all struck own → Leaves (x ∷ all) (x ∷ struck) own

module _ {S T : Type 0} (m : Machine S T) (May : S → List ℕ → Type 0) where
  -- a machine's own bytes from a state on, with bytes slipped in where they may be
  pub data Script : S → Type 0 where
    end : {s : S} → Script s
    byte : {s : S} (b : ℕ) → Script (m s b).state → Script s
    slip : {s : S} (w : List ℕ) → May s w → Script s → Script s

  -- the bytes without those slipped in, and with them
  unfoldable pub own_bytes : {s : S} → Script s → List ℕ
  own_bytes end = []
  own_bytes (byte b k) = b ∷ own_bytes k
  own_bytes (slip w u k) = own_bytes k

  unfoldable pub all_bytes : {s : S} → Script s → List ℕ
  all_bytes end = []
  all_bytes (byte b k) = b ∷ all_bytes k
  all_bytes (slip w u k) = w ++ all_bytes k
