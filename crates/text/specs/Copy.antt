-- Bytes laid into a buffer, from an index on: as many as it has room for.
use Rattle.std.specs.Prelude.{◌≡◌, ℕ, ◌+◌, ◌-◌, cond, List, ◌++◌, length, take, drop, nat_lt}

-- the smaller of two numbers
unfoldable pub least : ℕ → ℕ → ℕ
least a b = cond (nat_lt a b) a b

-- how many of the piece's bytes have room there
unfoldable pub room_for : List ℕ → ℕ → List ℕ → ℕ
room_for piece at buffer = least (length piece) (length buffer - at)

-- so many are laid: where they end, and what the buffer then holds
pub record LayKeeps (piece : List ℕ) (at : ℕ) (before : List ℕ) (end : ℕ) (after : List ℕ) : Type 0 where
  pub ends : end ≡ at + room_for piece at before
  pub holds : after ≡ take at before ++ take (room_for piece at before) piece ++ drop (at + room_for piece at before) before
