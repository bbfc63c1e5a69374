-- What is left of a list at an index. Assumes nothing.
use Rattle.std.proofs.Common.{◌≡◌, ℕ, ◌+◌, ◌<◌, ◌≤◌, List, [], ◌∷◌, length, get_or, drop, add-one, drop_of_length-le, drop-cons}

-- the rest of a list that has an element at i, as that element and the rest behind it
pub at_next : (s : List ℕ) (i : ℕ) → i < length s → drop i s ≡ get_or s i 0 ∷ drop (i + 1) s
at_next s i h = rw (add-one, drop-cons s i 0)

pub at_end : (s : List ℕ) (i : ℕ) → length s ≤ i → drop i s ≡ []
at_end s i h = drop_of_length-le s h
