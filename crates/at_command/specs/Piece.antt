-- How texts and numbers stand in a command.
use Rattle.std.specs.Prelude.{ℕ, zero, suc, ◌+◌, ◌/◌, ◌%◌, Bool, cond, ◌||◌, List, [], ◌∷◌, ◌++◌, eqb, ltb}
use Rattle.text.specs.Bytes.{bytes}

-- a quote or a backslash
abbrev pub marked : ℕ → Bool
marked x = eqb x 34 || eqb x 92

-- a text as Rust's `{:?}` writes it (document 01, "What changes shape"): quotes, with a backslash before each quote and backslash
abbrev pub escape : ℕ → List ℕ
escape x = cond (marked x) (92 ∷ x ∷ []) (x ∷ [])

abbrev pub escaped : List ℕ → List ℕ
escaped [] = []
escaped (x ∷ t) = escape x ++ escaped t

unfoldable pub quoted : List ℕ → List ℕ
quoted t = bytes "\"" ++ escaped t ++ bytes "\""

-- a number in decimal, without leading zeros: the digits of its tenth before its last digit. `limit` bounds how many there are.
unfoldable pub digits_up_to : ℕ → ℕ → List ℕ
digits_up_to zero n = []
digits_up_to (suc limit) n = cond (ltb n 10) ((48 + n) ∷ []) (digits_up_to limit (n / 10) ++ (48 + n % 10) ∷ [])

unfoldable pub decimal : ℕ → List ℕ
decimal n = digits_up_to (suc n) n
