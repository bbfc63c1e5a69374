-- Rust's `str::split_once`, by which the Rust takes the prefix of +CMGF, +CMGR, the registrations and +UGNSINF: what stands before the first place where a text stands, and what behind it.
use Rattle.std.specs.Prelude.{◌≡◌, ℕ, ◌+◌, Bool, true, cond, not, ◌&&◌, List, [], ◌∷◌, ◌++◌, length, drop}
use Rattle.std.proofs.Math.Option.{Option, none, some, map}
use Rattle.text.specs.Bytes.{starts_with}

pub record Halves : Type 0 where
  pub before : List ℕ
  pub after : List ℕ

-- a byte before the first half
abbrev pub behind_byte : ℕ → Halves → Halves
behind_byte x h = record { before = x ∷ h.before; after = h.after }

-- none where the text d stands nowhere in the line
unfoldable pub split_once : List ℕ → List ℕ → Option Halves
split_once d [] = cond (starts_with d []) (some (record { before = []; after = [] })) none
split_once d (x ∷ s) = cond (starts_with d (x ∷ s)) (some (record { before = []; after = drop (length d) (x ∷ s) })) (map (behind_byte x) (split_once d s))

-- d does not begin within p where d stands behind p: the first d of such a line is that one; and so for each of several
abbrev pub clear_of : List ℕ → List ℕ → Bool
clear_of d [] = true
clear_of d (x ∷ p) = not (starts_with d (x ∷ (p ++ d))) && clear_of d p

abbrev pub all_clear : List ℕ → List (List ℕ) → Bool
all_clear d [] = true
all_clear d (p ∷ ps) = clear_of d p && all_clear d ps

-- a line begins with p and d exactly when p stands before the first d, and what stands behind it is then the line's rest
pub record Agrees (d p s : List ℕ) : Type 0 where
  pub gives : starts_with (p ++ d) s ≡ true → split_once d s ≡ some (record { before = p; after = drop (length p + length d) s })
  pub begins : (rest : List ℕ) → split_once d s ≡ some (record { before = p; after = rest }) → (starts_with (p ++ d) s ≡ true) × (rest ≡ drop (length p + length d) s)

abbrev pub AllAgree : List ℕ → List (List ℕ) → List ℕ → Type 0
AllAgree d [] s = Unit {0}
AllAgree d (p ∷ ps) s = Agrees d p s × AllAgree d ps s
