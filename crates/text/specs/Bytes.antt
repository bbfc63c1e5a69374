-- A line is a list of bytes, and a byte a number below 256. Tests on lines, and where a byte stands.
use Rattle.std.specs.Prelude.{ℕ, suc, ◌+◌, ◌-◌, Bool, true, false, cond, ◌&&◌, List, [], ◌∷◌, length, drop, ◌==◌, nat_le, nat_lt}
use Prim.Native.Char.{code}
use Prim.Native.String.{String}
use Prim.Native.String.{[] as empty, ◌∷◌ as ◌then◌}

-- a quoted text as its bytes: the code of each of its ASCII characters
abbrev pub bytes : String → List ℕ
bytes empty = []
bytes (c then s) = code c ∷ bytes s

-- x lies from lo to hi, both taken in
abbrev pub within : ℕ → ℕ → ℕ → Bool
within lo hi x = nat_le lo x && nat_le x hi

-- the line begins with the text p
unfoldable pub starts_with : List ℕ → List ℕ → Bool
starts_with [] s = true
starts_with (b ∷ p) [] = false
starts_with (b ∷ p) (x ∷ s) = x == b && starts_with p s

-- the line is the text t
unfoldable pub same : List ℕ → List ℕ → Bool
same s t = length s == length t && starts_with t s

-- the line ends with the text p
unfoldable pub ends_with : List ℕ → List ℕ → Bool
ends_with p s = same (drop (length s - length p) s) p

-- how many bytes stand before the first b, all of them where there is none
abbrev pub index_of : ℕ → List ℕ → ℕ
index_of b [] = 0
index_of b (x ∷ s) = cond (x == b) 0 (suc (index_of b s))

-- how often b stands in the line
abbrev pub count_of : ℕ → List ℕ → ℕ
count_of b [] = 0
count_of b (x ∷ s) = cond (x == b) 1 0 + count_of b s

-- the line has a b
unfoldable pub has : ℕ → List ℕ → Bool
has b s = nat_lt (index_of b s) (length s)

-- every byte lies from lo to hi, as those of an empty line do
abbrev pub all_within : ℕ → ℕ → List ℕ → Bool
all_within lo hi [] = true
all_within lo hi (x ∷ s) = within lo hi x && all_within lo hi s

-- all bytes are ASCII digits: '0' to '9'
abbrev pub all_digits : List ℕ → Bool
all_digits s = all_within 48 57 s
