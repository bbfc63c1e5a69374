-- A line is compared with the command that was sent, and with it without its CR, as the code does it.
use Prim.Native.Nat.{ℕ, ◌-◌}
use mathlib.Core.Path.{◌≡◌, sym, ap, ◌∙◌}
use mathlib.Core.Bool.{Bool, true, false}
use mathlib.Core.List.{List, [], ◌∷◌}
use lib.ListN.{length, take, drop}
use lib.Dec.{eqb}
use Rattle.std.specs.Cmp.Lexicographic.{pointwise}
use Rattle.text.proofs.Finding.{same_is}
use Rattle.text.specs.Bytes.{bytes, same, ends_with}
use Rattle.desk.specs.Cut.{bare}
use Rattle.desk.specs.Judge.{is_echo}

-- the last byte is a CR, and is taken off, or it is none
ends_cr : (s : List ℕ) → ends_with (bytes "\r") s ≡ pointwise eqb (drop (length s - 1) s) (13 ∷ [])
unfolding ends_with
ends_cr s = same_is (drop (length s - 1) s) (13 ∷ [])

pub bare_cut : (s : List ℕ) → pointwise eqb (drop (length s - 1) s) (13 ∷ []) ≡ true → take (length s - 1) s ≡ bare s
unfolding bare
bare_cut s e = rw (ends_cr s ∙ e)

pub bare_whole : (s : List ℕ) → pointwise eqb (drop (length s - 1) s) (13 ∷ []) ≡ false → s ≡ bare s
unfolding bare
bare_whole s e = rw (ends_cr s ∙ e)

module _ (sent l : List ℕ) {t : Bool} (is : t ≡ same l sent) where
  pub echo_whole : t ≡ true → true ≡ is_echo sent l
  unfolding is_echo
  echo_whole e = rw (sym is ∙ e)

  pub echo_bare : t ≡ false → {p : List ℕ} → p ≡ bare sent → {u : Bool} → u ≡ same l p → u ≡ is_echo sent l
  unfolding is_echo
  echo_bare e f g = rw (sym is ∙ e) (g ∙ ap (same l) f)

-- ---- what the proofs of the code list

pub ruleset bares = (bare_cut, bare_whole)

pub ruleset echoes = (echo_whole, echo_bare)
