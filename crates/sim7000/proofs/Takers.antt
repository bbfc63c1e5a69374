-- The number of the reader that takes a line, by which one it is.
use Prim.Native.Nat.{ℕ, ◌+◌}
use mathlib.Core.Path.{◌≡◌, refl, ap, ◌∙◌}
use mathlib.Core.List.{List}
use Rattle.text.specs.Reading.{Reading, read, refused, mapped}
use Rattle.at_command.specs.Kind.{place_of}
use Rattle.unsolicited.specs.Urc as Urc
use Rattle.trial.specs.Answer.{Said, response, unsolicited, line_said}
use Rattle.trial.specs.Taker as T
use Rattle.trial.specs.Taker.{Taker, taker_of, line_taker}
use Rattle.sim7000.specs.Reader.{sort_number}

abbrev pub taker_number : Reading Taker → ℕ
taker_number (read (T.response k)) = place_of k + 1
taker_number (read T.gnss) = 14
taker_number (read T.registration) = 15
taker_number (refused k) = 128 + k

module _ (l : List ℕ) (x : Reading Taker) (e : x ≡ line_taker l) where
  pub taker_number_lem : taker_number x ≡ sort_number (line_said l)
  unfolding line_taker mapped
  taker_number_lem = ap taker_number e ∙ go (line_said l)
    where
      go : (y : Reading Said) → taker_number (mapped taker_of y) ≡ sort_number y
      go (read (response r)) = refl
      go (read (unsolicited (Urc.gnss r))) = refl
      go (read (unsolicited (Urc.registration r))) = refl
      go (refused k) = refl
