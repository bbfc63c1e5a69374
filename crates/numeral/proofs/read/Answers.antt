-- The f32 that a scanned decimal is rounded to is the nearest.
use Rattle.std.proofs.Common.{◌≡◌, ℕ, ◌^◌, List, Some, None, sym, arith}
use mathlib.Core.Option as paper
use lib.Ieee.{Float, binary32, round}
use Rattle.text.specs.Reading.{need_else}
use Rattle.numeral.specs.Numeral.{Decimal, decimal_of, float_of, numeral_text}
use Rattle.numeral.specs.Nearest.{value, refused}
use Rattle.numeral.specs.says.Numeral.{NumeralKeeps}
use Rattle.numeral.proofs.Pattern.{ten_pos}
use Rattle.numeral.proofs.Rounding.{round_nearest}
use Rattle.numeral.proofs.NumeralGrammar.{sound, unsaid, small}
use Rattle.numeral.proofs.read.Goals as goal

module _ (s : List ℕ) where
  answered : (d : Decimal) (x : Float) → paper.some d ≡ decimal_of s → x ≡ round binary32 d.negative d.number (10 ^ d.places) → NumeralKeeps s (Some x)
  unfolding numeral_text float_of need_else
  answered d x e f =
      let small = small s d (sym e) in
      record { exact = rw (← e, f); nearest = rw f (value (sound s d (sym e)) (round_nearest d.negative d.number (10 ^ d.places) (ten_pos d.places) (omega arith))) }

  unanswered : paper.none ≡ decimal_of s → NumeralKeeps s None
  unfolding numeral_text float_of need_else
  unanswered e = record { exact = rw (← e); nearest = refused (unsaid s (sym e)) }

pub returns : goal.returns
returns c = answered _ _ _ c.in_ok-decimal.ensures c.nearest.ensures

pub returns-in_err-decimal : goal.returns-in_err-decimal
returns-in_err-decimal c = rw c.from_residual.ensures (unanswered _ c.in_err-decimal.ensures)
