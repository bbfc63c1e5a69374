-- The two engines (document 02, CR 6), the ordered trial and the one that goes straight to the reader: what keeps the contract of a call of the one and what keeps that
-- of its twin of the other is one answer, on every line, refusals included.
use Rattle.std.specs.Prelude.{Result, ℕ, ◌≡◌, List}
use Rattle.text.specs.declared.refusal.Refusal.{Refusal}
use Rattle.text.specs.Reading.{mapped}
use Rattle.at_command.specs.says.Response.{ResponseCodeKeeps}
use Rattle.at_command.specs.declared.ResponseCode.{ResponseCode}
use Rattle.unsolicited.specs.says.Urc.{UrcKeeps}
use Rattle.unsolicited.specs.declared.Urc.{Urc}
use Rattle.trial.specs.Taker.{taker_of}
use Rattle.trial.specs.says.Line.{line_says, taker_says, LineKeeps, SortKeeps, TakerKeeps}
use Rattle.trial.specs.declared.Line.{Line}
use Rattle.trial.specs.declared.Sort.{Sort}
use Rattle.trial.specs.declared.Taker.{Taker}

pub record EnginesAgree (l : List ℕ) : Type 0 where
  -- `ResponseCode::from_line` and `straight::response`
  pub responses : (a b : Result ResponseCode Refusal) → ResponseCodeKeeps l a → ResponseCodeKeeps l b → a ≡ b
  -- `Urc::from_line` and `straight::urc`
  pub urcs : (a b : Result Urc Refusal) → UrcKeeps l a → UrcKeeps l b → a ≡ b
  -- `Line::from_line` and `straight::said`
  pub lines : (a b : Result Line Refusal) → LineKeeps l a → LineKeeps l b → a ≡ b
  -- `sort_of` and `straight::sort_of`
  pub sorts : (a b : Result Sort Refusal) → SortKeeps l a → SortKeeps l b → a ≡ b
  -- `Line::from_line` and `straight::taker`: the same answer with its value forgotten and its refusal kept
  pub takers : (a : Result Line Refusal) (b : Result Taker Refusal) → LineKeeps l a → TakerKeeps l b → taker_says b ≡ mapped taker_of (line_says a)
