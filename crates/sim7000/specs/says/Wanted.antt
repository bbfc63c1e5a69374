-- What the request of a number says on paper.
use Rattle.std.specs.Prelude.{ℕ, List}
use Rattle.std.specs.Prelude as Std
use Rattle.std.proofs.Math.Option.{Option}
use Rattle.text.specs.says.Refusal.{option_mapped}
use Rattle.at_command.specs.Request.{Asked}
use Rattle.at_command.specs.says.Request.{asked}
use Rattle.at_command.specs.declared.request.Request.{Request}

abbrev pub wanted_says : Std.Option Request → List ℕ → List ℕ → Option Asked
wanted_says o first second = option_mapped (λ (q : Request). asked q first second) o
