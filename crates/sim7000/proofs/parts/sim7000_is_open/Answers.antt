-- `sim7000_is_open` meets its contract: a command is open where some answer is awaited.
use Prim.Native.Nat.{ℕ}
use mathlib.Core.Path.{◌≡◌, refl, sym, ap, ◌∙◌}
use mathlib.Core.Bool.{Bool, true, false, cond}
use mathlib.Core.List.{[]}
use mir.Val.{bool_byte}
use Rattle.std.specs.Prelude.{Option, is_some}
use Rattle.at_command.specs.declared.request.Awaits.{Awaits}
use Rattle.desk.specs.Judge.{Command, is_open}
use Rattle.desk.specs.Says.{command_says}
use Rattle.desk.proofs.Opening.{some_open}
use Rattle.sim7000.proofs.parts.sim7000_is_open.Goals as goal

byte_is : (b : Bool) → bool_byte b ≡ cond b 1 0
byte_is true = refl
byte_is false = refl

open_byte : (o : Option Awaits) {b : Bool} {n : ℕ} → n ≡ bool_byte b → b ≡ is_some o → n ≡ cond (is_open (command_says o)) 1 0
open_byte o e f = e ∙ ap bool_byte (f ∙ sym (some_open o)) ∙ byte_is (is_open (command_says o))

pub returns : goal.returns
returns c = open_byte c.command_in.result c.into.ensures c.is_some.ensures ∙ ap (λ (k : Command). cond (is_open k) 1 0) c.command_in.ensures
