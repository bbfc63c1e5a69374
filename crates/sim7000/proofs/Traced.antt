-- An event's ordinal counts the lines of the bytes that were fed, of exported calls too.
use mathlib.Core.Path.{refl, sym, subst}
use mathlib.Core.List.{List, []}
use native.Mathlib.Omega.{arith}
use Prim.Native.Nat.{ℕ}
use Rattle.desk.specs.Desk.{State}
use Rattle.desk.specs.Traced.{EventsTraced, QuietTraced}
use Rattle.desk.proofs.Numbering.{capped_few}
use Rattle.desk.proofs.Traced.{Stands, stands_first, desk_resets, events_traced, quiets_traced}
use Rattle.sim7000.specs.Parts.{desk_in}
use Rattle.sim7000.specs.Calls.{ExportOpens, ExportFeeds, ExportResets}
use Rattle.sim7000.specs.Calls as By
use Rattle.sim7000.proofs.Demand.{export_sound}

export_resets : (s : State) → ExportResets s → Stands [] s
export_resets s (By.own r) = desk_resets s r
export_resets s (By.zeros line sent) = stands_first s refl (capped_few 0 (omega arith))
export_resets s (By.exported line state sent state' kept) = subst (λ (n : List ℕ). Stands [] (desk_in line n sent)) (sym kept) (stands_first _ refl (capped_few 0 (omega arith)))

pub export_traced : EventsTraced ExportOpens ExportResets ExportFeeds
export_traced = events_traced ExportOpens ExportResets ExportFeeds export_sound export_resets

pub export_quiet : QuietTraced ExportOpens ExportResets ExportFeeds
export_quiet = quiets_traced ExportOpens ExportResets ExportFeeds export_sound export_resets
