-- What an open of the desk's parts leaves in the numbers that are lent.
use Rattle.std.specs.Prelude.{ℕ, ◌≡◌, List}
use Rattle.at_command.specs.says.Request.{encoded_says}
use Rattle.desk.specs.Says.{opened_parts_says}
use Rattle.desk.specs.declared.open.OpenedParts.{OpenedParts}
use Rattle.sim7000.specs.Command.{open_left, open_leaves}

-- the contract of `leave`, which sees none of the lent bytes
abbrev pub LeaveKeeps : OpenedParts → List ℕ → ℕ → ℕ → List ℕ → ℕ → Type 0
LeaveKeeps opened state size r state' size' =
    (line sent out : List ℕ) → open_left r state' sent out size' ≡ open_leaves (encoded_says opened.answer) (opened_parts_says opened line sent out) state sent out size
