-- The contract of a call that answers a value of the paper and changes nothing.
use Rattle.std.specs.Prelude.{◌≡◌}

abbrev pub Gives : {A : Type 0} → A → A → Type 0
Gives value r = r ≡ value
