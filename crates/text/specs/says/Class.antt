-- What the classes of two bytes say on paper, and the contract of `classes_of`.
use Rattle.std.specs.Prelude.{◌≡◌, ℕ}
use Rattle.text.specs.Class.{Two, class_numbers}
use Rattle.text.specs.declared.class.Classes.{Classes}

abbrev pub classes_say : Classes → Two
classes_say c = record { first = c.first; last = c.last }

abbrev pub ClassesKeep : ℕ → ℕ → Classes → Type 0
ClassesKeep x y r = classes_say r ≡ class_numbers x y
