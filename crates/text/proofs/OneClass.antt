-- No second answer of `classes_of` meets its contract.
use Rattle.std.proofs.Common.{◌≡◌, ℕ, refl}
use Rattle.text.specs.Class.{Two, class_numbers}
use Rattle.text.specs.says.Class.{classes_say, ClassesKeep}
use Rattle.text.specs.declared.class.Classes.{Classes}
use Rattle.text.proofs.One.{one_answer}

abbrev classes : Two → Classes
classes t = record { first = t.first; last = t.last }

-- one answer: class::classes_of
pub one_classes : (x y : ℕ) (a b : Classes) → ClassesKeep x y a → ClassesKeep x y b → a ≡ b
one_classes x y a b = one_answer classes_say classes (λ c. refl) a b (class_numbers x y)
