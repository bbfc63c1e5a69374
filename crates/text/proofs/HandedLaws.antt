-- What is handed out of a reading, and that a text is empty where the line is refused.
use Rattle.std.proofs.Common.{◌≡◌, ℕ, List, [], sym, Bor, Err}
use Rattle.text.specs.Part.{part_of}
use Rattle.text.specs.Reading.{Reading, read, refused}
use Rattle.text.specs.Handed.{Handed, nowhere, handed, IsHanded, HandsOut}
use Rattle.text.specs.says.Handed.{TextKeeps}
use Rattle.text.specs.says.Refusal.{number_of}
use Rattle.text.specs.declared.refusal.Refusal.{Refusal}

pub none_there : (line fallback t : Bor (List ℕ)) (k : ℕ) → IsHanded line fallback (nowhere k) t → t.now ≡ []
unfolding IsHanded part_of
none_there line fallback t k p = p.bytes

-- the part of the text that the value of a reading names, or the reading's refusal
module _ {A : Type 0} (text : A → Handed) (line fallback : Bor (List ℕ)) (x : Reading A) where
  pub hands_out : (a : A) (t : Bor (List ℕ)) → read a ≡ x → 0 ≡ (text a).refusal → IsHanded line fallback (text a) t → HandsOut line fallback (handed text x) t 0
  unfolding handed
  hands_out a t e z p = rw (sym e) (record { part = p; number = z })

  pub hands_none : (k : Refusal) → refused (number_of k) ≡ x → TextKeeps line fallback (handed text x) (Err k)
  unfolding handed
  hands_none k e = rw (sym e)
