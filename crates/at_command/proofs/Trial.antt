-- The trial goes through the readers by their places. Assumes nothing.
use Rattle.std.proofs.Common.{◌≡◌, ℕ, zero, suc, ◌+◌, ◌<◌, List, [], ◌∷◌, length, drop, sym, refl, ap, ◌∙◌, arith, add-one}
use Rattle.text.specs.Condition.{nth_reading}
use Rattle.text.specs.Reading.{Reading, read, refused, worse, first_of}
use Rattle.text.proofs.Readings.{first_is, first_else, first_none}
use Rattle.at_command.specs.Response.{Response, readings, reading_at, response_text}

from_place : {A : Type 0} (rs : List (Reading A)) (k : ℕ) → k < length rs → drop k rs ≡ nth_reading k rs ∷ drop (k + 1) rs
from_place [] k h = absurd (omega arith)
from_place (r ∷ rs) zero h = refl
from_place (r ∷ rs) (suc k) h = rw add-one (from_place rs k (omega arith) ∙ rw add-one)

-- before the reader at place k, where the earlier ones refused with j
module _ (l : List ℕ) (j k : ℕ) (so_far : response_text l ≡ first_of j (drop k (readings l))) where
  module _ (h : k < 13) where
    here : drop k (readings l) ≡ reading_at k l ∷ drop (k + 1) (readings l)
    unfolding readings reading_at
    here = from_place (readings l) k h

    pub trial_takes : (c : Response) → read c ≡ reading_at k l → read c ≡ response_text l
    trial_takes c e = first_is j (reading_at k l) (drop (k + 1) (readings l)) c e ∙ sym (so_far ∙ ap (first_of j) here)

    pub trial_goes_on : (n i : ℕ) → refused n ≡ reading_at k l → i ≡ worse j n → response_text l ≡ first_of i (drop (k + 1) (readings l))
    trial_goes_on n i e w =
        so_far ∙ ap (first_of j) here ∙ sym (first_else j (reading_at k l) (drop (k + 1) (readings l)) n i (first_of i (drop (k + 1) (readings l))) e w refl)

  pub trial_ends : k ≡ 13 → refused j ≡ response_text l
  unfolding readings
  trial_ends e = sym (so_far ∙ ap (λ (n : ℕ). first_of j (drop n (readings l))) e ∙ sym (first_none j))
