-- Both trials in turn, as one list, are the one trial that the line's front chooses.
use Prim.Native.Nat.{ℕ}
use mathlib.Core.Path.{◌≡◌, refl, sym, ap, ◌∙◌}
use mathlib.Core.Bool.{Bool, true, false, cond}
use mathlib.Core.List.{List, [], ◌∷◌, ◌++◌}
use lib.Dec.{eqb}
use Rattle.text.specs.Line.{line_check, checked}
use Rattle.text.specs.Reading.{Reading, read, refused, mapped, each, first_of, worse}
use Rattle.text.proofs.Readings.{first_each}
use Rattle.at_command.specs.Response.{Response, readings, response_text}
use Rattle.unsolicited.specs.Urc.{Unsolicited, urc_readings, urc_text, begins}
use Rattle.trial.specs.Answer.{Said, response, unsolicited, all_readings, said_text, line_said}
use Rattle.trial.proofs.Apart.{responses_not, urcs_not}
use Rattle.trial.proofs.Refusals.{three, four, Refuses, responses_refuse}

-- what is read, or what the readers after it say
abbrev or_else : {A : Type 0} → Reading A → List (Reading A) → Reading A
or_else (read a) rs = read a
or_else (refused k) rs = first_of k rs

module _ {A : Type 0} where
  first_join : (j : ℕ) (rs qs : List (Reading A)) → first_of j (rs ++ qs) ≡ or_else (first_of j rs) qs
  unfolding first_of
  first_join j [] qs = refl
  first_join j (read a ∷ rs) qs = refl
  first_join j (refused k ∷ rs) qs = first_join (worse j k) rs qs

-- the trial is the responses' and then the unsolicited's
in_turn : (l : List ℕ) → said_text l ≡ or_else (mapped response (response_text l)) (each unsolicited (urc_readings l))
unfolding said_text all_readings response_text
in_turn l = first_join 3 (each response (readings l)) _ ∙ ap (λ (r : Reading Said). or_else r (each unsolicited (urc_readings l))) (first_each response 3 (readings l))

module _ (l : List ℕ) where
  pub response_not : begins l ≡ true → response_text l ≡ refused 3
  unfolding response_text first_of
  response_not e = ap (first_of 3) (responses_not l e)

  pub text_begun : begins l ≡ true → said_text l ≡ mapped unsolicited (urc_text l)
  unfolding mapped urc_text
  text_begun e =
      in_turn l ∙ ap (λ (r : Reading Response). or_else (mapped response r) (each unsolicited (urc_readings l))) (response_not e) ∙ first_each unsolicited 3 (urc_readings l)

  pub text_other : begins l ≡ false → said_text l ≡ mapped response (response_text l)
  unfolding mapped first_of
  text_other e = in_turn l ∙ ap (λ (us : List (Reading Unsolicited)). or_else (mapped response (response_text l)) (each unsolicited us)) (urcs_not l e) ∙ go (response_text l) (responses_refuse l)
    where
      go : (r : Reading Response) → Refuses r → or_else (mapped response r) (each unsolicited (refused 3 ∷ refused 3 ∷ refused 3 ∷ refused 3 ∷ [])) ≡ mapped response r
      go (read r) h = refl
      go (refused k) three = refl
      go (refused k) four = refl

  -- behind the one check of the line
  pub behind : {A B : Type 0} (whole : List ℕ → Reading B) (f : A → B) (reader : List ℕ → Reading A) → whole l ≡ mapped f (reader l) → checked whole l ≡ mapped f (checked reader l)
  unfolding checked mapped
  behind whole f reader e = go (eqb (line_check l) 0)
    where
      go : (t : Bool) → cond t (whole l) (refused (line_check l)) ≡ mapped f (cond t (reader l) (refused (line_check l)))
      go true = e
      go false = refl

  -- as the code has the test under the name t, and the answer of the trial that it asks
  module _ (t : Bool) (is : t ≡ begins l) where
    pub said_begun : t ≡ true → {r : Reading Unsolicited} → r ≡ checked urc_text l → mapped unsolicited r ≡ line_said l
    unfolding line_said
    said_begun h e = ap (mapped unsolicited) e ∙ sym (behind said_text unsolicited urc_text (text_begun (sym is ∙ h)))

    pub said_other : t ≡ false → {r : Reading Response} → r ≡ checked response_text l → mapped response r ≡ line_said l
    unfolding line_said
    said_other h e = ap (mapped response) e ∙ sym (behind said_text response response_text (text_other (sym is ∙ h)))
