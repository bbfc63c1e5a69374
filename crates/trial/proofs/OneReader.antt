-- The second engine: what the one reader says that could take the line is what the trial says, in either trial and in both, refusals included.
use Prim.Native.Nat.{ℕ, zero, suc, ◌+◌, ◌-◌, ◌≤◌, ◌<◌}
use mathlib.Core.Path.{◌≡◌, refl, ap, sym, ◌∙◌, subst}
use mathlib.Core.Bool.{Bool, true, false, cond}
use mathlib.Core.List.{List, [], ◌∷◌}
use native.Mathlib.Omega.{arith}
use lib.Dec.{eqb}
use borrow.Author.Tests.{ne_eqb, eqb-true, eqb-false, lt-ltb, le-ltb}
use Rattle.text.specs.Condition.{Points, nth_reading}
use Rattle.text.specs.Line.{line_check, checked, refusal_by}
use Rattle.text.specs.Reading.{Reading, read, refused, mapped, each, refusal_in}
use Rattle.text.proofs.Conditions.{straight, points_left, points_right, reading_left, reading_right, reading_each, asked_join, asked_each, refusal_as}
use Rattle.at_command.specs.Conditions.{conditions}
use Rattle.at_command.specs.Kind.{Kind, kind_at}
use Rattle.at_command.specs.Response.{Response, ok, error, prompt, close_ok, iccid, signal, system, operator, time, download, imei, format, message, readings, response_text, reading_at}
use Rattle.at_command.proofs.Conditions.{responses_asked}
use Rattle.unsolicited.specs.Conditions.{urc_conditions}
use Rattle.unsolicited.specs.Urc.{Unsolicited, gnss, registration, urc_readings, urc_text, urc_reading_at}
use Rattle.unsolicited.proofs.Conditions.{urcs_asked}
use Rattle.trial.specs.Answer.{Said, response, unsolicited, all_readings, said_text, line_said}
use Rattle.trial.specs.Conditions.{all_conditions, ConditionsAsked, StraightAgrees}
use Rattle.trial.specs.Row.{no_row}
use Rattle.trial.specs.Sort as S
use Rattle.trial.specs.Sort.{Sort, sort_of, line_sort}
use Rattle.trial.specs.Taker as T
use Rattle.trial.specs.Taker.{Taker, taker_of, taker_at, line_taker}
use Rattle.trial.proofs.Order.{refusal_some}
use Rattle.trial.proofs.Turns.{behind}

-- ---- on paper

pub conditions_asked : ConditionsAsked
unfolding all_conditions all_readings conditions readings urc_readings
conditions_asked l = asked_join conditions urc_conditions l (each response (readings l)) (each unsolicited (urc_readings l)) refl (asked_each response conditions l (readings l) (responses_asked l)) (asked_each unsolicited urc_conditions l (urc_readings l) (urcs_asked l))

-- the line meets no condition but that of row r
module _ (l : List ℕ) (r : ℕ) (p : Points all_conditions l r) where
  pub said_row : said_text l ≡ nth_reading r (all_readings l)
  unfolding said_text
  said_row = straight all_conditions l (all_readings l) r (conditions_asked l) p

  pub response_row : response_text l ≡ nth_reading r (readings l)
  unfolding response_text all_conditions
  response_row = straight conditions l (readings l) r (responses_asked l) (points_left conditions urc_conditions l r p)

  urc_from : (i : ℕ) → ((j : ℕ) → 13 + j ≡ r → j ≡ i) → urc_text l ≡ nth_reading i (urc_readings l)
  unfolding urc_text all_conditions conditions
  urc_from i f = straight urc_conditions l (urc_readings l) i (urcs_asked l) (λ j e. f j (points_right conditions urc_conditions l r p j e))

  pub urc_row : 13 ≤ r → urc_text l ≡ nth_reading (r - 13) (urc_readings l)
  urc_row h = urc_from (r - 13) (λ j e. omega arith)

  pub urc_none : r < 13 → urc_text l ≡ refused 3
  unfolding urc_readings
  urc_none h = urc_from 4 (λ j e. absurd (omega arith))

  -- in both trials
  pub said_response : r < 13 → said_text l ≡ mapped response (response_text l)
  unfolding all_readings readings
  said_response h =
      said_row
      ∙ reading_left (each response (readings l)) (each unsolicited (urc_readings l)) r h
      ∙ reading_each response (readings l) r
      ∙ ap (mapped response) (sym response_row)

  pub said_urc : 13 ≤ r → said_text l ≡ mapped unsolicited (urc_text l)
  unfolding all_readings readings
  said_urc h =
      said_row
      ∙ reading_right (each response (readings l)) (each unsolicited (urc_readings l)) r h
      ∙ reading_each unsolicited (urc_readings l) (r - 13)
      ∙ ap (mapped unsolicited) (sym (urc_row h))

pub straight_agrees : StraightAgrees
straight_agrees l r p = record { said = said_row l r p; response = response_row l r p; urc = urc_row l r p; no_urc = urc_none l r p }

-- ---- as the code asks them, behind the check

module _ (l : List ℕ) (row : ℕ) (p : Points all_conditions l row) where
  -- of the responses
  pub response_at : checked (reading_at row) l ≡ checked response_text l
  unfolding checked reading_at
  response_at = ap (λ (x : Reading Response). cond (eqb (line_check l) 0) x (refused (line_check l))) (sym (response_row l row p))

  -- of the unsolicited, by the place i of the reader among the four
  urc_behind : (i : ℕ) → urc_text l ≡ urc_reading_at i l → checked (urc_reading_at i) l ≡ checked urc_text l
  unfolding checked
  urc_behind i e = ap (λ (x : Reading Unsolicited). cond (eqb (line_check l) 0) x (refused (line_check l))) (sym e)

  pub urc_at : 13 ≤ row → checked (urc_reading_at (row - 13)) l ≡ checked urc_text l
  unfolding urc_reading_at
  urc_at h = urc_behind (row - 13) (urc_row l row p h)

  pub urc_not : row < 13 → checked (urc_reading_at no_row) l ≡ checked urc_text l
  unfolding urc_reading_at urc_readings
  urc_not h = urc_behind no_row (urc_none l row p h)

  -- both trials
  pub both_response : row < 13 → checked said_text l ≡ mapped response (checked (reading_at row) l)
  both_response h = behind l said_text response response_text (said_response l row p h) ∙ ap (mapped response) (sym response_at)

  pub both_urc : 13 ≤ row → checked said_text l ≡ mapped unsolicited (checked (urc_reading_at (row - 13)) l)
  both_urc h = behind l said_text unsolicited urc_text (said_urc l row p h) ∙ ap (mapped unsolicited) (sym (urc_at h))

  -- with the value forgotten
  pub refusal_response : row < 13 → refusal_by (reading_at row) l ≡ refusal_by said_text l
  refusal_response h = refusal_as response (checked (reading_at row) l) ∙ ap refusal_in (sym (both_response h))

  pub refusal_urc : 13 ≤ row → refusal_by (urc_reading_at (row - 13)) l ≡ refusal_by said_text l
  refusal_urc h = refusal_as unsolicited (checked (urc_reading_at (row - 13)) l) ∙ ap refusal_in (sym (both_urc h))

-- and so the answer of that reader, under another name
module _ (l : List ℕ) (row : ℕ) (p : Points all_conditions l row) where
  pub line_as_response : (x : Reading Response) → row < 13 → x ≡ checked (reading_at row) l → mapped response x ≡ line_said l
  unfolding line_said
  line_as_response x h e = ap (mapped response) e ∙ sym (both_response l row p h)

  pub line_as_urc : (x : Reading Unsolicited) → 13 ≤ row → x ≡ checked (urc_reading_at (row - 13)) l → mapped unsolicited x ≡ line_said l
  unfolding line_said
  line_as_urc x h e = ap (mapped unsolicited) e ∙ sym (both_urc l row p h)

-- ---- which reader takes the line

module _ (l : List ℕ) where
  always : {A B : Type 0} (f : Said → Taker) (t : Taker) (g : A → B) (h : B → Said) → ((a : A) → f (h (g a)) ≡ t) → (x : Reading A) → mapped f (mapped h (mapped g x)) ≡ mapped (λ (s : Said). t) (mapped h (mapped g x))
  unfolding mapped
  always f t g h e (read a) = ap read (e a)
  always f t g h e (refused k) = refl

  -- what the reader of a row accepts is that reader's
  abbrev TakesInTurn : ℕ → List (Reading Said) → Type 0
  TakesInTurn k [] = Unit {0}
  TakesInTurn k (r ∷ rs) = (mapped taker_of r ≡ mapped (λ (s : Said). taker_at k) r) × TakesInTurn (suc k) rs

  in_turn : (k : ℕ) (rs : List (Reading Said)) → TakesInTurn k rs → (i : ℕ) → mapped taker_of (nth_reading i rs) ≡ mapped (λ (s : Said). taker_at (k + i)) (nth_reading i rs)
  unfolding mapped
  in_turn k [] f i = refl
  in_turn k (r ∷ rs) f zero = let z : k ≡ k + 0 = omega arith in f.0 ∙ ap (λ (n : ℕ). mapped (λ (s : Said). taker_at n) r) z
  in_turn k (r ∷ rs) f (suc i) = let z : suc k + i ≡ k + suc i = omega arith in in_turn (suc k) rs f.1 i ∙ ap (λ (n : ℕ). mapped (λ (s : Said). taker_at n) (nth_reading i rs)) z

  each_takes : TakesInTurn 0 (all_readings l)
  unfolding all_readings readings urc_readings kind_at
  each_takes = (
    always taker_of _ ok response (λ a. refl) _,
    (
      always taker_of _ error response (λ a. refl) _,
      (
        always taker_of _ prompt response (λ a. refl) _,
        (
          always taker_of _ close_ok response (λ a. refl) _,
          (
            always taker_of _ iccid response (λ a. refl) _,
            (
              always taker_of _ signal response (λ a. refl) _,
              (
                always taker_of _ system response (λ a. refl) _,
                (
                  always taker_of _ operator response (λ a. refl) _,
                  (
                    always taker_of _ time response (λ a. refl) _,
                    (
                      always taker_of _ download response (λ a. refl) _,
                      (
                        always taker_of _ imei response (λ a. refl) _,
                        (
                          always taker_of _ format response (λ a. refl) _,
                          (
                            always taker_of _ message response (λ a. refl) _,
                            (
                              always taker_of _ gnss unsolicited (λ a. refl) _,
                              (
                                always taker_of _ registration unsolicited (λ a. refl) _,
                                (
                                  always taker_of _ registration unsolicited (λ a. refl) _,
                                  (
                                    always taker_of _ registration unsolicited (λ a. refl) _,
                                    tt,
                                  ),
                                ),
                              ),
                            ),
                          ),
                        ),
                      ),
                    ),
                  ),
                ),
              ),
            ),
          ),
        ),
      ),
    ),
  )

  row_takes : (i : ℕ) → mapped taker_of (nth_reading i (all_readings l)) ≡ mapped (λ (s : Said). taker_at i) (nth_reading i (all_readings l))
  row_takes i = let z : 0 + i ≡ i = omega arith in in_turn 0 (all_readings l) each_takes i ∙ ap (λ (n : ℕ). mapped (λ (s : Said). taker_at n) (nth_reading i (all_readings l))) z

  pub taker_refused : (k : ℕ) → k ≡ refusal_by said_text l → (k ≡ 0 → ⊥) → refused k ≡ line_taker l
  unfolding line_taker line_said mapped
  taker_refused k e n = go (checked said_text l) e
    where
      go : (x : Reading Said) → k ≡ refusal_in x → refused k ≡ mapped taker_of x
      go (read s) f = absurd (n f)
      go (refused j) f = ap refused f

  pub taker_taken : (row : ℕ) → Points all_conditions l row → 0 ≡ refusal_by said_text l → read (taker_at row) ≡ line_taker l
  unfolding line_taker line_said checked mapped
  taker_taken row p e = go (eqb (line_check l) 0) (eqb-true (line_check l) 0) (eqb-false (line_check l) 0) (sym e)
    where
      taken : (x : Reading Said) → mapped taker_of x ≡ mapped (λ (s : Said). taker_at row) x → x ≡ said_text l → line_check l ≡ 0 → refusal_in x ≡ 0 → read (taker_at row) ≡ mapped taker_of x
      taken (read s) f g c h = sym f
      taken (refused j) f g c h = absurd (refusal_some l (g ∙ rw c) h)

      go : (t : Bool) → (t ≡ true → line_check l ≡ 0) → (t ≡ false → line_check l ≡ 0 → ⊥) → refusal_in (cond t (said_text l) (refused (line_check l))) ≡ 0 → read (taker_at row) ≡ mapped taker_of (cond t (said_text l) (refused (line_check l)))
      go true y f h = taken (said_text l) (subst (λ (x : Reading Said). mapped taker_of x ≡ mapped (λ (s : Said). taker_at row) x) (sym (said_row l row p)) (row_takes row)) refl (y refl) h
      go false y f h = absurd (f refl h)

-- the reader of a row, as the code asks for it
module _ (row : ℕ) where
  pub taker_response : (k : Kind) → row < 13 → k ≡ kind_at row → T.response k ≡ taker_at row
  taker_response k h e = rw (lt-ltb row 13 h, e)

  pub taker_gnss : row ≡ 13 → T.gnss ≡ taker_at row
  taker_gnss e = rw e

  pub taker_registration : 13 ≤ row → (row ≡ 13 → ⊥) → T.registration ≡ taker_at row
  taker_registration h n = rw (le-ltb row 13 h, ne_eqb row 13 n)

-- and what the line is to a desk
abbrev sort_in : Taker → Sort
sort_in (T.response k) = S.response k
sort_in T.gnss = S.unsolicited
sort_in T.registration = S.unsolicited

sort_as : (s : Said) → sort_of s ≡ sort_in (taker_of s)
sort_as (response r) = refl
sort_as (unsolicited (gnss r)) = refl
sort_as (unsolicited (registration r)) = refl

pub sort_taken : (l : List ℕ) (x : Reading Taker) (q : Reading Sort) → x ≡ line_taker l → q ≡ mapped sort_in x → q ≡ line_sort l
unfolding line_taker line_sort mapped
sort_taken l x q e z = z ∙ ap (mapped sort_in) e ∙ go (line_said l)
  where
    go : (y : Reading Said) → mapped sort_in (mapped taker_of y) ≡ mapped sort_of y
    go (read s) = ap read (sym (sort_as s))
    go (refused k) = refl
