-- The order of a line's refusals: no line gets both 4 and 13, and what a refused line gets is told by what the seventeen readers say.
use Prim.Native.Nat.{ℕ, ◌≤◌}
use mathlib.Core.Path.{◌≡◌, refl, ap, sym, subst, ◌∙◌}
use mathlib.Core.Logic.{◌↔◌, ◌⊎◌, inl, inr}
use mathlib.Core.Bool.{Bool, true, false, cond, ◌&&◌, ◌||◌}
use mathlib.Core.List.{List, [], ◌∷◌, ◌++◌}
use native.Mathlib.Omega.{arith}
use lib.Dec.{eqb, ltb}
use lib.ListN.{length}
use borrow.Author.Tests.{eq-eqb, ne_eqb, eqb-true}
use Rattle.text.specs.Line.{line_check, checked}
use Rattle.text.specs.Reading.{Reading, read, refused, mapped, each, first_of, worse}
use Rattle.text.specs.Utf8.{utf8}
use Rattle.text.proofs.Tests.{never}
use Rattle.text.proofs.Yields.{Yields, AllYield, yields_read, yields_checked}
use Rattle.at_command.specs.Response.{Response, readings, response_text}
use Rattle.unsolicited.specs.Gnss.{Fix, fix}
use Rattle.unsolicited.specs.Undated.{field_of, Undated}
use Rattle.unsolicited.specs.Urc.{Unsolicited, gnss, urc_readings, urc_text, begins}
use Rattle.unsolicited.specs.Written.{Says}
use Rattle.unsolicited.proofs.Prefixes.{DatedUrc, urcs_so, urc_so}
use Rattle.unsolicited.proofs.Reports.{Refusal, plain, undated}
use Rattle.unsolicited.proofs.Undated.{exactly, trial_undated, trial_13, undated_begins}
use Rattle.trial.specs.Answer.{Said, response, unsolicited, all_readings, said_text, line_said}
use Rattle.trial.specs.Refusals.{one_refuses, NeverBoth, line_refusal}
use Rattle.trial.specs.Sort.{sort_of, line_sort}
use Rattle.trial.specs.says.Line.{line_says}
use Rattle.trial.specs.says.Refusals.{RefusalsOrdered, DatesSaid}
use Rattle.trial.proofs.Apart.{responses_not, urcs_not}
use Rattle.trial.proofs.Refusals.{Known, three, four, all_known, responses_refuse}
use Rattle.trial.proofs.Turns.{response_not, text_begun, text_other}

-- ---- one of several readings refuses with k

module _ (k : ℕ) where
  one_joined : {A : Type 0} (rs qs : List (Reading A)) → one_refuses k (rs ++ qs) ≡ (one_refuses k rs || one_refuses k qs)
  one_joined [] qs = refl
  one_joined (read a ∷ rs) qs = one_joined rs qs
  one_joined (refused j ∷ rs) qs = go (eqb j k) (one_joined rs qs)
    where
      go : (t : Bool) → one_refuses k (rs ++ qs) ≡ (one_refuses k rs || one_refuses k qs) → (t || one_refuses k (rs ++ qs)) ≡ ((t || one_refuses k rs) || one_refuses k qs)
      go true e = refl
      go false e = e

  one_each : {A B : Type 0} (f : A → B) (rs : List (Reading A)) → one_refuses k (each f rs) ≡ one_refuses k rs
  unfolding mapped
  one_each f [] = refl
  one_each f (read a ∷ rs) = one_each f rs
  one_each f (refused j ∷ rs) = ap (λ (t : Bool). eqb j k || t) (one_each f rs)

  -- none does where each refuses with some other number
  none_refuses : {A : Type 0} (Q : A → Type 0) (R : ℕ → Type 0) → ((j : ℕ) → R j → j ≡ k → ⊥) → (rs : List (Reading A)) → AllYield Q R rs → one_refuses k rs ≡ false
  none_refuses Q R f [] h = refl
  none_refuses Q R f (read a ∷ rs) h = none_refuses Q R f rs h.1
  none_refuses Q R f (refused j ∷ rs) h = rw (ne_eqb j k (f j h.0)) (none_refuses Q R f rs h.1)

not_4 : (l : List ℕ) (j : ℕ) → Refusal l j → j ≡ 4 → ⊥
not_4 l j plain e = omega arith
not_4 l j (undated u) e = omega arith

not_13 : (j : ℕ) → Known j → j ≡ 13 → ⊥
not_13 j three e = omega arith
not_13 j four e = omega arith

module _ (l : List ℕ) where
  -- of all readings, by what the line begins with
  one_of : (k : ℕ) → one_refuses k (all_readings l) ≡ (one_refuses k (readings l) || one_refuses k (urc_readings l))
  unfolding all_readings
  one_of k =
      one_joined k (each response (readings l)) (each unsolicited (urc_readings l))
      ∙ ap (λ (t : Bool). t || one_refuses k (each unsolicited (urc_readings l))) (one_each k response (readings l))
      ∙ ap (λ (t : Bool). one_refuses k (readings l) || t) (one_each k unsolicited (urc_readings l))

  never_begun : begins l ≡ true → one_refuses 4 (all_readings l) ≡ false
  never_begun e =
      one_of 4
      ∙ ap (λ (rs : List (Reading Response)). one_refuses 4 rs || one_refuses 4 (urc_readings l)) (responses_not l e)
      ∙ none_refuses 4 (DatedUrc l) (Refusal l) (not_4 l) (urc_readings l) (urcs_so l)

  never_other : begins l ≡ false → one_refuses 13 (all_readings l) ≡ false
  never_other e =
      one_of 13
      ∙ ap (λ (t : Bool). t || one_refuses 13 (urc_readings l)) (none_refuses 13 _ Known not_13 (readings l) (all_known l))
      ∙ ap (λ (us : List (Reading Unsolicited)). one_refuses 13 us) (urcs_not l e)

pub never_both : NeverBoth
never_both l = go (begins l) refl
  where
    go : (t : Bool) → begins l ≡ t → one_refuses 4 (all_readings l) && one_refuses 13 (all_readings l) ≡ false
    go true e = rw (never_begun l e)
    go false e = right (one_refuses 4 (all_readings l)) (one_refuses 13 (all_readings l)) (never_other l e)
      where
        right : (a b : Bool) → b ≡ false → a && b ≡ false
        right true b h = h
        right false b h = refl

-- ---- what a trial of them refuses with

-- what is left where none accepts: the number that it began with, or one that a reader said
said_by_one : {A : Type 0} (j k : ℕ) (rs : List (Reading A)) → first_of j rs ≡ refused k → (k ≡ j) ⊎ (one_refuses k rs ≡ true)
unfolding first_of
said_by_one j k [] e = inl (cc)
said_by_one j k (read a ∷ rs) e = never (cc)
said_by_one j k (refused i ∷ rs) e = elim (said_by_one (worse j i) k rs e) [
  | inl h ↦ go (eqb j 3) h
  | inr h ↦ inr (or_right (eqb i k) (one_refuses k rs) h)
]
  where
    or_right : (a b : Bool) → b ≡ true → a || b ≡ true
    or_right true b h = refl
    or_right false b h = h

    go : (t : Bool) → k ≡ cond t i j → (k ≡ j) ⊎ (eqb i k || one_refuses k rs ≡ true)
    go true h = inr (rw (eq-eqb i k (sym h)))
    go false h = inl h

-- 3 only where it began with 3 and all said 3
all_three : {A : Type 0} (j : ℕ) (rs : List (Reading A)) → first_of j rs ≡ refused 3 → (j ≡ 3) × ((k : ℕ) → (k ≡ 3 → ⊥) → one_refuses k rs ≡ false)
unfolding first_of
all_three j [] e = (cc, λ k n. refl)
all_three j (read a ∷ rs) e = never (cc)
all_three j (refused i ∷ rs) e = let h = all_three (worse j i) rs e in go (eqb j 3) refl h.0 h.1
  where
    go : (t : Bool) → eqb j 3 ≡ t → cond t i j ≡ 3 → ((k : ℕ) → (k ≡ 3 → ⊥) → one_refuses k rs ≡ false) → (j ≡ 3) × ((k : ℕ) → (k ≡ 3 → ⊥) → one_refuses k (refused i ∷ rs) ≡ false)
    go true is h g = (eqb-true j 3 is, λ k n. rw (ne_eqb i k (λ z. n (sym z ∙ h))) (g k n))
    go false is h g = let z = eq-eqb j 3 h in never (cc)

-- a refusal under another name
pub renamed : {A B : Type 0} (f : A → B) (x : Reading A) (k : ℕ) → mapped f x ≡ refused k → x ≡ refused k
unfolding mapped
renamed f (read a) k e = never (cc)
renamed f (refused j) k e = ap refused (cc)

-- so a line that passes the check
module _ (l : List ℕ) where
  abbrev order : ℕ
  order = cond (one_refuses 4 (all_readings l)) 4 (cond (one_refuses 13 (all_readings l)) 13 3)

  module _ (k : ℕ) (e : said_text l ≡ refused k) where
    one_said : (k ≡ 3 → ⊥) → one_refuses k (all_readings l) ≡ true
    unfolding said_text
    one_said n = elim (said_by_one 3 k (all_readings l) e) [
      | inl h ↦ absurd (n h)
      | inr h ↦ h
    ]

    is_three : k ≡ 3 → 3 ≡ order
    unfolding said_text
    is_three h =
        let z = (all_three 3 (all_readings l) (e ∙ ap refused h)).1 in
        rw (z 4 (λ x. omega arith), z 13 (λ x. omega arith))

  from_urc : (k : ℕ) → said_text l ≡ refused k → begins l ≡ true → Refusal l k → k ≡ order
  from_urc k e b plain = is_three 3 e refl
  from_urc k e b (undated u) = rw (never_begun l b, one_said 13 e (λ x. omega arith))

  from_response : (k : ℕ) → said_text l ≡ refused k → Known k → k ≡ order
  from_response k e three = is_three 3 e refl
  from_response k e four = rw (one_said 4 e (λ x. omega arith))

  by_front : (k : ℕ) → said_text l ≡ refused k → k ≡ order
  by_front k e = go (begins l) refl
    where
      go : (t : Bool) → begins l ≡ t → k ≡ order
      go true b = from_urc k e b (subst (Yields (DatedUrc l) (Refusal l)) (renamed unsolicited (urc_text l) k (sym (text_begun l b) ∙ e)) (urc_so l))
      go false b = from_response k e (subst (Yields _ Known) (renamed response (response_text l) k (sym (text_other l b) ∙ e)) (responses_refuse l))

  refused_so : (k : ℕ) → line_said l ≡ refused k → k ≡ line_refusal l
  unfolding line_said checked line_check
  refused_so k = go (ltb 256 (length l)) (utf8 l)
    where
      go : (a b : Bool) → cond (eqb (cond a 1 (cond b 0 2)) 0) (said_text l) (refused (cond a 1 (cond b 0 2))) ≡ refused k → k ≡ cond a 1 (cond b order 2)
      go true b e = cc
      go false true e = by_front k e
      go false false e = cc

  -- which is 1 to 13
  bounds : (1 ≤ line_refusal l) × (line_refusal l ≤ 13)
  bounds = go (ltb 256 (length l)) (utf8 l) (one_refuses 4 (all_readings l)) (one_refuses 13 (all_readings l))
    where
      go : (a b c d : Bool) → (1 ≤ cond a 1 (cond b (cond c 4 (cond d 13 3)) 2)) × (cond a 1 (cond b (cond c 4 (cond d 13 3)) 2) ≤ 13)
      go true b c d = (omega arith, omega arith)
      go false false c d = (omega arith, omega arith)
      go false true true d = (omega arith, omega arith)
      go false true false true = (omega arith, omega arith)
      go false true false false = (omega arith, omega arith)

  pub refusal_order : {k : ℕ} → refused k ≡ line_said l → k ≡ line_refusal l
  refusal_order e = refused_so _ (sym e)

  pub refusal_low : {k : ℕ} → refused k ≡ line_said l → k ≤ 13
  refusal_low {k} e = rw (refused_so k (sym e)) bounds.1

  pub refusal_some : {k : ℕ} → refused k ≡ line_said l → k ≡ 0 → ⊥
  refusal_some {k} e z = let n = refused_so k (sym e) in let b = bounds.0 in omega arith

pub refusals_ordered : RefusalsOrdered
refusals_ordered l r h k e = refused_so l k (sym h ∙ e)

-- ---- dates

abbrev DatedSaid : List ℕ → Said → Type 0
DatedSaid l (response r) = Unit {0}
DatedSaid l (unsolicited u) = DatedUrc l u

module _ (l : List ℕ) where
  abbrev Dates : Reading Said → Type 0
  Dates = Yields (DatedSaid l) (λ (k : ℕ). Unit {0})

  text_dated : Dates (said_text l)
  unfolding mapped
  text_dated = go (begins l) refl
    where
      begun : (r : Reading Unsolicited) → Yields (DatedUrc l) (Refusal l) r → Dates (mapped unsolicited r)
      begun (read u) h = h
      begun (refused k) h = tt

      other : (r : Reading Response) → Dates (mapped response r)
      other (read r) = tt
      other (refused k) = tt

      go : (t : Bool) → begins l ≡ t → Dates (said_text l)
      go true e = subst Dates (sym (text_begun l e)) (begun (urc_text l) (urc_so l))
      go false e = subst Dates (sym (text_other l e)) (other (response_text l))

  pub said_dated : (f : Fix) → line_said l ≡ read (unsolicited (gnss (fix f))) → Says (field_of 2 l) f.date_time
  unfolding line_said
  said_dated f e = yields_read _ _ (line_said l) (unsolicited (gnss (fix f))) (yields_checked _ _ said_text l (λ z. tt) text_dated) e

  only_undated : said_text l ≡ refused 13 → Undated l
  only_undated e = go (begins l) refl
    where
      go : (t : Bool) → begins l ≡ t → Undated l
      go true b = trial_undated l (renamed unsolicited (urc_text l) 13 (sym (text_begun l b) ∙ e))
      go false b = absurd (not_13 13 (subst (Yields _ Known) (renamed response (response_text l) 13 (sym (text_other l b) ∙ e)) (responses_refuse l)) refl)

  undated_so : Undated l → said_text l ≡ refused 13
  unfolding mapped
  undated_so u = text_begun l (undated_begins l u) ∙ ap (mapped unsolicited) (trial_13 l u)

  by_all : (x : Reading Said) → x ≡ line_said l → (x ≡ refused 13) ↔ ((line_check l ≡ 0) × Undated l)
  unfolding line_said
  by_all x k = exactly l said_text only_undated undated_so x k

  pub said_13 : (line_said l ≡ refused 13) ↔ ((line_check l ≡ 0) × Undated l)
  said_13 = by_all (line_said l) refl

  -- and so to a desk
  pub undated_sort : line_check l ≡ 0 → Undated l → line_sort l ≡ refused 13
  unfolding line_sort mapped
  undated_sort p u = ap (mapped sort_of) (said_13.1 (p, u))

  sort_undated : line_sort l ≡ refused 13 → (line_check l ≡ 0) × Undated l
  unfolding line_sort
  sort_undated e = said_13.0 (renamed sort_of (line_said l) 13 e)

  pub dates_said : DatesSaid l
  unfolding checked
  dates_said = record {
    dated = λ r k f e. said_dated f (sym k ∙ e);
    line = λ r k. by_all (line_says r) k;
    sort = λ r k. (λ e. sort_undated (sym k ∙ e), λ h. k ∙ undated_sort h.0 h.1);
    response = λ p u r k. k ∙ rw p (response_not l (undated_begins l u));
  }
