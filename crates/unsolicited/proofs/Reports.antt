-- The parts of +UGNSINF: where its fields begin, what may be empty, what the code's answers pick, of the
-- report or of its refusal alone; and the date that a report has, or for want of which it is refused.
-- Assumes nothing.
use mathlib.Core.Path.{◌≡◌, refl, ap, sym, subst, ◌∙◌}
use mathlib.Core.Bool.{Bool, true, false, cond, ◌&&◌}
use mathlib.Core.List.{List}
use mathlib.Core.Option.{Option, none, some}
use Prim.Native.Nat.{ℕ, ◌≤◌, ◌<◌}
use native.Mathlib.Omega.{arith}
use lib.Ieee.{Float, binary32, of_bits, of_fields, fin}
use lib.IntN.{pos}
use lib.ListN.{length, get_or, drop}
use borrow.Author.Tests.{eq-eqb, ne_eqb, eqb-true}
use Rattle.std.specs.Prelude as Std
use Rattle.text.specs.Field.{fields, nth}
use Rattle.text.specs.says.Refusal.{option_said}
use Rattle.text.specs.Reader.{FieldStartsKeeps}
use Rattle.text.specs.Reading.{Reading, read, refusal_in, present, need, need_else}
use Rattle.text.proofs.ReaderStarts.{starts_in, starts_past}
use Rattle.text.proofs.Readings.{there, refusal_need}
use Rattle.text.proofs.Tests.{never, not_some}
use Rattle.text.proofs.Yields.{Yields, yields_only, yields_either, yields_need}
use Rattle.numeral.specs.Numeral.{float_of, is_numeral, numeral_text}
use Rattle.numeral.specs.says.Numeral.{says, NumeralKeeps}
use Rattle.unsolicited.specs.Date.{Date, date_of}
use Rattle.unsolicited.specs.Gnss.{Report, not_enabled, no_fix, fix, or_zero, float_or_zero, count_or_zero, fix_on, fix_of, ugnsinf_fields, ugnsinf_text}
use Rattle.unsolicited.specs.Places.{Places}
use Rattle.unsolicited.specs.Undated.{field_of, Undated}
use Rattle.unsolicited.specs.Written.{Says}
use Rattle.unsolicited.proofs.Written.{read_so}
use Rattle.unsolicited.proofs.Written.{said as said-so}

-- what the numeral's answer says of a float field
pub float_said : (t s : List ℕ) (r : Std.Option Float) → NumeralKeeps t r → t ≡ s → option_said r ≡ float_of s
unfolding numeral_text need_else
float_said t s r keeps is = go (float_of t) r keeps.exact ∙ ap float_of is
  where
    go : (o : Option Float) (r : Std.Option Float) → says r ≡ need o read → option_said r ≡ o
    go none Std.None e = refl
    go none (Std.Some x) e = never (cc)
    go (some y) Std.None e = never (cc)
    go (some y) (Std.Some x) e = cc

cond_and : {A : Type 0} (a b : Bool) (x y : A) → cond (a && b) x y ≡ cond a (cond b x y) y
cond_and true b x y = refl
cond_and false b x y = refl

-- `is_readable`: of the twelve, whether each is there
asked : {A : Type 0} (t : Bool) (j : ℕ) (o : Option A) (f : A → Reading Report) → t ≡ present o → ((a : A) → j ≡ refusal_in (f a)) → cond t j 3 ≡ refusal_in (need o f)
asked t j o f e h = ap (λ (x : Bool). cond x j 3) e ∙ refusal_need 3 j o f h

module _ (fs : List (List ℕ)) (la lo al sp co hd pd vd iv gn gl ra : Bool)
    (e1 : la ≡ present (float_of (nth 3 fs))) (e2 : lo ≡ present (float_of (nth 4 fs))) (e3 : al ≡ present (float_of (nth 5 fs)))
    (e4 : sp ≡ present (float_or_zero (nth 6 fs))) (e5 : co ≡ present (float_or_zero (nth 7 fs)))
    (e6 : hd ≡ present (float_or_zero (nth 10 fs))) (e7 : pd ≡ present (float_or_zero (nth 11 fs))) (e8 : vd ≡ present (float_or_zero (nth 12 fs)))
    (e9 : iv ≡ present (count_or_zero (nth 14 fs))) (e10 : gn ≡ present (count_or_zero (nth 15 fs))) (e11 : gl ≡ present (count_or_zero (nth 16 fs))) (e12 : ra ≡ present (count_or_zero (nth 18 fs))) where
  pub refusal_is : (d : Date) → cond ((la && lo && al) && (sp && co) && (hd && pd && vd) && (iv && gn && gl && ra)) 0 3 ≡ refusal_in (fix_on d fs)
  unfolding fix_on
  refusal_is d =
      simp cond_and
      (asked la _ _ _ e1 (λ a. asked lo _ _ _ e2 (λ b. asked al _ _ _ e3 (λ c. asked sp _ _ _ e4 (λ d. asked co _ _ _ e5 (λ e. asked hd _ _ _ e6 (λ f.
      asked pd _ _ _ e7 (λ g. asked vd _ _ _ e8 (λ h. asked iv _ _ _ e9 (λ i. asked gn _ _ _ e10 (λ j. asked gl _ _ _ e11 (λ k. asked ra _ _ _ e12 (λ l. refl)))))))))))))

-- a field that may be empty, which the code has under the name t
module _ {A : Type 0} (z : A) (reads : List ℕ → Option A) (t s : List ℕ) (is : t ≡ s) where
  pub empty : length t ≡ 0 → some z ≡ or_zero z reads s
  unfolding or_zero
  empty h = rw (← is, eq-eqb (length t) 0 h)

  pub filled : (o : Option A) → (length t ≡ 0 → ⊥) → o ≡ reads t → o ≡ or_zero z reads s
  unfolding or_zero
  filled o h e = rw (← is, ne_eqb (length t) 0 h) e

  -- and where it is only asked for
  pub may_be_empty : length t ≡ 0 → true ≡ present (or_zero z reads s)
  may_be_empty h = there (or_zero z reads s) z (empty h)

  pub else_readable : (x : Bool) → (length t ≡ 0 → ⊥) → x ≡ present (reads t) → x ≡ present (or_zero z reads s)
  else_readable x h e = e ∙ ap present (filled (reads t) h refl)

pub float_empty : (t s : List ℕ) → t ≡ s → length t ≡ 0 → some (of_bits binary32 0) ≡ float_or_zero s
unfolding float_or_zero of_bits of_fields
float_empty t s is h = empty (fin false 0 (pos 0)) float_of t s is h

pub float_filled : (t s : List ℕ) (r : Std.Option Float) → NumeralKeeps t r → t ≡ s → ¬ length t ≡ 0 → option_said r ≡ float_or_zero s
unfolding float_or_zero
float_filled t s r keeps is h = filled (fin false 0 (pos 0)) float_of t s is _ h (float_said t t r keeps refl)

pub readable_empty : (t s : List ℕ) → t ≡ s → length t ≡ 0 → true ≡ present (float_or_zero s)
unfolding float_or_zero
readable_empty t s is h = may_be_empty (fin false 0 (pos 0)) float_of t s is h

pub readable_filled : (t s : List ℕ) (x : Bool) → x ≡ is_numeral t → t ≡ s → ¬ length t ≡ 0 → x ≡ present (float_or_zero s)
unfolding float_or_zero is_numeral
readable_filled t s x e is h = else_readable (fin false 0 (pos 0)) float_of t s is x h e

pub ruleset optional = (empty, filled, float_empty, float_filled, readable_empty, readable_filled)

-- the places of all fields, found once: exactly 21 of them
module _ (s ps : List ℕ) (starts : FieldStartsKeeps s ps) where
  pub too_few : length s < get_or ps 20 0 → length (fields 44 s) ≡ 21 → ⊥
  too_few h e = let l = starts_past s ps starts 20 (omega arith) h in omega arith

  pub too_many : get_or ps 21 0 ≤ length s → length (fields 44 s) ≡ 21 → ⊥
  too_many h e = let l = starts_in s ps starts 21 (omega arith) h in omega arith

  pub all_there : get_or ps 20 0 ≤ length s → length s < get_or ps 21 0 → Places ps s
  all_there h l = let a = starts_in s ps starts 20 (omega arith) h in let b = starts_past s ps starts 21 (omega arith) l in record { count = omega arith; starts = starts }

pub ruleset places = (too_few, too_many, all_there)

-- a report that is read has the date of its third field, where it has a fix; what is refused is refused with 3, and with 13 for want of such a date
abbrev pub Dated : List ℕ → Report → Type 0
Dated l not_enabled = Unit {0}
Dated l (no_fix n) = Unit {0}
Dated l (fix f) = Says (field_of 2 l) f.date_time

pub data Refusal (l : List ℕ) : ℕ → Type 0 where
  plain : Refusal l 3
  undated : Undated l → Refusal l 13

module _ (l : List ℕ) where
  abbrev Reports : Reading Report → Type 0
  Reports = Yields (Dated l) (Refusal l)

  with_value : {A : Type 0} (o : Option A) (f : A → Reading Report) → ((a : A) → Reports (f a)) → Reports (need o f)
  with_value o f h = yields_need _ _ o f plain (λ a e. h a)

  on_date : (d : Date) (fs : List (List ℕ)) → Says (field_of 2 l) d → Reports (fix_on d fs)
  unfolding fix_on
  on_date d fs s =
      with_value _ _ (λ a. with_value _ _ (λ b. with_value _ _ (λ c. with_value _ _ (λ d. with_value _ _ (λ e. with_value _ _ (λ f.
      with_value _ _ (λ g. with_value _ _ (λ h. with_value _ _ (λ i. with_value _ _ (λ j. with_value _ _ (λ k. with_value _ _ (λ l. s))))))))))))

  -- the date is looked for only where all else that `Undated` says holds
  by_date : (fs : List (List ℕ)) → nth 2 fs ≡ field_of 2 l → (((d : Date) → Says (field_of 2 l) d → ⊥) → Undated l) → Reports (fix_of fs)
  unfolding fix_of need_else
  by_date fs is w = go (date_of (nth 2 fs)) refl
    where
      go : (o : Option Date) → date_of (nth 2 fs) ≡ o → Reports (need_else 13 o (λ d. fix_on d fs))
      go none e = undated (w (λ d s. not_some (sym e ∙ read_so (nth 2 fs) d (subst (λ (t : List ℕ). Says t d) (sym is) s))))
      go (some d) e = on_date d fs (subst (λ (t : List ℕ). Says t d) is (said-so (nth 2 fs) d e))

  pub reports_so : Reports (ugnsinf_text l)
  unfolding ugnsinf_text ugnsinf_fields
  reports_so =
      let fs = fields 44 (drop 10 l) in
      yields_only _ _ _ _ plain (λ front. yields_only _ _ _ _ plain (λ count.
      yields_either _ _ _ _ _
      (λ run. yields_either _ _ _ _ _ (λ fix. by_date fs refl (λ date. record { front = front; count = eqb-true (length fs) 21 count; run = run; fix = fix; date = date })) (λ e. tt))
      (λ e. tt)))
