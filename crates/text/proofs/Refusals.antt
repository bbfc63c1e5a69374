-- Two refusals with one number are one, and no refusal has the number 0.
use Rattle.std.proofs.Common.{◌≡◌, ℕ, cond, ◌==◌, refl, sym, ap, ◌∙◌, Result, Ok, Err}
use Rattle.text.specs.says.Refusal.{number_of, refusal_said}
use Rattle.text.specs.declared.refusal.Refusal.{Refusal}
use Rattle.text.specs.declared.refusal.Refusal.TheVariants.{LineTooLong, NotUtf8, NotThisLine, TextTooLong, ArgumentTooLong, ArgumentBytes, NoRoom, CommandOpen, LineHeld, TextBufferTooSmall, OperatorNumber, NoSuchDate}

refusal_at : ℕ → Refusal
refusal_at n =
    cond (n == 1) LineTooLong (cond (n == 2) NotUtf8 (cond (n == 3) NotThisLine (cond (n == 4) TextTooLong
    (cond (n == 5) ArgumentTooLong (cond (n == 6) ArgumentBytes (cond (n == 7) NoRoom (cond (n == 8) CommandOpen
    (cond (n == 9) LineHeld (cond (n == 10) TextBufferTooSmall (cond (n == 12) OperatorNumber NoSuchDate))))))))))

pub check_at : ℕ → Result Unit Refusal
check_at n = cond (n == 0) (Ok tt) (Err (refusal_at n))

pub back_check : (r : Result Unit Refusal) → check_at (refusal_said r) ≡ r
unfolding check_at refusal_at
back_check (Ok v) = refl
back_check (Err LineTooLong) = refl
back_check (Err NotUtf8) = refl
back_check (Err NotThisLine) = refl
back_check (Err TextTooLong) = refl
back_check (Err ArgumentTooLong) = refl
back_check (Err ArgumentBytes) = refl
back_check (Err NoRoom) = refl
back_check (Err CommandOpen) = refl
back_check (Err LineHeld) = refl
back_check (Err TextBufferTooSmall) = refl
back_check (Err OperatorNumber) = refl
back_check (Err NoSuchDate) = refl

pub some_refusal : (k : Refusal) → number_of k ≡ 0 → ⊥
some_refusal k h = let e : ◌≡◌ {A = Result Unit Refusal} (Err k) (Ok tt) = sym (back_check (Err k)) ∙ ap check_at h ∙ back_check (Ok tt) in cc
