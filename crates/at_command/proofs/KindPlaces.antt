-- A kind of response and its place in the order of trial. Assumes nothing.
use Rattle.std.proofs.Common.{min, ltb, ltb-true, ltb-false}
use Rattle.std.proofs.lemmas.List.{get_or-map}
use mathlib.Core.Path.{◌≡◌, refl, sym, ◌∙◌}
use mathlib.Core.Bool.{Bool, true, false}
use mathlib.Core.List.{List, [], ◌∷◌}
use Prim.Native.Nat.{ℕ, suc, ◌≤◌, ◌<◌}
use native.Mathlib.Omega.{arith}
use lib.Dec.{eqb}
use lib.ListN.{get_or, get_or-eq_default}
use borrow.Author.Tests.{eqb-true, eqb-false}
use Rattle.text.specs.Reading.{Reading, read, refused, mapped}
use Rattle.text.proofs.Yields.{Yields}
use Rattle.at_command.specs.Kind.{Kind, generic_ok, sim_error, write_prompt, close_ok, iccid, signal_quality, system_info, operator_info, network_time, download_info, imei, sms_message_format, sms_message, place_of, kinds, kind_at}
use Rattle.at_command.specs.Response.{Response, kind_of, readings}
use Rattle.at_command.specs.Response as R
use Rattle.at_command.specs.says.Request.{kind_says}
use Rattle.at_command.specs.declared.request.ResponseKind.{ResponseKind}
use Rattle.at_command.specs.declared.request.ResponseKind.TheVariants as K

pub at_place : (k : Kind) → kind_at (place_of k) ≡ k
unfolding kind_at
at_place generic_ok = refl
at_place sim_error = refl
at_place write_prompt = refl
at_place close_ok = refl
at_place iccid = refl
at_place signal_quality = refl
at_place system_info = refl
at_place operator_info = refl
at_place network_time = refl
at_place download_info = refl
at_place imei = refl
at_place sms_message_format = refl
at_place sms_message = refl

pub place_few : (k : Kind) → place_of k < 13
place_few generic_ok = omega arith
place_few sim_error = omega arith
place_few write_prompt = omega arith
place_few close_ok = omega arith
place_few iccid = omega arith
place_few signal_quality = omega arith
place_few system_info = omega arith
place_few operator_info = omega arith
place_few network_time = omega arith
place_few download_info = omega arith
place_few imei = omega arith
place_few sms_message_format = omega arith
place_few sms_message = omega arith

-- past the last kind there is the last
pub kind_past : (k : ℕ) → 12 ≤ k → sms_message ≡ kind_at k
unfolding kind_at
kind_past k h = go (eqb k 12) (eqb-true k 12) (eqb-false k 12)
  where
    go : (t : Bool) → (t ≡ true → k ≡ 12) → (t ≡ false → k ≡ 12 → ⊥) → sms_message ≡ get_or kinds k sms_message
    go true f g = rw (f refl)
    go false f g = sym (get_or-eq_default kinds sms_message {n = k} (let n = g refl in omega arith))

-- `at`: the code's kinds in their order, and the last past it
abbrev all : List ResponseKind
all =
    K.GenericOk
    ∷ K.SimError
    ∷ K.WritePrompt
    ∷ K.CloseOk
    ∷ K.Iccid
    ∷ K.SignalQuality
    ∷ K.SystemInfo
    ∷ K.OperatorInfo
    ∷ K.NetworkTime
    ∷ K.DownloadInfo
    ∷ K.Imei
    ∷ K.SmsMessageFormat
    ∷ K.SmsMessage
    ∷ []

pub kind_there : (k m : ℕ) → m ≡ min k 12 → kind_says (get_or all m K.GenericOk) ≡ kind_at k
unfolding kind_at
kind_there k m e = sym (get_or-map kind_says all m K.GenericOk sms_message (omega arith)) ∙ go (ltb k 12) (ltb-true k 12) (ltb-false k 12)
  where
    go : (t : Bool) → (t ≡ true → k < 12) → (t ≡ false → 12 ≤ k) → get_or kinds m sms_message ≡ get_or kinds k sms_message
    go true f g = let h = f refl in let z : m ≡ k = omega arith in rw z
    go false f g = let h = g refl in let z : m ≡ 12 = omega arith in rw z (kind_past k h)

-- what the reader at a place of the trial reads is of the kind at that place
unfoldable pub InOrder : ℕ → List (Reading Response) → Type 0
InOrder n [] = Unit {0}
InOrder n (x ∷ rs) = Yields (λ (r : Response). place_of (kind_of r) ≡ n) (λ k. Unit {0}) x × InOrder (suc n) rs

last : (n : ℕ) → InOrder n []
unfolding InOrder
last n = tt

next : {A : Type 0} (n : ℕ) (g : A → Response) (x : Reading A) (rs : List (Reading Response)) → ((a : A) → place_of (kind_of (g a)) ≡ n) → InOrder (suc n) rs → InOrder n (mapped g x ∷ rs)
unfolding InOrder mapped
next n g (read a) rs f r = (f a, r)
next n g (refused k) rs f r = (tt, r)

pub trial_order : (s : List ℕ) → InOrder 0 (readings s)
unfolding readings
trial_order s =
    next 0 R.ok _ _ (λ a. refl)
    (next 1 R.error _ _ (λ a. refl)
    (next 2 R.prompt _ _ (λ a. refl)
    (next 3 R.close_ok _ _ (λ a. refl)
    (next 4 R.iccid _ _ (λ a. refl)
    (next 5 R.signal _ _ (λ a. refl)
    (next 6 R.system _ _ (λ a. refl)
    (next 7 R.operator _ _ (λ a. refl)
    (next 8 R.time _ _ (λ a. refl)
    (next 9 R.download _ _ (λ a. refl)
    (next 10 R.imei _ _ (λ a. refl)
    (next 11 R.format _ _ (λ a. refl)
    (next 12 R.message _ _ (λ a. refl) (last 13)))))))))))))
