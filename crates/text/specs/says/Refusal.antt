-- What refusals, and the answers that may be one, say on paper.
use Rattle.std.specs.Prelude.{◌≡◌, ℕ}
use Rattle.std.specs.Prelude as Std
use Rattle.std.proofs.Math.Option.{Option, none, some}
use Rattle.text.specs.Reading.{Reading, read, refused, worse}
use Rattle.text.specs.declared.refusal.Refusal.{Refusal}
use Rattle.text.specs.declared.refusal.Refusal.TheVariants.{LineTooLong, NotUtf8, NotThisLine, TextTooLong, ArgumentTooLong, ArgumentBytes, NoRoom, CommandOpen, LineHeld, TextBufferTooSmall, OperatorNumber, NoSuchDate}

-- the number of each (document 01, "Refusal numbers"; document 02, CR 2 and CR 8)
abbrev pub number_of : Refusal → ℕ
number_of LineTooLong = 1
number_of NotUtf8 = 2
number_of NotThisLine = 3
number_of TextTooLong = 4
number_of ArgumentTooLong = 5
number_of ArgumentBytes = 6
number_of NoRoom = 7
number_of CommandOpen = 8
number_of LineHeld = 9
number_of TextBufferTooSmall = 10
number_of OperatorNumber = 12
number_of NoSuchDate = 13

-- a value that may be missing
abbrev pub option_said : {A : Type 0} → Std.Option A → Option A
option_said (Std.Some a) = some a
option_said Std.None = none

-- the same of a value that f says on paper
abbrev pub option_mapped : {V A : Type 0} → (V → A) → Std.Option V → Option A
option_mapped f (Std.Some v) = some (f v)
option_mapped f Std.None = none

-- a value, which f says on paper, or a refusal
abbrev pub reading_said : {V A : Type 0} → (V → A) → Std.Result V Refusal → Reading A
reading_said f (Std.Ok v) = read (f v)
reading_said f (Std.Err k) = refused (number_of k)

-- the number of a refusal, 0 where there is none
abbrev pub refusal_said : {V : Type 0} → Std.Result V Refusal → ℕ
refusal_said (Std.Ok v) = 0
refusal_said (Std.Err k) = number_of k

-- the contract of `worse`
abbrev pub WorseKeeps : Refusal → Refusal → Refusal → Type 0
WorseKeeps j k r = number_of r ≡ worse (number_of j) (number_of k)

-- of a reader of numbers
abbrev pub ParsedKeeps : {A : Type 0} → Option A → Std.Option A → Type 0
ParsedKeeps o r = option_said r ≡ o

-- and of a check that answers a refusal alone
abbrev pub ChecksKeep : ℕ → Std.Result Unit Refusal → Type 0
ChecksKeep k r = refusal_said r ≡ k
