-- What a production gives, or its first fault.
use Rattle.std.specs.Prelude.{◌≡◌, ◌⊎◌, Bool, true, false, nat_le, nat_lt, ◌&&◌, ◌^◌, ℕ, ℤ, pos, negsuc, Option, Some, None, Result, Ok, Err, if◌then◌else◌}
use Rattle.idl_const.specs.declared.value.ConstErr.{ConstErr}
use Rattle.aoi.specs.declared.faults.NameErr.{NameErr}
use Rattle.aoi.specs.declared.faults.NameFault.{NameFault}
use Rattle.aoi.specs.declared.faults.NameFault.TheVariants.{Range, NoMemory}

-- what a production gives, or the first fault and its declaration
abbrev pub Answer : Type 0 → Type 0
Answer A = Result A NameErr

-- a fault in a declaration
abbrev pub fault : {A : Type 0} → NameFault → ℕ → Answer A
fault f d = Err (record { fault = f; decl = d })

-- what follows from what is given; a fault stays
abbrev pub and_then : {A B : Type 0} → Answer A → (A → Answer B) → Answer B
and_then (Ok a) f = f a
and_then (Err e) f = Err e

-- what is given, if there is no fault
abbrev pub given : {A : Type 0} → Answer A → Option A
given (Ok a) = Some a
given (Err e) = None

-- nothing, or a fault where something holds
abbrev pub refused : NameFault → ℕ → Bool → Answer (Unit {0})
refused f d true = fault f d
refused f d false = Ok tt

-- a number from a lowest one up to 2 ^ 32 - 1
abbrev pub natural : ℕ → ℕ → ℤ → Answer ℕ
natural low d (pos n) = if nat_le low n && nat_lt n (2 ^ 32) then Ok n else fault Range d
natural low d (negsuc n) = fault Range d

-- what an operator gives; where it gives nothing, the number is out of range
abbrev pub in_range : ℕ → Result ℤ ConstErr → Answer ℤ
in_range d (Ok n) = Ok n
in_range d (Err e) = fault Range d

-- A function's fault is the first one, unless memory ran out.
abbrev pub Fails : {A : Type 0} → NameErr → Answer A → Type 0
Fails e answer = (e.fault ≡ NoMemory) ⊎ (answer ≡ Err e)

-- What a function returned, seen by view, is what is given, unless memory ran out.
abbrev pub Gives : {X Y : Type 0} → (X → Y) → Result X NameErr → Answer Y → Type 0
Gives view (Ok x) answer = answer ≡ Ok (view x)
Gives view (Err e) answer = Fails e answer
