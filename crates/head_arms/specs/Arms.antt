-- The arms of replies whose heads number them: 0 is the answer, k the k-th exception that the operation raises.
use Rattle.std.specs.Prelude.{◌≡◌, ◌<◌, ◌≤◌, ℕ, zero, suc, List, []}
use Rattle.wire_def.specs.declared.fault.HeadErr.{HeadErr}
use Rattle.wire_def.specs.declared.reply.Status.{Status}
use Rattle.wire_def.specs.declared.reply.Status.TheVariants.{Answer, Raised}
use Rattle.wire_def.specs.Grammar.{got, Reader, Spelling, Stopping}
use Rattle.head_kit.specs.Words.{IsWord}

-- what the head of a reply says of an arm
abbrev pub arm_status : ℕ → Status
arm_status zero = Answer
arm_status (suc k) = Raised (suc k)

-- the number of one of so many exceptions
abbrev pub IsRaised : ℕ → ℕ → Type 0
IsRaised arms k = (0 < k) × (k ≤ arms) × IsWord k

-- what stands for an arm of an operation that raises so many exceptions: where it raises none, nothing
abbrev pub where_raised : {A : Type 0} → ℕ → List A → List A
where_raised zero x = []
where_raised (suc n) x = x

-- ---- the number of an arm in octets, where that of an operation with exceptions is spelled so

-- the arm of an operation that raises so many exceptions
abbrev pub ArmSpells : ℕ → Spelling ℕ → Spelling ℕ
ArmSpells zero Spells p o k = (o ≡ []) × (0 ≡ k)
ArmSpells (suc n) Spells p o k = Spells p o k

-- the first item of its number that is cut off or wrong
abbrev pub ArmStops : ℕ → Stopping HeadErr → Stopping HeadErr
ArmStops zero Stops p o e at = ⊥
ArmStops (suc n) Stops p o e at = Stops p o e at

-- the number, if there is one
abbrev pub read_arm : ℕ → Reader HeadErr ℕ → Reader HeadErr ℕ
read_arm zero read p o = got 0 p o
read_arm (suc n) read p o = read p o
