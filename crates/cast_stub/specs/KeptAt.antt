-- What a pass keeps of the code that it is given, wherever that sends something; at some positions, of any value.
use Rattle.std.specs.Prelude.{◌≡◌, ℕ, ◌+◌, ◌*◌, ◌≤◌, List, [], ◌∷◌, map, None, Some, IfSome}
use Rattle.mint.specs.Values.{Val}
use Rattle.wire_def.specs.declared.head.Head.{Head}
use Rattle.cast_stub.specs.declared.send.SendOp.{SendOp}
use Rattle.cast_stub.specs.declared.send.SendCode.{SendCode}
use Rattle.cast_stub.specs.Block.{Block, code_seen}
use Rattle.cast_stub.specs.Entered.{calls_run}
use Rattle.cast_stub.specs.Meaning.{meaning, costs, AreCovered}
use Rattle.cast_stub.specs.Steps.{Step, Steps}
use Rattle.cast_stub.specs.Subs.{sent_steps}
use Rattle.cast_stub.specs.Met.{met, rows_in, moves_allowed}
use Rattle.cast_stub.specs.Skeletons.{skeleton, IsRunShort}

-- where there are the first steps there are the second, and they are so
abbrev pub Wherever : Steps → Steps → (List Step → List Step → Type 0) → Type 0
Wherever None b P = Unit {0}
Wherever (Some a) None P = ⊥
Wherever (Some a) (Some b) P = P a b

-- the same octets wherever the given code sends some
abbrev pub SendsAsAt : (ℕ → Type 0) → SendCode → SendCode → Type 0
SendsAsAt At given code = (h : Head) (v : Val) (p : ℕ) → At p → IfSome (meaning given h v p) (λ os. meaning code h v p ≡ Some os)

-- where the room that the given code ensures is enough, so it is
abbrev pub IsCoveredAsAt : (ℕ → Type 0) → SendCode → SendCode → Type 0
IsCoveredAsAt At given code = (h : Head) (v : Val) (p : ℕ) → At p → AreCovered (sent_steps given h v) p
    → AreCovered (sent_steps code h v) p

-- as many looks at the buffer
abbrev pub ChecksAs : SendCode → SendCode → Type 0
ChecksAs given code = (h : Head) (v : Val) → Wherever (sent_steps given h v) (sent_steps code h v) (λ a b. (costs b).checks ≡
    (costs a).checks)

-- the same calls are run
abbrev pub CallsAs : SendCode → SendCode → Type 0
CallsAs given code = (v : Val) → calls_run code v ≡ calls_run given v

-- the same row operations are run, with the same octets
abbrev pub RowsAs : SendCode → SendCode → Type 0
RowsAs given code = (h : Head) (v : Val) → Wherever (sent_steps given h v) (sent_steps code h v) (λ a b. rows_in b ≡ rows_in a)

-- no more stores than puts, aligns and patches that the given code meets, and numbers of its wide rows
abbrev pub StoresWithin : SendCode → SendCode → Type 0
StoresWithin given code = (h : Head) (v : Val) → Wherever (sent_steps given h v) (sent_steps code h v) (λ a b. (costs b).stores ≤ met a)

-- no more moves than so many for each run of chunks and aligns that the given code begins, and one for each of its wide rows
abbrev pub MovesWithin : ℕ → SendCode → SendCode → Type 0
MovesWithin most given code = (h : Head) (v : Val) → IfSome (sent_steps code h v) (λ b. (costs b).moves ≤ moves_allowed most given v)

-- each operation but chunks and aligns in its place, in the codes that calls name too
pub record KeepsOthers (given code : SendCode) : Type 0 where
  pub ops : skeleton (code_seen code.ops) ≡ skeleton (code_seen given.ops)
  pub subs : map (λ (s : List SendOp). skeleton (code_seen s)) code.subs ≡ map (λ (s : List SendOp). skeleton (code_seen s)) given.subs

-- all codes of a list
abbrev pub EachCode : (Block → Type 0) → List (List SendOp) → Type 0
EachCode P [] = Unit {0}
EachCode P (s ∷ ss) = P (code_seen s) × EachCode P ss

-- at most so many chunks and aligns stand together, in the codes that calls name too
pub record RunsAreShort (most : ℕ) (code : SendCode) : Type 0 where
  pub ops : IsRunShort most (code_seen code.ops)
  pub subs : EachCode (IsRunShort most) code.subs
