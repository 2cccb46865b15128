-- Bodies of a switch of code that receives in step with arms, as the code goes over them.
use Rattle.std.specs.Prelude.{◌≡◌, ℕ, ℤ, List}
use Rattle.mint.specs.Types.{Ty, at}
use Rattle.wire_def.specs.declared.encoding.Encoding.{Encoding}
use Rattle.cast_stub.specs.declared.recv.RecvOp.{RecvOp}
use Rattle.cast_stub.specs.RecvBlock.{code_seen}
use Rattle.cast_stub.specs.InStep.{InStep, AllInStep}
use Rattle.copy_inline.specs.RecvReady.{IsReady}
use Rattle.copy_inline.specs.RecvRowed.{rowed}

-- a body is that of the same number, with its rows as blocks
abbrev pub IsRowedBody : Encoding → Ty → ℤ × List RecvOp → ℤ × List RecvOp → Type 0
IsRowedBody e t c b = (b.0 ≡ c.0) × (code_seen b.1 ≡ rowed e t (code_seen c.1))

-- a body is that of the same number, for the node of an arm
abbrev pub RowedFor : Encoding → List Ty → ℤ × ℕ → ℤ × List RecvOp → ℤ × List RecvOp → Type 0
RowedFor e us a c b = IsRowedBody e (at us a.1) c b

-- so are bodies, in step with arms
abbrev pub AreRowed : Encoding → List Ty → List (ℤ × ℕ) → List (ℤ × List RecvOp) → List (ℤ × List RecvOp) → Type 0
AreRowed e us = AllInStep (RowedFor e us)

-- a body is ready for the node of an arm
abbrev pub ReadyFor : Encoding → List Ty → ℤ × ℕ → ℤ × List RecvOp → Type 0
ReadyFor e us a c = IsReady e (at us a.1) (code_seen c.1)

-- so are bodies, in step with arms
abbrev pub ArmsReady : Encoding → List Ty → List (ℤ × ℕ) → List (ℤ × List RecvOp) → Type 0
ArmsReady e us = InStep (ReadyFor e us)
