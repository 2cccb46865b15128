-- The steps of a machine's codes on a value, where calls are nested at most so deep.
use Rattle.std.specs.Prelude.{ℕ, List}
use Rattle.mint.specs.Values.{Val}
use Rattle.cast_stub.specs.declared.send.SendOp.{SendOp}
use Rattle.cast_stub.specs.Block.{Block}
use Rattle.cast_stub.specs.Steps.{Calls, Steps, steps, code_steps, each_steps, some_steps}
use Rattle.cast_stub.specs.Subs.{calls_of, call_steps}
use Rattle.stub_machine.specs.declared.operations.Machine.{Machine}

-- the steps of the calls in a machine's codes
abbrev pub callees : Machine → ℕ → Calls
callees m calls = calls_of m.subs.now m.head.now calls

-- of a block
abbrev pub block_run : Machine → ℕ → Block → Val → Steps
block_run m calls b = steps (callees m calls) m.head.now b

-- of operations
abbrev pub code_run : Machine → ℕ → List SendOp → Val → Steps
code_run m calls ops = code_steps (callees m calls) m.head.now ops

-- of a body on each element of the part at a path
abbrev pub each_run : Machine → ℕ → List ℕ → List SendOp → Val → Steps
each_run m calls p ops = each_steps (callees m calls) m.head.now p ops

-- of a body on the value that may be there, in the part at a path
abbrev pub some_run : Machine → ℕ → List ℕ → List SendOp → Val → Steps
some_run m calls p ops = some_steps (callees m calls) m.head.now p ops

-- of the code of a number on the part at a path
abbrev pub called_run : Machine → ℕ → ℕ → List ℕ → Val → Steps
called_run m calls k p = call_steps (callees m calls) k p
