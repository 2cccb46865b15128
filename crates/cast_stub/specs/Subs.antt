-- The codes that calls name.
use Rattle.std.specs.Prelude.{ℕ, zero, suc, List, Option, None, option_map, slice_get}
use Rattle.mint.specs.Values.{Val}
use Rattle.wire_def.specs.declared.head.Head.{Head}
use Rattle.cast_stub.specs.declared.send.SendOp.{SendOp}
use Rattle.cast_stub.specs.declared.send.SendCode.{SendCode}
use Rattle.cast_stub.specs.Parts.{on_some, at}
use Rattle.cast_stub.specs.Block.{Block, code_seen}
use Rattle.cast_stub.specs.Steps.{Steps, Calls, steps, code_steps}

-- calls where there is no code: none is defined
abbrev pub no_calls : Calls
no_calls k v = None

-- no codes
abbrev pub no_subs : ℕ → Option Block
no_subs k = None

-- the codes of a list, where calls stand within one another at most so many deep
abbrev pub called : (ℕ → Option Block) → Head → ℕ → Calls
called subs h zero k v = None
called subs h (suc n) k v = on_some (subs k) (λ b. steps (called subs h n) h b v)

-- how many calls stand within one another at most
unfoldable pub deepest : ℕ
deepest = 4096

-- the code at a place
abbrev pub sub_at : List (List SendOp) → ℕ → Option Block
sub_at subs k = option_map code_seen (slice_get subs k)

-- the same of a list of codes
abbrev pub calls_of : List (List SendOp) → Head → ℕ → Calls
calls_of subs h n = called (sub_at subs) h n

-- the steps of a call on the part at a path
abbrev pub call_steps : Calls → ℕ → List ℕ → Val → Steps
call_steps c k p v = on_some (at p v) (c k)

-- the steps of a send code on a value
abbrev pub sent_steps : SendCode → Head → Val → Steps
sent_steps code h v = code_steps (calls_of code.subs h deepest) h code.ops v
