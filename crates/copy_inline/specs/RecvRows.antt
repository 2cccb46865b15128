-- What the pass takes of code that receives, and what it promises.
use Rattle.std.specs.Prelude.{◌≡◌, ℕ, []}
use Rattle.mint.specs.Types.{Ty}
use Rattle.wire_def.specs.declared.encoding.Encoding.{Encoding}
use Rattle.cast_stub.specs.declared.recv.RecvCode.{RecvCode}
use Rattle.cast_stub.specs.Got.{no_subs, received}
use Rattle.cast_stub.specs.Layouts.{layout_of}
use Rattle.cast_stub.specs.RecvBlock.{code_seen}
use Rattle.cast_stub.specs.Runs.{Place, Run, gives, refuses, strays}
use Rattle.cast_stub.specs.Traces.{TracesBy, IsTurned}
use Rattle.copy_inline.specs.RecvRowed.{rowed}

-- code that goes through a type with one shape of loops over rows, and no codes to call
pub record IsGiven (e : Encoding) (t : Ty) (code : RecvCode) : Type 0 where
  -- the node's number
  pub below : ℕ
  pub goes : TracesBy (IsTurned (layout_of e)) no_subs t below [] (code_seen code.ops)
  pub subs : code.subs ≡ []

-- the given code with its rows as blocks, and nothing else changed
abbrev pub IsRowed : Encoding → Ty → RecvCode → RecvCode → Type 0
IsRowed e t given code = code_seen code.ops ≡ rowed e t (code_seen given.ops)

-- runs that end likewise, but for how often they tested
abbrev pub EndsAlike : {A : Type 0} → Run A → Run A → Type 0
EndsAlike (gives x s) y = (tests : ℕ) × (y ≡ gives x (record { pos = s.pos; left = s.left; near = s.near; tests = tests }))
EndsAlike refuses y = y ≡ refuses
EndsAlike strays y = Unit {0}

-- from every place, wherever the given code does not stray: the same value, at the same place, or Not
abbrev pub GivesTheSame : Ty → RecvCode → RecvCode → Type 0
GivesTheSame t given code = (s : Place) → EndsAlike (received given t s) (received code t s)
