-- What the pass takes, and what it promises of the code that it makes.
use Rattle.std.specs.Prelude.{◌≡◌, ℕ, [], Some, IfSome}
use Rattle.mint.specs.Types.{Ty}
use Rattle.mint.specs.Typed.{IsOf}
use Rattle.mint.specs.Values.{Val}
use Rattle.wire_def.specs.declared.encoding.Encoding.{Encoding}
use Rattle.wire_def.specs.declared.head.Head.{Head}
use Rattle.cast_stub.specs.declared.send.SendCode.{SendCode}
use Rattle.cast_stub.specs.Append.{append}
use Rattle.cast_stub.specs.Bare.{RowsAreBare}
use Rattle.cast_stub.specs.Block.{Block, code_seen}
use Rattle.cast_stub.specs.Follows.{FollowsBy}
use Rattle.cast_stub.specs.Framed.{lead_length, IsTail}
use Rattle.cast_stub.specs.Kept.{unensured}
use Rattle.cast_stub.specs.Layouts.{layout_of}
use Rattle.cast_stub.specs.Meaning.{cost}
use Rattle.cast_stub.specs.Subs.{no_subs}
use Rattle.cast_stub.specs.Turned.{IsTurned}
use Rattle.copy_inline.specs.Counted.{blocks}
use Rattle.copy_inline.specs.Rowed.{rowed}

-- a lead of chunks, code that goes through a type with one shape of loops over rows, and at most one patch
pub record IsFramed (e : Encoding) (t : Ty) (b : Block) : Type 0 where
  pub lead : Block
  pub body : Block
  pub tail : Block
  -- the lead's length
  pub size : ℕ
  -- the node's number
  pub below : ℕ
  pub whole : b ≡ append lead (append body tail)
  pub leads : lead_length lead ≡ Some size
  pub goes : FollowsBy (IsTurned (layout_of e)) no_subs t below [] body
  pub ends : IsTail tail

-- such code with ensures between its operations, none of them in a loop over a row or text, and no codes to call
pub record IsGiven (e : Encoding) (t : Ty) (code : SendCode) : Type 0 where
  pub framed : IsFramed e t (unensured (code_seen code.ops))
  pub bare : RowsAreBare t (code_seen code.ops)
  pub subs : code.subs ≡ []

-- the given code with its rows as blocks, and nothing else changed
abbrev pub IsRowed : Encoding → Ty → SendCode → SendCode → Type 0
IsRowed e t given code = code_seen code.ops ≡ rowed e t (code_seen given.ops)

-- one row as a block for each row or text of that sort, and no other
abbrev pub GivesBlocks : Encoding → Ty → SendCode → Type 0
GivesBlocks e t code = (h : Head) (v : Val) → IsOf t v → IfSome (cost code h v) (λ c. c.rows ≡ blocks e t v)
