-- When the code of a message may be run.
use Rattle.std.specs.Prelude.{◌≡◌, ℕ, ◌%◌, List, [], length, Some}
use Rattle.mint.specs.Types.{Ty}
use Rattle.mint.specs.Values.{Val}
use Rattle.wire_def.specs.declared.head.Head.{Head}
use Rattle.cast_stub.specs.declared.send.SendCode.{SendCode}
use Rattle.cast_stub.specs.Append.{append}
use Rattle.cast_stub.specs.Block.{code_seen}
use Rattle.cast_stub.specs.Meaning.{meaning, IsCovered}
use Rattle.cast_stub.specs.Puts.{IsHead}
use Rattle.cast_stub.specs.Rowless.{HasNoRow}
use Rattle.stub_lower.specs.Leads.{AreChunks}

-- chunks, which append whole words whatever the value is
pub record IsLead (code : SendCode) : Type 0 where
  pub chunks : AreChunks code
  pub words : (h : Head) (v : Val) → IsHead h → (o : List ℕ) × (meaning code h v 0 ≡ Some o) × (length o % 4 ≡ 0)

-- the operations of two codes, one after the other, without calls
pub record IsBoth (lead body code : SendCode) : Type 0 where
  pub ops : code_seen code.ops ≡ append (code_seen lead.ops) (code_seen body.ops)
  pub subs : code.subs ≡ []
