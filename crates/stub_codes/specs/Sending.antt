-- What code that sends messages is to be.
use Rattle.std.specs.Prelude.{◌≡◌, ℕ, ◌≤◌, List, [], length, Some}
use Rattle.mint.specs.Types.{Ty}
use Rattle.mint.specs.Typed.{IsWellTyped}
use Rattle.mint.specs.Values.{Val}
use Rattle.wire_def.specs.declared.encoding.Back.{Back}
use Rattle.wire_def.specs.declared.head.Head.{Head}
use Rattle.wire_def.specs.Places.{IsPlace}
use Rattle.cast_stub.specs.declared.send.SendCode.{SendCode}
use Rattle.cast_stub.specs.Append.{append}
use Rattle.cast_stub.specs.Block.{code_seen}
use Rattle.cast_stub.specs.CallFree.{HasNoCall}
use Rattle.cast_stub.specs.Meaning.{meaning, cost, IsCovered}
use Rattle.cast_stub.specs.Puts.{IsHead}
use Rattle.stub_lower.specs.Leads.{Leads}
use Rattle.stub_codes.specs.Backs.{encoding, tail}
use Rattle.stub_codes.specs.Messages.{framed}
use Rattle.stub_codes.specs.Within.{HasCostWithin}

-- the octets of heads after which a body may stand, and in which a length may be stated
pub record AreHeads (k : Back) (o : Head → List ℕ) : Type 0 where
  pub place : (h : Head) → IsPlace (encoding k) (length (o h))
  pub long : (h : Head) → 12 ≤ length (o h)

-- the operations of a head, those of a body, and what states the length, and no codes to call
pub record IsWhole (k : Back) (lead body code : SendCode) : Type 0 where
  pub ops : code_seen code.ops ≡ append (code_seen lead.ops) (append (code_seen body.ops) (tail k))
  pub subs : code.subs ≡ []

-- code that sends the messages of heads, and of values of a type, from the beginning of an empty buffer
pub record Sends (k : Back) (o : Head → List ℕ) (t : Ty) (code : SendCode) : Type 0 where
  -- it appends exactly the octets of the message
  pub means : (h : Head) (v : Val) → IsHead h → IsWellTyped t v → meaning code h v 0 ≡ Some (framed k (o h) t v)
  -- the room for all that it appends is ensured before
  pub covered : IsCovered t 0 code
  -- it has a cost, within what the message allows
  pub costs : (h : Head) (v : Val) → IsHead h → IsWellTyped t v → HasCostWithin (encoding k) (length (o h)) t v (cost code h v)
  pub calls : HasNoCall (code_seen code.ops)
  pub subs : code.subs ≡ []

-- code that sends so, whichever heads the code of a lead is of
abbrev pub SendsAfter : Back → SendCode → Ty → SendCode → Type 0
SendsAfter k lead t code = (o : Head → List ℕ) → Leads o lead → AreHeads k o → Sends k o t code
