-- Laws of bodies that are received, and of what requests and replies cost.
use Rattle.std.specs.Prelude.{◌≡◌, ◌<◌, true, ℕ, List, length}
use Rattle.mint.specs.Typed.{IsWellTyped}
use Rattle.mint.specs.Values.{Val}
use Rattle.wire_def.specs.declared.head.Head.{Head}
use Rattle.wire_def.specs.Places.{IsPlace}
use Rattle.cast_stub.specs.Puts.{IsHead}
use Rattle.head_kit.specs.declared.call_head.CallHead.{CallHead}
use Rattle.pres.specs.Bindings.{Binding}
use Rattle.stub_codes.specs.Backs.{Begins, IsMinorOver, Takes}
use Rattle.stub_codes.specs.Messages.{request_type}
use Rattle.stub_codes.specs.Replies.{HasArm, arm_type}
use Rattle.stub_codes.specs.Stubs.{Coded, IsCoded, IsSparingRequest, IsSparingReply}

-- a call that is received is of a version of its back end; its body is laid out in a way that this takes, and begins where a
-- body may begin
abbrev pub BodiesAreTaken : Type 0
BodiesAreTaken = (b : Binding) (o : List ℕ) (c : CallHead) → Begins b o c
    → Takes b.back c.encoding × IsPlace c.encoding c.used × IsMinorOver b.back c.minor

-- a request has a cost, by the code that is kept for its operation, within what its message allows
abbrev pub RequestsHaveCosts : Type 0
RequestsHaveCosts = (x : Coded) (op : ℕ) (h : Head) (v : Val) → IsCoded x → op < length x.binding.ops → IsHead h
    → IsWellTyped (request_type x.binding op) v → IsSparingRequest x op h v

-- where replies have codes, one in a version has a cost, by the code that is kept for its arm, within what its message allows
abbrev pub RepliesHaveCosts : Type 0
RepliesHaveCosts = (x : Coded) (op k m : ℕ) (h : Head) (v : Val) → IsCoded x → x.answers ≡ true → op < length x.binding.ops
    → HasArm x.binding op k → IsMinorOver x.binding.back m → IsHead h → IsWellTyped (arm_type x.binding op k) v
    → IsSparingReply x op k m h v
