-- What requests and replies cost by the codes that are kept.
use Rattle.std.proofs.Common.{◌≡◌, ◌<◌, ℕ, length, Option, Some, slice_get, ap, subst, ◌∙◌, arith}
use Rattle.mint.specs.Typed.{IsWellTyped}
use Rattle.mint.specs.Values.{Val}
use Rattle.wire_def.specs.declared.head.Head.{Head}
use Rattle.cast_stub.specs.declared.send.SendCode.{SendCode}
use Rattle.cast_stub.specs.Meaning.{cost}
use Rattle.cast_stub.specs.Parts.{on_some}
use Rattle.cast_stub.specs.Puts.{IsHead}
use Rattle.stub_codes.specs.declared.stub.Stub.{Stub}
use Rattle.stub_codes.specs.Backs.{encoding, reply_form}
use Rattle.stub_codes.specs.Laws.{RequestsHaveCosts, RepliesHaveCosts}
use Rattle.stub_codes.specs.Messages.{request_type}
use Rattle.stub_codes.specs.Replies.{arm_type}
use Rattle.stub_codes.specs.Sending.{Sends}
use Rattle.stub_codes.specs.Within.{IsWithin}
use Rattle.stub_codes.specs.Stubs.{Coded, IsStub, IsSparingReply, IsSparingRequest, reply_code_at}
use Rattle.stub_codes.proofs.Done.{kept_at}
use Rattle.stub_codes.proofs.Leading.{as_long}
use Rattle.stub_codes.proofs.Places.{item_at}

-- the code of an operation has a cost
pub request_costs : (x : Coded) (op : ℕ) (s : Stub) (h : Head) (v : Val) → slice_get x.stubs op ≡ Some s
    → IsStub x.binding x.minor op s
    → IsHead h → IsWellTyped (request_type x.binding op) v → IsSparingRequest x op h v
request_costs x op s h v found is numbers typed =
    let (c, same, few) = is.send.costs h v numbers typed in
    (c, ap (λ (o : Option Stub). on_some o (λ (t : Stub). cost t.send h v)) found ∙ same, few)

-- and that of an arm
pub reply_costs : (x : Coded) (op k m : ℕ) (code : SendCode) (h : Head) (v : Val) → reply_code_at x.stubs op k m ≡ Some code
    → Sends x.binding.back (reply_form x.binding m op k) (arm_type x.binding op k) code
    → IsHead h → IsWellTyped (arm_type x.binding op k) v → IsSparingReply x op k m h v
reply_costs x op k m code h v found sends numbers typed =
    let (c, same, few) = sends.costs h v numbers typed in (
      c,
      ap (λ (o : Option SendCode). on_some o (λ (y : SendCode). cost y h v)) found ∙ same,
      subst (λ (n : ℕ). IsWithin (encoding x.binding.back) n (arm_type x.binding op k) v c)
          (as_long x.binding.back x.binding m op k h) few,
    )

pub requests_cost : RequestsHaveCosts
requests_cost x op h v coded below numbers typed =
    let there : op < length x.stubs = omega (arith, below, coded.many) in
    let (s, found) = item_at x.stubs op there in
    request_costs x op s h v found (coded.each op s found) numbers typed

pub replies_cost : RepliesHaveCosts
replies_cost x op k m h v coded answers below has version numbers typed =
    let there : op < length x.stubs = omega (arith, below, coded.many) in
    let (s, found) = item_at x.stubs op there in
    let (code, kept, sends) = coded.replies answers op s found m version k has in
    reply_costs x op k m code h v (kept_at x.stubs op k m s code found kept) sends numbers typed
