-- The stub code of each operation of a binding.
use Rattle.std.specs.Prelude.{◌≡◌, ◌<◌, Bool, true, ℕ, List, length, Some, Option, slice_get, ◌==◌, if◌then◌else◌}
use Rattle.mint.specs.Types.{Ty}
use Rattle.mint.specs.Values.{Val}
use Rattle.wire_def.specs.declared.head.Head.{Head}
use Rattle.raw_buf.specs.View.{View}
use Rattle.cast_stub.specs.declared.send.SendCode.{SendCode}
use Rattle.cast_stub.specs.Got as stub
use Rattle.cast_stub.specs.Got.{got_by}
use Rattle.cast_stub.specs.Meaning.{Cost, cost, AreCovered}
use Rattle.cast_stub.specs.Parts.{on_some}
use Rattle.cast_stub.specs.Subs.{sent_steps}
use Rattle.stub_receiver.specs.declared.recv.Got.{Got}
use Rattle.stub_receiver.specs.Ran.{place_of, IsGot}
use Rattle.pres.specs.Bindings.{Binding}
use Rattle.stub_codes.specs.declared.stub.Stub.{Stub}
use Rattle.stub_codes.specs.Backs.{encoding, other_encoding, IsMinorOver, lead, reply_form, reply_lead}
use Rattle.stub_codes.specs.Messages.{request_type}
use Rattle.stub_codes.specs.Receiving.{Receives, ReceivesOther}
use Rattle.stub_codes.specs.Replies.{HasArm, arm_type}
use Rattle.stub_codes.specs.Sending.{Sends}
use Rattle.stub_codes.specs.Within.{HasCostWithin}

-- the place of each arm of an operation's reply has code that sends the messages of the arm in a version, with the id of a head
abbrev pub HasReplies : Binding → ℕ → ℕ → List SendCode → Type 0
HasReplies b m op codes = (k : ℕ) → HasArm b op k
    → (code : SendCode) × (slice_get codes k ≡ Some code) × Sends b.back (reply_form b m op k) (arm_type b op k) code

-- the codes of an operation's replies in a version
abbrev pub replies_in : Stub → ℕ → List SendCode
replies_in s m = if m == 0 then s.replies else s.later

-- the code of an operation: it sends its requests in a version and receives what goes into it, in either order where there are two;
-- the codes of replies that it has are those of arms
pub record IsStub (b : Binding) (m op : ℕ) (s : Stub) : Type 0 where
  pub send : Sends b.back (lead b m op) (request_type b op) s.send
  pub recv : Receives (encoding b.back) (request_type b op) s.recv
  pub other : ReceivesOther (other_encoding b.back) (request_type b op) s.other
  pub arms : (n k : ℕ) → k < length (replies_in s n) → HasArm b op k

-- each of a list is the code of the operation of its place, whose requests are sent in a version
abbrev pub AreStubs : Binding → ℕ → List Stub → Type 0
AreStubs b m stubs = (op : ℕ) (s : Stub) → slice_get stubs op ≡ Some s → IsStub b m op s

-- each of a list sends the replies to the operation of its place in each version of the back end
abbrev pub AreReplying : Binding → List Stub → Type 0
AreReplying b stubs = (op : ℕ) (s : Stub) → slice_get stubs op ≡ Some s
    → (n : ℕ) → IsMinorOver b.back n → HasReplies b n op (replies_in s n)

-- a binding, the version of the messages that are sent, whether replies have codes, and the code of each operation
pub record Coded : Type 0 where
  pub binding : Binding
  pub minor : ℕ
  pub answers : Bool
  pub stubs : List Stub

-- a version of the back end, and one code for each operation, each the code of its operation, with those of its replies where
-- replies have codes
pub record IsCoded (c : Coded) : Type 0 where
  pub minor : IsMinorOver c.binding.back c.minor
  pub many : length c.stubs ≡ length c.binding.ops
  pub each : AreStubs c.binding c.minor c.stubs
  pub replies : c.answers ≡ true → AreReplying c.binding c.stubs

-- what the code of an operation costs that sends
abbrev pub sent_cost : List Stub → ℕ → Head → Val → Option Cost
sent_cost stubs op h v = on_some (slice_get stubs op) (λ s. cost s.send h v)

-- the code that is kept for an arm of an operation's reply in a version
abbrev pub reply_code_at : List Stub → ℕ → ℕ → ℕ → Option SendCode
reply_code_at stubs op k m = on_some (slice_get stubs op) (λ s. slice_get (replies_in s m) k)

-- what that code costs
abbrev pub reply_cost : List Stub → ℕ → ℕ → ℕ → Head → Val → Option Cost
reply_cost stubs op k m h v = on_some (reply_code_at stubs op k m) (λ c. cost c h v)

-- the code of an operation ensures the room for all that it appends for this request
abbrev pub IsCoveredRequest : Coded → ℕ → Head → Val → Type 0
IsCoveredRequest x op h v = AreCovered (on_some (slice_get x.stubs op) (λ s. sent_steps s.send h v)) 0

-- it has a cost for it, within what the message allows
abbrev pub IsSparingRequest : Coded → ℕ → Head → Val → Type 0
IsSparingRequest x op h v = HasCostWithin (encoding x.binding.back) (length (lead x.binding x.minor op h)) (request_type x.binding op) v
    (sent_cost x.stubs op h v)

-- the code of an arm in a version ensures the room for all that it appends for a reply with this value of the arm
abbrev pub IsCoveredReply : Coded → ℕ → ℕ → ℕ → Head → Val → Type 0
IsCoveredReply x op k m h v = AreCovered (on_some (reply_code_at x.stubs op k m) (λ c. sent_steps c h v)) 0

-- it has a cost for it, within what the message allows
abbrev pub IsSparingReply : Coded → ℕ → ℕ → ℕ → Head → Val → Type 0
IsSparingReply x op k m h v = HasCostWithin (encoding x.binding.back) (length (reply_lead x.binding m op k h)) (arm_type x.binding op k) v
    (reply_cost x.stubs op k m h v)

-- what the code of an operation gives, that receives in the order of the messages that are sent
abbrev pub IsGivenBy : List Stub → ℕ → Ty → Got → View → View → Type 0
IsGivenBy stubs op t got old new = (s : Stub) → slice_get stubs op ≡ Some s → IsGot got new (got_by s.recv t (place_of old))

-- it gives this value, at the place and after the tests where a view then is
abbrev pub IsReportedBy : List Stub → ℕ → Ty → Val → View → View → Type 0
IsReportedBy stubs op t v old new = (s : Stub) → slice_get stubs op ≡ Some s
    → got_by s.recv t (place_of old) ≡ stub.given v new.pos new.tests
