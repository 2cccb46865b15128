-- What it costs to make and to read messages by stub code.
use Rattle.std.specs.Prelude.{◌≡◌, ℕ, pos, ◌-◌, List, length, max, Option, None, Some, Ok, option_map, slice_get}
use Rattle.mint.specs.Values.{Val, arm}
use Rattle.wire_def.specs.declared.head.Head.{Head}
use Rattle.raw_buf.specs.declared.tally.Tally.{Tally}
use Rattle.raw_buf.specs.Buf.{Buf, none}
use Rattle.raw_buf.specs.View.{View}
use Rattle.kit_base.specs.Causes.{raised}
use Rattle.cast_stub.specs.Got.{got_by, given}
use Rattle.cast_stub.specs.Meaning.{Cost}
use Rattle.stub_machine.specs.Sending.{paid}
use Rattle.stub_receiver.specs.Ran.{place_of}
use Rattle.head_kit.specs.declared.call_head.CallHead.{CallHead}
use Rattle.skeleton.specs.Exchanges.{request_type}
use Rattle.stub_codes.specs.Backs.{Begins, encoding}
use Rattle.stub_codes.specs.declared.stub.Stub.{Stub}
use Rattle.stub_codes.specs.Stubs.{Coded, sent_cost, reply_cost, IsCoveredReply, IsSparingReply}
use Rattle.flick_engine.specs.Received.{Asked, ReadCall}

-- counts are those that this cost raises others to
abbrev pub IsRaised : Option Cost → Tally → Tally → Type 0
IsRaised x old new = option_map (paid old) x ≡ Some new

-- the buffer's counts are exactly those of a run of the operation's code over the request: of the run alone, and beside what
-- the buffer spent before
abbrev pub IsSentByCode : List Stub → ℕ → Head → Val → Tally → Buf → Type 0
IsSentByCode stubs op head v spent new =
    IsRaised (sent_cost stubs op head v) none new.tally × IsRaised (sent_cost stubs op head v) spent new.spent

-- what the code costs that sends an operation's reply in a version: that of the arm that the value is of
abbrev pub answer_cost : List Stub → ℕ → ℕ → Head → Val → Option Cost
answer_cost stubs m op head (arm (pos k) w) = reply_cost stubs op k m head w
answer_cost stubs m op head _ = None

-- the same of a reply to an operation, by the code of its arm in a version
abbrev pub IsAnsweredByCode : List Stub → ℕ → ℕ → Head → Val → Tally → Buf → Type 0
IsAnsweredByCode stubs m op head v spent new =
    IsRaised (answer_cost stubs m op head v) none new.tally × IsRaised (answer_cost stubs m op head v) spent new.spent

-- the code of the arm that a value is of ensures the room for all that it appends for the reply
abbrev pub IsCoveredAnswer : Coded → ℕ → ℕ → Head → Val → Type 0
IsCoveredAnswer x m op head (arm (pos k) w) = IsCoveredReply x op k m head w
IsCoveredAnswer x m op head _ = ⊥

-- it has a cost for it, within what the message allows
abbrev pub IsSparingAnswer : Coded → ℕ → ℕ → Head → Val → Type 0
IsSparingAnswer x m op head (arm (pos k) w) = IsSparingReply x op k m head w
IsSparingAnswer x m op head _ = ⊥

-- a view after the head of a message, whose octets took one test
abbrev pub after_head : ℕ → View → View
after_head used v = record { octets = v.octets; pos = used; near = max used v.near - used; tests = raised v.tests 1 }

-- where the body is laid out as the back end sends: the view is at the message's end, and its tests are exactly one for the
-- head and those of a run of the operation's code over the octets after it, which gives this value
abbrev pub IsReadByCode : Coded → ℕ → Val → View → View → Type 0
IsReadByCode x op v old new =
    (c : CallHead) × Begins x.binding old.octets c
    × ((c.encoding ≡ encoding x.binding.back) → (s : Stub) × (slice_get x.stubs op ≡ Some s)
    × (got_by s.recv (request_type x.binding op) (place_of (after_head c.used old)) ≡ given v new.pos new.tests)
    × (new.pos ≡ length old.octets))

-- where the octets are a request, it is read so
abbrev pub IsServedByCode : Coded → View → View → Type 0
IsServedByCode x old new = (r : Asked) → ReadCall x.binding old.octets (Ok r) → IsReadByCode x r.op r.value old new
