-- The answers of `bridge`: the messages of requests over one binding, as those of the same requests over another of the unit.
use Rattle.std.specs.Prelude.{◌≡◌, ℕ, List, drop, length, Option, Some, None, Result, Ok, Err, codes}
use Rattle.hex.specs.Hex.{decode_of}
use Rattle.hex.specs.declared.error.FromHexError.{FromHexError}
use Rattle.mint.specs.Values.{Val}
use Rattle.wire_def.specs.declared.head.Head.{Head}
use Rattle.wire_def.specs.Spells.{IsSpelling}
use Rattle.head_kit.specs.declared.call_head.CallHead.{CallHead}
use Rattle.head_kit.specs.declared.call_head.CallTarget.TheVariants.{Operation}
use Rattle.pres.specs.Bindings.{Binding, IsBinding}
use Rattle.pres_pairs.specs.Pairs.{ArePaired, pair_of}
use Rattle.stub_codes.specs.Stubs.{Coded}
use Rattle.flick_engine.specs.declared.errors.MessageErr.{MessageErr}
use Rattle.flick_engine.specs.Backs.{encoding, lead}
use Rattle.flick_engine.specs.Messages.{request_type, message}
use Rattle.flick_engine.specs.Received.{Asked, Names, ReadCall}
use Rattle.flick_lines.specs.Marshalled.{digits_of}
use Rattle.flick_lines.specs.Unmarshalled.{message_refusal}
use Rattle.flick_bridge.specs.Heads.{number_in, head_at}

-- the bindings of a bridge with the code of their operations: the one of the messages that are read, and the one of those that are written
pub record Bridging : Type 0 where
  pub from : Coded
  pub to : Coded

-- they are of one unit
pub record IsBridging (s : Bridging) : Type 0 where
  pub units : s.from.binding.unit ≡ s.to.binding.unit
  pub reads : IsBinding s.from.binding
  pub writes : IsBinding s.to.binding

-- ---- what becomes of a request

-- a message asks this
abbrev pub asks : Bridging → List ℕ → ℕ → Head → Val → Type 0
asks s o op head v = ReadCall s.from.binding o (Ok (record { op = op; head = head; value = v }))

-- a message is no request, and this is why
abbrev pub declines : Bridging → List ℕ → MessageErr → Type 0
declines s o e = ReadCall s.from.binding o (Err e)

-- an operation of a binding, if there is one, and the head of its request with this number
abbrev pub with_head : Binding → ℕ → Option ℕ → Option (ℕ × Head)
with_head b n None = None
with_head b n (Some op) = Some (op, head_at b op n)

-- the operation of the same interface and name over the other binding, and the head of its request, which has the number of this head
abbrev pub paired : Bridging → ℕ → Head → Option (ℕ × Head)
paired s op head = with_head s.to.binding (number_in s.from.binding.back head) (pair_of s.from.binding s.to.binding op)

-- the message of a request
abbrev pub told : Bridging → ℕ → Head → Val → List ℕ
told s op head v = message s.to.binding s.to.minor op head v

-- the octets of its head
abbrev pub head_octets : Bridging → ℕ → Head → List ℕ
head_octets s op head = lead s.to.binding s.to.minor op head

-- ---- what a bridge promises

-- message m over the other binding is of the operation that has the interface and the name of that of message o, and the body of m spells
-- the value that the body of o spells
pub record AsksTheSame (s : Bridging) (o m : List ℕ) : Type 0 where
  pub value : Val
  -- what the message o is
  pub call : CallHead
  pub op : ℕ
  pub names : Names s.from.binding o call (Operation op)
  pub reads : IsSpelling call.encoding (request_type s.from.binding op) call.used (drop call.used o) value
  -- what the message m is, which begins with the head of a request, whose size is set
  pub other : ℕ
  pub head : Head
  pub pair : ArePaired s.from.binding s.to.binding op other
  pub is : m ≡ told s other head value
  pub writes : IsSpelling (encoding s.to.binding.back) (request_type s.to.binding other) (length (head_octets s other head))
      (drop (length (head_octets s other head)) m) value

-- ---- answers

-- the answer to a message that asks this value, by its pair: the digits of a message that asks the same, where there is one that is not
-- too long
abbrev pub IsPassed : Bridging → List ℕ → Val → Option (ℕ × Head) → List ℕ → Type 0
IsPassed s o v None a = a ≡ codes "! pair"
IsPassed s o v (Some q) a = AsksTheSame s o (told s q.0 q.1 v) × (a ≡ digits_of (told s q.0 q.1 v))

-- the answer to a message that is this: its refusal as that of `unmarshal`, else by the pair of its operation and its head
abbrev pub IsOfAsked : Bridging → List ℕ → Result Asked MessageErr → List ℕ → Type 0
IsOfAsked s o (Err e) a = a ≡ message_refusal e
IsOfAsked s o (Ok r) a = IsPassed s o r.value (paired s r.op r.head) a

-- the answer to what hexadecimal digits spell
abbrev pub IsOfMessage : Bridging → Result (List ℕ) FromHexError → List ℕ → Type 0
IsOfMessage s (Err e) a = a ≡ codes "! hex"
IsOfMessage s (Ok o) a = (x : Result Asked MessageErr) × ReadCall s.from.binding o x × IsOfAsked s o x a

-- the answer to a line as the digits of a message, without its line feed
abbrev pub IsBridged : Bridging → List ℕ → List ℕ → Type 0
IsBridged s line a = IsOfMessage s (decode_of line) a
