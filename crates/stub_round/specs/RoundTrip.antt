-- What stub code sends, stub code receives.
use Rattle.std.specs.Prelude.{◌≡◌, ℕ, ◌+◌, ◌≤◌, List, ◌++◌, length, Some}
use Rattle.kit_base.specs.Limits.{longest_message}
use Rattle.mint.specs.Types.{Ty}
use Rattle.mint.specs.Typed.{IsWellTyped}
use Rattle.mint.specs.Values.{Val}
use Rattle.wire_def.specs.declared.encoding.Encoding.{Encoding}
use Rattle.wire_def.specs.declared.head.Head.{Head}
use Rattle.wire_def.specs.Grammar.{AreOctets}
use Rattle.wire_def.specs.Places.{IsPlace}
use Rattle.wire_def.specs.Send.{send}
use Rattle.cast_stub.specs.declared.recv.RecvCode.{RecvCode}
use Rattle.cast_stub.specs.declared.send.SendCode.{SendCode}
use Rattle.cast_stub.specs.Got.{IsSoundCode, got_by, given}
use Rattle.cast_stub.specs.Meaning.{meaning}
use Rattle.cast_stub.specs.Runs.{Place}

-- a code that appends what is sent of each value, wherever it begins
abbrev pub Sends : Encoding → Ty → SendCode → Type 0
Sends e t code = (h : Head) (v : Val) (p : ℕ) → IsPlace e p → IsWellTyped t v → meaning code h v p ≡ Some (send e t p v)

-- the value of such octets, which any others may follow, is given, and the run is after them
abbrev pub WhatIsSentIsReceived : Type 0
WhatIsSentIsReceived = (e : Encoding) (t : Ty) (sends : SendCode) (receives : RecvCode) → Sends e t sends
    → IsSoundCode e t (IsPlace e) receives
    → (h : Head) (v : Val) (s : Place) (octets rest : List ℕ) → IsPlace e s.pos → IsWellTyped t v → meaning sends h v s.pos ≡ Some octets
    → s.left ≡ octets ++ rest
    → AreOctets s.left → s.pos + length s.left ≤ longest_message
    → (tests : ℕ) × (got_by receives t s ≡ given v (s.pos + length octets) tests)
