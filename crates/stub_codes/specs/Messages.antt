-- The messages of requests.
use Rattle.std.specs.Prelude.{ℕ, List, ◌++◌, length}
use Rattle.mint.specs.Types.{Ty}
use Rattle.mint.specs.Values.{Val}
use Rattle.wire_def.specs.declared.encoding.Back.{Back}
use Rattle.wire_def.specs.declared.head.Head.{Head}
use Rattle.wire_def.specs.Send.{send}
use Rattle.pres.specs.Bindings.{Binding}
pub use Rattle.skeleton.specs.Exchanges.{request_type}
use Rattle.stub_codes.specs.Backs.{encoding, lead, sized}

-- a head, and a value of a type at the position after it; the length of the whole is stated where the head states it
abbrev pub framed : Back → List ℕ → Ty → Val → List ℕ
framed k o t v = sized k (o ++ send (encoding k) t (length o) v)

-- the message of a request for an operation, in a version
abbrev pub message : Binding → ℕ → ℕ → Head → Val → List ℕ
message b m op head v = framed b.back (lead b m op head) (request_type b op) v
