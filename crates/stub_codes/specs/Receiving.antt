-- What code that receives values is to be.
use Rattle.std.specs.Prelude.{◌≡◌, [], Option, None, Some}
use Rattle.mint.specs.Types.{Ty}
use Rattle.wire_def.specs.declared.encoding.Encoding.{Encoding}
use Rattle.wire_def.specs.Places.{IsPlace}
use Rattle.cast_stub.specs.declared.recv.RecvCode.{RecvCode}
use Rattle.cast_stub.specs.Got.{IsSoundCode}
use Rattle.cast_stub.specs.RecvBlock.{code_seen}
use Rattle.copy_inline.specs.RecvCallFree.{HasNoCall}
use Rattle.stub_codes.specs.Asked.{TestsFew}

-- code that gives the value of a type that the octets spell, wherever it begins, or refuses where they spell none
pub record Receives (e : Encoding) (t : Ty) (code : RecvCode) : Type 0 where
  pub sound : IsSoundCode e t (IsPlace e) code
  pub calls : HasNoCall (code_seen code.ops)
  pub subs : code.subs ≡ []
  -- with few tests for each entry of the value
  pub few : TestsFew e t code

-- such code of another encoding, where there is one, and no code where there is none
abbrev pub ReceivesOther : Option Encoding → Ty → Option RecvCode → Type 0
ReceivesOther None t None = Unit {0}
ReceivesOther (Some e) t (Some code) = Receives e t code
ReceivesOther _ t _ = ⊥
