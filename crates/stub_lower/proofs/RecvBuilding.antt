-- Code that receives, made piece by piece.
use Rattle.std.proofs.Common.{◌≡◌, ℤ, List, refl}
use Rattle.mint.specs.declared.kind.Kind.TheVariants as kind
use Rattle.mint.specs.Types.{label, number}
use Rattle.wire_def.specs.declared.encoding.Encoding.{Encoding}
use Rattle.wire_def.specs.declared.encoding.Encoding.TheVariants.{Xdr, CdrBig, CdrLittle, Mach}
use Rattle.cast_stub.specs.declared.recv.Get.{Get}
use Rattle.cast_stub.proofs.RecvPieces.{seen-Need, seen-SkipAny, seen-SkipZero, seen-Take, seen-Desc, seen-Each, seen-Some, seen-Call, seen-Switch}
use Rattle.cast_stub.proofs.RecvAppending.{append-finish, append-assoc}
use Rattle.stub_lower.specs.RecvCodes.{scalar_code}
use Rattle.stub_lower.proofs.Building.{label_wide}

pub ruleset building = (
  seen-Need,
  seen-SkipAny,
  seen-SkipZero,
  seen-Take,
  seen-Desc,
  seen-Each,
  seen-Some,
  seen-Call,
  seen-Switch,
  append-finish,
  append-assoc,
)

-- a label goes as a number of 32 bits
pub label_scalar : (e : Encoding) (ls : List ℤ) (g : Get) → scalar_code e (label ls) g ≡ scalar_code e (number kind.I32) g
label_scalar Xdr ls g = refl
label_scalar CdrBig ls g = refl
label_scalar CdrLittle ls g = refl
label_scalar Mach ls g = refl

pub ruleset labels = (label_scalar, label_wide)
