-- Code that is made piece by piece.
use Rattle.std.proofs.Common.{◌≡◌, ℤ, List, refl}
use Rattle.mint.specs.declared.kind.Kind.TheVariants as kind
use Rattle.mint.specs.Types.{label, number}
use Rattle.wire_def.specs.declared.encoding.Encoding.{Encoding}
use Rattle.wire_def.specs.declared.encoding.Encoding.TheVariants.{Xdr, CdrBig, CdrLittle, Mach}
use Rattle.cast_stub.specs.Layouts.{scalar_width}
use Rattle.cast_stub.specs.declared.put.Put.{Put}
use Rattle.cast_stub.proofs.Pieces.{seen-Align, seen-Chunk, seen-Each, seen-Some, seen-Call, seen-Switch}
use Rattle.cast_stub.proofs.Appending.{append-stop, append-assoc}
use Rattle.stub_lower.specs.Codes.{scalar_code}

pub ruleset building = (seen-Align, seen-Chunk, seen-Each, seen-Some, seen-Call, seen-Switch, append-stop, append-assoc)

-- ---- a label goes as a number of 32 bits

pub label_scalar : (e : Encoding) (ls : List ℤ) (x : Put) → scalar_code e (label ls) x ≡ scalar_code e (number kind.I32) x
label_scalar Xdr ls x = refl
label_scalar CdrBig ls x = refl
label_scalar CdrLittle ls x = refl
label_scalar Mach ls x = refl

pub label_wide : (e : Encoding) (ls : List ℤ) → scalar_width e (number kind.I32) ≡ scalar_width e (label ls)
label_wide Xdr ls = refl
label_wide CdrBig ls = refl
label_wide CdrLittle ls = refl
label_wide Mach ls = refl

pub ruleset labels = (label_scalar, label_wide)
