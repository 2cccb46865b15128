use Rattle.std.proofs.Common.{◌≡◌, refl}
use Rattle.wire_def.specs.declared.encoding.Encoding.{Encoding}
use Rattle.wire_def.specs.declared.encoding.Encoding.TheVariants.{Xdr, CdrBig, CdrLittle, Mach}
use Rattle.wire_def.specs.Laws.{PlainIsNotMach}
use Rattle.wire_def.proofs.laws.plain_is_not_mach.Goals as goal

each_is : (e : Encoding) → PlainIsNotMach e
each_is Xdr = (λ h (same : Xdr ≡ Mach). cc, λ h. tt)
each_is CdrBig = (λ h (same : CdrBig ≡ Mach). cc, λ h. tt)
each_is CdrLittle = (λ h (same : CdrLittle ≡ Mach). cc, λ h. tt)
each_is Mach = (λ h. absurd h, λ h. h refl)

pub returns : goal.returns
returns c = each_is
