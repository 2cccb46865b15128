-- Each operation of a bound unit is one that requests name.
use Rattle.std.proofs.Common.{◌≡◌, length, append-nil, ap, sym, ◌∙◌}
use Rattle.std.proofs.lemmas.List.{length-map}
use Rattle.wire_def.specs.declared.encoding.Back.{Back}
use Rattle.wire_def.specs.declared.encoding.Back.TheVariants as back
use Rattle.aoi.specs.Plain.{PlainInterface}
use Rattle.pres.specs.Bindings.{Binding, IsBinding}
use Rattle.pres.specs.Offers.{operations}
use Rattle.pres.proofs.Counting as pres
use Rattle.back_cdr.specs.Targets.{IsCdr, target_in, targets_in, targets}

-- no operation is gotten
pub own_alone : (b : Back) (i : PlainInterface) → IsCdr b → operations b i ≡ i.ops
own_alone back.CdrBig i h = append-nil i.ops
own_alone back.CdrLittle i h = append-nil i.ops
own_alone back.Xdr i h = absurd cc
own_alone back.Mach i h = absurd cc

pub counted : (b : Binding) → IsBinding b → IsCdr b.back → length (targets b.unit.interfaces) ≡ length b.ops
counted b stands cdr = pres.counted targets_in b stands (λ i. length-map i.ops (target_in i) ∙ ap length (sym (own_alone b.back i cdr)))
