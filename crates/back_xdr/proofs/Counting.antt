-- Each operation of a bound unit is a procedure, and its number is that of its place.
use Rattle.std.proofs.Common.{◌≡◌, ◌+◌, ◌<◌, ℕ, zero, suc, List, [], ◌∷◌, ◌++◌, map, get_or, length, refl, ap, sym, ◌∙◌, arith}
use Rattle.std.proofs.lemmas.List.{length-map}
use Rattle.wire_def.specs.declared.encoding.Back.TheVariants as back
use Rattle.aoi.specs.declared.interfaces.Operation.{Operation}
use Rattle.aoi.specs.Plain.{PlainInterface, PlainOperation, plain_operation}
use Rattle.pres.specs.Bindings.{Binding, IsBinding}
use Rattle.pres.specs.Offers.{operations}
use Rattle.pres.proofs.Counting as pres
use Rattle.head_kit.proofs.Named.{length-listed}
use Rattle.back_xdr.specs.Procedures.{numbers, procedure_in, procedures_of, procedures}

length-numbers : (i : PlainInterface) → length (numbers i) ≡ length (operations back.Xdr i)
length-numbers i = length-map (operations back.Xdr i) (λ (op : PlainOperation). op.proc_no)

pub length-procedures : (i : PlainInterface) (is : List PlainInterface)
    → length (procedures (i ∷ is)) ≡ length (numbers i) + length (procedures is)
length-procedures = length-listed numbers procedure_in

-- each operation is a procedure
pub counted : (b : Binding) → IsBinding b → b.back ≡ back.Xdr → length (procedures b.unit.interfaces) ≡ length b.ops
counted b stands xdr =
    pres.counted procedures_of b stands (λ i.
    length-map (numbers i) (procedure_in i) ∙ length-numbers i ∙ ap (λ k. length (operations k i)) (sym xdr))

-- the number of an operation among those of its interface
pub number_at : (ops : List Operation) (others : List PlainOperation) (n : ℕ) (d : Operation) → n < length ops
    → (get_or ops n d).proc_no ≡ get_or (map (λ (op : PlainOperation). op.proc_no) (map plain_operation ops ++ others)) n 0
number_at [] others n d h = absurd (omega (arith, h))
number_at (o ∷ ops) others zero d h = refl
number_at (o ∷ ops) others (suc n) d h = number_at ops others n d (omega (arith, h))
