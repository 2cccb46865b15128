-- Names and exceptions of operations, by induction on the list.
use Rattle.std.proofs.Common.{◌≡◌, ℕ, zero, suc, ◌<◌, List, [], ◌∷◌, ◌++◌, map, length, get_or, drop, Option, Some, None, refl, sym, ap, ◌∙◌, append_assoc, arith}
use Rattle.std.specs.Prelude.{if◌then◌else◌, slice_index_or}
use Rattle.std.proofs.Math.ListN.{get_or-append}
use Rattle.std.proofs.Math.Seq.{drop-cons}
use Rattle.std.proofs.lemmas.List.{length-map}
use Rattle.wire_def.specs.declared.encoding.Back.{Back}
use Rattle.aoi.specs.declared.interfaces.Interface.{Interface}
use Rattle.aoi.specs.declared.interfaces.Operation.{Operation}
use Rattle.aoi.specs.declared.interfaces.Raise.{Raise}
use Rattle.aoi.specs.Plain.{PlainOperation, plain_raise, plain_operation, plain_interface}
use Rattle.pres.specs.Offers.{gets_null}
use Rattle.pres.specs.Raises.{sources}
use Rattle.json_shape.specs.Operations.{interface_name}
use Rattle.json_shape.specs.Replies.{raise_name}

pub nothing_yet : (n : ℕ) → n ≡ n
nothing_yet n = refl

pub ruleset lists = (nothing_yet)

-- an interface has its name in the plain tree
pub interface_named : (is : List Interface) (k : ℕ) (i : Interface) → k < length is → i ≡ get_or is k i
    → i.name ≡ interface_name (map plain_interface is) k
interface_named [] k i h is = absurd (omega (arith, h))
interface_named (j ∷ js) zero i h is = ap (λ (z : Interface). z.name) is
interface_named (j ∷ js) (suc k) i h is = interface_named js k i (omega (arith, h)) is

-- an exception has its name in the plain tree
pub raise_named : (rs : List Raise) (k : ℕ) (r : Raise) → k < length rs → r ≡ get_or rs k r → r.name ≡ raise_name (map plain_raise rs) k
raise_named [] k r h is = absurd (omega (arith, h))
raise_named (s ∷ rs) zero r h is = ap (λ (z : Raise). z.name) is
raise_named (s ∷ rs) (suc k) r h is = raise_named rs k r (omega (arith, h)) is

operation_at : (ops : List Operation) (k : ℕ) (op : Operation) → k < length ops → op ≡ get_or ops k op
    → slice_index_or (map (λ (o : PlainOperation). Some o) (map plain_operation ops)) k None ≡ Some (plain_operation op)
operation_at [] k op h is = absurd (omega (arith, h))
operation_at (o ∷ ops) zero op h is = ap (λ z. Some (plain_operation z)) (sym is)
operation_at (o ∷ ops) (suc k) op h is = operation_at ops k op (omega (arith, h)) is

-- an operation of an interface is one of the sources
pub source_here : (b : Back) (is : List Interface) (n left k : ℕ) (i : Interface) (ops : List Operation) (op : Operation) → n < length is
    → i ≡ get_or is n i → ops ≡ i.ops → left < length ops → op ≡ get_or ops left op
    → slice_index_or (sources b (map plain_interface is)) k None ≡ slice_index_or (sources b (map plain_interface (drop n is))) left None
    → Some (plain_operation op) ≡ slice_index_or (sources b (map plain_interface is)) k None
source_here b is n left k i ops op lt i_is ops_is here op_is same =
    let cut : drop n is ≡ i ∷ drop (suc n) is = drop-cons is n i lt ∙ ap (λ z. z ∷ drop (suc n) is) (sym i_is) in
    let own : List (Option PlainOperation) = map (λ (o : PlainOperation). Some o) (map plain_operation ops) in
    let got : List (Option PlainOperation) = if gets_null b (plain_interface i) then None ∷ [] else [] in
    let rest : List (Option PlainOperation) = sources b (map plain_interface (drop (suc n) is)) in
    let long : length own ≡ length ops = length-map (map plain_operation ops) _ ∙ length-map ops plain_operation in
    let first : slice_index_or (own ++ (got ++ rest)) left None ≡ slice_index_or own left None =
    get_or-append own (got ++ rest) None left (omega (arith, here, long)) in
    let listed : slice_index_or ((own ++ got) ++ rest) left None ≡ Some (plain_operation op) =
    ap (λ z. slice_index_or z left None) (append_assoc own got rest) ∙ first ∙ operation_at ops left op here op_is in
    let plain_ops : sources b (map plain_interface (drop n is)) ≡ (own ++ got) ++ rest =
    ap (λ z. sources b (map plain_interface z)) cut
    ∙ ap (λ (z : List Operation). (map (λ (o : PlainOperation). Some o) (map plain_operation z) ++ got) ++ rest) (sym ops_is) in
    sym (same ∙ ap (λ z. slice_index_or z left None) plain_ops ∙ listed)
