use Rattle.std.proofs.Common.{map, ap, sym, ◌∙◌, subst}
use Rattle.std.specs.Option.{option_copied}
use Rattle.std.specs.List.Sorted.{IsNonDecreasingBy}
use Rattle.aoi.specs.Plain.{PlainUnit, plain_interface}
use Rattle.pres.specs.declared.ops.Op.{Op}
use Rattle.back_xdr.proofs.Homes.{operations_rise, is_there, place_within, procedure_is}
use Rattle.back_xdr.proofs.procedures.home_of.Goals as goal

pub first_of-first-requires-clause-rise : goal.first_of-first-requires-clause-rise
first_of-first-requires-clause-rise c =
    let rise = operations_rise c.args.bound.now c.ops.ensures.stands c.requires.xdr in
    subst (IsNonDecreasingBy (λ (op : Op). op.interface)) (sym (c.as_slice-ops.ensures ∙ c.ops.ensures.value)) rise

pub unreachable-requires : goal.unreachable-requires
unreachable-requires c =
    let all = c.as_slice-ops.ensures ∙ c.ops.ensures.value in
    let same = ap (map plain_interface) c.interfaces.ensures ∙ ap (λ (u : PlainUnit). u.interfaces) c.unit.ensures in
    is_there c.args.bound.now c.args.op c.first_of-first.result c.index-ops-place.result
    c.as_slice-ops.result.now c.interfaces.result.now
    c.ops.ensures.stands c.requires.xdr c.requires.op all c.first_of-first.ensures same
    (sym c.get.ensures ∙ ap option_copied c.in-None.is)

pub returns-clause-place : goal.returns-clause-place
returns-clause-place c =
    let all = c.as_slice-ops.ensures ∙ c.ops.ensures.value in
    let same = ap (map plain_interface) c.interfaces.ensures ∙ ap (λ (u : PlainUnit). u.interfaces) c.unit.ensures in
    place_within c.args.bound.now c.args.op c.first_of-first.result c.index-ops-place.result
    c.as_slice-ops.result.now c.interfaces.result.now
    c.ops.ensures.stands c.requires.xdr c.requires.op all c.first_of-first.ensures same
    _ (sym c.get.ensures ∙ ap option_copied c.in-Some.is)

pub returns-clause-procedure : goal.returns-clause-procedure
returns-clause-procedure c =
    let all = c.as_slice-ops.ensures ∙ c.ops.ensures.value in
    let same = ap (map plain_interface) c.interfaces.ensures ∙ ap (λ (u : PlainUnit). u.interfaces) c.unit.ensures in
    procedure_is c.args.bound.now c.args.op c.first_of-first.result c.index-ops-place.result
    c.as_slice-ops.result.now c.interfaces.result.now
    c.ops.ensures.stands c.requires.xdr c.requires.op all c.first_of-first.ensures same
    _ (sym c.get.ensures ∙ ap option_copied c.in-Some.is)
