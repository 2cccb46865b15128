use Rattle.std.proofs.Common.{rules, Bool, ltb, sym, ◌∙◌, subst}
use Rattle.std.specs.List.Sorted.{IsNonDecreasingBy}
use Rattle.std.proofs.lemmas.List.Sorted.{IsPartitionPoint-from_clause, IsPartitionedBy-ltb}
use Rattle.pres.specs.declared.ops.Op.{Op}
use Rattle.back_xdr.proofs.Homes.{operations_rise}
use Rattle.back_xdr.proofs.Before.{point_is}
use Rattle.back_xdr.proofs.procedures.before.Goals as goal

pub returns : goal.returns
returns c =
    let all = c.as_slice-ops.ensures ∙ c.ops.ensures.value in
    let rise = operations_rise c.args.bound.now c.ops.ensures.stands c.requires in
    let up = subst (IsNonDecreasingBy (λ (op : Op). op.interface)) (sym all) rise in
    let parted = IsPartitionedBy-ltb (λ (op : Op). op.interface) c.as_slice-ops.result.now c.args.place up in
    let is_below : Op → Bool = λ (op : Op). ltb op.interface c.args.place in
    let clause = c.partition_point.ensures.partitioned in
    let point = IsPartitionPoint-from_clause is_below c.as_slice-ops.result.now _ clause parted (λ a r q k. search rules) in
    point_is c.args.bound.now c.ops.ensures.stands c.requires c.args.place _ c.as_slice-ops.result.now all
    c.partition_point.ensures.bound point
