use Rattle.std.proofs.Common.{rules, Bool, ltb}
use Rattle.std.proofs.lemmas.List.Sorted.{IsPartitionPoint-from_clause, IsPartitionedBy-ltb}
use Rattle.pres.specs.declared.ops.Op.{Op}
use Rattle.back_xdr.proofs.Homes.{first_from_point}
use Rattle.back_xdr.proofs.procedures.first_of.Goals as goal

pub returns : goal.returns
returns c =
    let home = c.index-ops-place.result.interface in
    let parted = IsPartitionedBy-ltb (λ (op : Op). op.interface) c.args.ops.now home c.requires.rise in
    let is_below : Op → Bool = λ (op : Op). ltb op.interface home in
    let clause = c.partition_point.ensures.partitioned in
    let point = IsPartitionPoint-from_clause is_below c.args.ops.now _ clause parted (λ a r q k. search rules) in
    first_from_point c.args.ops.now c.args.place _ c.index-ops-place.result c.requires.place c.index-ops-place.is c.requires.rise point
