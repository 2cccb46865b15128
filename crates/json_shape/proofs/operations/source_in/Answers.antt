use Rattle.std.proofs.Common.{length, ap, List, arith}
use Rattle.aoi.specs.declared.interfaces.Operation.{Operation}
use Rattle.json_shape.proofs.Sources.{source_here}
use Rattle.json_shape.proofs.Seeking.{first_sourcing, leading_in, sourcing_on, no_source, no_more_sources}
use Rattle.json_shape.proofs.operations.source_in.Goals as goal

pub loop-j-init : goal.loop-j-init
loop-j-init c = first_sourcing c.args.back c.args.interfaces.now c.args.ops.now c.args.k c.requires

pub returns-then-left-operations : goal.returns-then-left-operations
returns-then-left-operations c =
    source_here c.args.back c.args.interfaces.now c.loop-j.j c.loop-j.left c.args.k c.index-interfaces-j.result
    c.as_slice-operations.result.now c.index-operations-left.result
    c.loop-j-test.true c.index-interfaces-j.is c.as_slice-operations.ensures c.if-left-operations.true c.index-operations-left.is
    c.loop-j.invariant.same

pub count_of-count-requires : goal.count_of-count-requires
count_of-count-requires c =
    leading_in c.args.back c.args.interfaces.now c.args.ops.now c.args.k c.loop-j.from c.loop-j.j c.loop-j.left c.index-interfaces-j.result
    c.loop-j.invariant c.loop-j-test.true c.index-interfaces-j.is

pub returns-then-left-count : goal.returns-then-left-count
returns-then-left-count c =
    no_source c.args.back c.args.interfaces.now c.args.ops.now c.args.k c.loop-j.from c.loop-j.j c.loop-j.left c.index-interfaces-j.result
    c.loop-j.invariant c.loop-j-test.true c.index-interfaces-j.is
    c.count_of-count.result (length c.as_slice-operations.result.now) c.count_of-count.ensures.value
    (ap (λ (l : List Operation). length l) c.as_slice-operations.ensures) c.if-left-operations.false c.if-left-count.true

pub loop-j-preserved : goal.loop-j-preserved
loop-j-preserved c =
    sourcing_on c.args.back c.args.interfaces.now c.args.ops.now c.args.k c.loop-j.from c.loop-j.j c.loop-j.left c.index-interfaces-j.result
    c.loop-j.invariant c.loop-j-test.true c.index-interfaces-j.is
    c.count_of-count.result c.count_of-count.ensures.value c.if-left-count.false

pub returns : goal.returns
returns c =
    no_more_sources c.args.back c.args.interfaces.now c.args.ops.now c.args.k c.loop-j.from c.loop-j.j c.loop-j.left c.loop-j.invariant
    (omega (arith, c.loop-j-test.false))
