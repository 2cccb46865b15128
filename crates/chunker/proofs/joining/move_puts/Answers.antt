use Rattle.std.proofs.Common.{length, ap, arith}
use Rattle.std.specs.Vec.Iter.{into_iter_items}
use Rattle.std.proofs.lemmas.List.{nil_from_length}
use Rattle.chunker.specs.Chunked.{moved}
use Rattle.chunker.proofs.Going.{one-made, all-made}
use Rattle.chunker.proofs.joining.move_puts.Goals as goal

pub loop-put-preserved : goal.loop-put-preserved
loop-put-preserved c = record {
  next = tt;
  finite = tt;
  long = omega (arith, c.loop-put.invariant.long, c.in-Some.ensures.steps.1, ap length c.in-Some.ensures.steps.0);
  made = one-made (moved c.args.by) c.loop-put.out c.push.new.self _ _ _ c.in-Some.put c.in_ok-move_put.field-0 c.loop-put.invariant.made
      c.in-Some.ensures.steps.0 c.in_ok-push.ensures.ok c.in_ok-move_put.ensures;
}

pub returns : goal.returns
returns c =
    all-made (moved c.args.by) c.loop-put.out _ (into_iter_items c.loop-put.put-iterator)
    (nil_from_length _ (omega (arith, c.loop-put.invariant.long, c.in-None.ensures.steps.0))) c.loop-put.invariant.made
