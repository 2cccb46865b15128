use Rattle.std.proofs.Common.{List, [], length, sym, ap, ◌∙◌, append-nil, arith}
use Rattle.std.specs.Vec.Iter.{into_iter_items}
use Rattle.std.proofs.lemmas.List.{nil_from_length}
use Rattle.cast_stub.specs.declared.put.Put.{Put}
use Rattle.chunker.specs.Joins.{awaits}
use Rattle.chunker.proofs.joining.join_puts.Goals as goal

pub loop-put-preserved : goal.loop-put-preserved
loop-put-preserved c = record {
  next = tt;
  finite = tt;
  long = omega (arith, c.loop-put.invariant.long, c.in-Some.ensures.steps.1, ap length c.in-Some.ensures.steps.0);
  made = c.in_ok-join_put.ensures (into_iter_items c.next.new.self)
      ∙ ap (λ (l : List Put). awaits c.loop-put.joining l) (sym c.in-Some.ensures.steps.0) ∙ c.loop-put.invariant.made;
}

pub returns : goal.returns
returns c =
    sym (append-nil c.put_const.new.out) ∙ sym (c.in_ok-put_const.ensures [])
    ∙ ap (λ (l : List Put). awaits c.loop-put.joining l)
    (sym (nil_from_length (into_iter_items c.loop-put.put-iterator)
    (omega (arith, c.loop-put.invariant.long, c.in-None.ensures.steps.0))))
    ∙ c.loop-put.invariant.made
