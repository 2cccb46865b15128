use Rattle.std.proofs.Common.{Some, sym, ap, ◌∙◌}
use Rattle.cast_stub.specs.declared.recv.Get.{Get}
use Rattle.cast_stub.proofs.Directions.{receives}
use Rattle.stub_print.proofs.BothTexts.{received_text}
use Rattle.stub_print.proofs.Texts.{each_put, there_put, switch_put, switch_default_put}
use Rattle.stub_print.proofs.recv.+put.Goals as goal

pub put_op-returns-in_ok-put_ops-in-Each : goal.put_op-returns-in_ok-put_ops-in-Each
put_op-returns-in_ok-put_ops-in-Each t c =
    each_put receives Get received_text c.put_end.result c.args.op.now _ _ c.args.out.now _ _ c.put_end.new.out c.in-Each.is
    c.in_ok-put_over-in-Each.ensures
    c.in_ok-put_ops-in-Each.ensures c.put_end.ensures

pub put_op-returns-in_ok-put_ops-in-Some : goal.put_op-returns-in_ok-put_ops-in-Some
put_op-returns-in_ok-put_ops-in-Some t c =
    there_put receives Get received_text c.put_end-in-Some.result c.args.op.now _ _ c.args.out.now _ _ c.put_end-in-Some.new.out
    c.in-Some.is
    c.in_ok-put_over-in-Some.ensures c.in_ok-put_ops-in-Some.ensures c.put_end-in-Some.ensures

pub put_op-returns-in-None : goal.put_op-returns-in-None
put_op-returns-in-None t c =
    switch_put receives Get received_text c.put_end-in-None.result c.args.op.now _ _ _ _ _ c.args.out.now _ _ c.put_end-in-None.new.out
    c.in-Switch.is c.in-None.is
    c.in_ok-put_over-in-Switch.ensures (c.as_slice-case-items.ensures ∙ c.deref.ensures) c.loop-case-test.false c.loop-case.invariant
    c.put_end-in-None.ensures

pub put_op-returns-in_ok-put_ops-in-Some-other : goal.put_op-returns-in_ok-put_ops-in-Some-other
put_op-returns-in_ok-put_ops-in-Some-other t c =
    switch_default_put receives Get received_text c.put_end-in-Some-other.result c.args.op.now _ _ _ _ _ _ c.args.out.now _ _ _ _
    c.put_end-in-Some-other.new.out
    c.in-Switch.is (c.in-Some-other.is ∙ ap Some (sym c.deref-in-Some-other.ensures)) c.in_ok-put_over-in-Switch.ensures
    (c.as_slice-case-items.ensures ∙ c.deref.ensures) c.loop-case-test.false
    c.loop-case.invariant c.in_ok-put_alone-in-Some-other.ensures c.in_ok-put_ops-in-Some-other.ensures
    c.put_end-in-Some-other.ensures
