use Rattle.std.proofs.Common.{◌∙◌}
use Rattle.stub_receiver.proofs.Within.{pointwise_alike, slice_off}
use Rattle.stub_receiver.proofs.takes.run_const.Goals as goal

pub returns : goal.returns
returns c = c.eq.ensures ∙ pointwise_alike _ _ _ _ _ c.as_slice.ensures
    (slice_off c.args.off c.len.result c.rest.result.now _ c.rest.ensures.value) c.len.ensures
