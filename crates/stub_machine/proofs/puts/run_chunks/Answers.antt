use Rattle.std.proofs.Common.{List, sym, subst}
use Rattle.mint.specs.declared.value.Value.{Value}
use Rattle.mint.specs.Values.{all_seen}
use Rattle.cast_stub.specs.Steps.{over, chunk_steps}
use Rattle.stub_machine.specs.Run.{state_of, Runs}
use Rattle.stub_machine.proofs.Running.{items_fit, items_step}
use Rattle.stub_machine.proofs.puts.run_chunks.Goals as goal

pub run_chunk-requires : goal.run_chunk-requires
run_chunk-requires c =
    let r = subst (λ (vs : List Value). Runs (over (chunk_steps c.args.size c.args.puts.now c.args.head.now) (all_seen vs))
    (state_of c.args.buf.now)) (sym c.as_slice-value-items.ensures) c.requires in
    items_fit _ _ _ c.value-item.result _ _ c.loop-value.invariant c.loop-value-test.true c.value-item.is r

pub loop-value-preserved : goal.loop-value-preserved
loop-value-preserved c =
    items_step _ _ _ c.value-item.result _ _ _ c.loop-value.invariant c.loop-value-test.true c.value-item.is c.run_chunk.ensures
