use Rattle.std.proofs.Common.{drop}
use Rattle.mint.specs.Values.{all_seen}
use Rattle.cast_stub.specs.Steps.{over, chunk_steps}
use Rattle.stub_machine.specs.Run.{state_of}
use Rattle.stub_machine.proofs.Running.{Left}
use Rattle.stub_machine.proofs.puts.run_chunks.Given as goal

abbrev pub invariant-loop-value : goal.invariant-loop-value
invariant-loop-value l = Left (over (chunk_steps l.size l.puts l.head) (all_seen l.value-items))
    (over (chunk_steps l.size l.puts l.head) (all_seen (drop l.value-index l.value-items))) (state_of l.fn.buf) (state_of l.buf)
