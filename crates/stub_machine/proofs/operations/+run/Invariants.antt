use Rattle.std.proofs.Common.{◌<◌, ◌≤◌, drop, length, map}
use Rattle.mint.specs.Values.{seen, all_seen, vals_of, num}
use Rattle.cast_stub.specs.Subs.{calls_of}
use Rattle.cast_stub.specs.Steps.{code_steps, over}
use Rattle.stub_machine.specs.Run.{state_of}
use Rattle.kit_base.specs.Limits.{longest_message}
use Rattle.std.proofs.Common.{◌+◌}
use Rattle.cast_stub.specs.Block.{op_seen, stop}
use Rattle.stub_machine.proofs.Running.{Left}
use Rattle.stub_machine.proofs.Sizes.{size, code_size, left_to_run}
use Rattle.stub_machine.proofs.operations.+run.Given as goal

-- what was run, and after the first operation at most so many octets
abbrev pub invariant-run_block-loop-op : goal.invariant-run_block-loop-op
invariant-run_block-loop-op l = record {
  left : Left
      (code_steps (calls_of l.machine.subs.now l.machine.head.now l.calls) l.machine.head.now l.op-items (seen l.value))
      (code_steps (calls_of l.machine.subs.now l.machine.head.now l.calls) l.machine.head.now (drop l.op-index l.op-items) (seen l.value))
      (state_of l.fn.buf) (state_of l.buf);
  short : 0 < l.op-index → length l.buf.done ≤ longest_message;
}

abbrev pub invariant-run_items-loop-value : goal.invariant-run_items-loop-value
invariant-run_items-loop-value l = Left
    (over (code_steps (calls_of l.machine.subs.now l.machine.head.now l.calls) l.machine.head.now l.body) (all_seen l.value-items))
    (over (code_steps (calls_of l.machine.subs.now l.machine.head.now l.calls) l.machine.head.now l.body)
    (all_seen (drop l.value-index l.value-items)))
    (state_of l.fn.buf) (state_of l.buf)

abbrev pub invariant-run_numbers-loop-i : goal.invariant-run_numbers-loop-i
invariant-run_numbers-loop-i l = Left
    (over (code_steps (calls_of l.machine.subs.now l.machine.head.now l.calls) l.machine.head.now l.body) (vals_of (map num l.row.numbers)))
    (over (code_steps (calls_of l.machine.subs.now l.machine.head.now l.calls) l.machine.head.now l.body)
    (vals_of (map num (drop l.i l.row.numbers))))
    (state_of l.fn.buf) (state_of l.buf)

abbrev pub decreases-run_block : goal.decreases-run_block
decreases-run_block l = left_to_run l.machine.now.subs.now l.calls (code_size l.code.now) + 7

abbrev pub decreases-run_op : goal.decreases-run_op
decreases-run_op l = left_to_run l.machine.now.subs.now l.calls (size (op_seen l.op.now stop)) + 0

abbrev pub decreases-run_each : goal.decreases-run_each
decreases-run_each l = left_to_run l.machine.now.subs.now l.calls (code_size l.body.now) + 10

abbrev pub decreases-run_elements : goal.decreases-run_elements
decreases-run_elements l = left_to_run l.machine.now.subs.now l.calls (code_size l.body.now) + 9

abbrev pub decreases-run_items : goal.decreases-run_items
decreases-run_items l = left_to_run l.machine.now.subs.now l.calls (code_size l.body.now) + 8

abbrev pub decreases-run_numbers : goal.decreases-run_numbers
decreases-run_numbers l = left_to_run l.machine.now.subs.now l.calls (code_size l.body.now) + 8

abbrev pub decreases-run_some : goal.decreases-run_some
decreases-run_some l = left_to_run l.machine.now.subs.now l.calls (code_size l.body.now) + 9

abbrev pub decreases-run_present : goal.decreases-run_present
decreases-run_present l = left_to_run l.machine.now.subs.now l.calls (code_size l.body.now) + 8

abbrev pub decreases-run_called : goal.decreases-run_called
decreases-run_called l = left_to_run l.machine.now.subs.now l.calls 0 + 8
