use Rattle.std.proofs.Common.{◌≡◌, ◌+◌, ◌-◌, ◌++◌, drop, map}
use Rattle.mint.specs.Types.{type_at}
use Rattle.mint.specs.Values.{seen}
use Rattle.wire_def.specs.Arrays.{kind_of}
use Rattle.cast_stub.specs.RecvBlock.{finish, op_seen, code_seen, cases_seen}
use Rattle.cast_stub.specs.Draft.{fresh, digit}
use Rattle.cast_stub.specs.Fill.{fill, runs, settled, settled_number}
use Rattle.cast_stub.specs.Runs.{map_run}
use Rattle.cast_stub.specs.Got.{calls_of}
use Rattle.stub_receiver.specs.Drawn.{drawn, array_at}
use Rattle.stub_receiver.specs.Ran.{place_of}
use Rattle.stub_receiver.specs.Sizes.{size, sizes, code_size}
use Rattle.stub_receiver.proofs.Sizing.{left_to_run}
use Rattle.stub_receiver.proofs.run.+run.Given as goal

abbrev pub invariant-run_block-loop-op : goal.invariant-run_block-loop-op
invariant-run_block-loop-op l =
    (fill (calls_of l.machine.subs.now l.calls) (code_seen l.op-items) (drawn l.machine.mint.now l.fn.draft) (place_of l.fn.view)
    ≡ fill (calls_of l.machine.subs.now l.calls) (code_seen (drop l.op-index l.op-items))
    (drawn l.machine.mint.now l.draft) (place_of l.view))
    × (l.view.octets ≡ l.fn.view.octets)

abbrev pub invariant-run_items-loop : goal.invariant-run_items-loop
invariant-run_items-loop l = (runs
    (λ u. settled (fill (calls_of l.machine.subs.now l.calls) (code_seen l.body) (fresh (type_at l.machine.mint.now l.item)) u))
    l.n (place_of l.fn.view)
    ≡ map_run (λ vs. map seen l.values ++ vs)
    (runs (λ u. settled (fill (calls_of l.machine.subs.now l.calls) (code_seen l.body) (fresh (type_at l.machine.mint.now l.item)) u))
    (l.n - l.counter) (place_of l.view)))
    × (l.view.octets ≡ l.fn.view.octets)

abbrev pub invariant-run_numbers-loop : goal.invariant-run_numbers-loop
invariant-run_numbers-loop l = (runs
    (λ u. settled_number (fill (calls_of l.machine.subs.now l.calls) (code_seen l.body) (digit (array_at l.machine.mint.now l.id)) u))
    l.n (place_of l.fn.view)
    ≡ map_run (λ vs. l.row.numbers ++ vs) (runs
    (λ u. settled_number (fill (calls_of l.machine.subs.now l.calls) (code_seen l.body) (digit (array_at l.machine.mint.now l.id)) u))
    (l.n - l.counter) (place_of l.view)))
    × (l.row.kind ≡ kind_of (array_at l.machine.mint.now l.id)) × (l.view.octets ≡ l.fn.view.octets)

abbrev pub decreases-run_block : goal.decreases-run_block
decreases-run_block l = left_to_run l.machine.now.subs.now l.calls (code_size l.code.now) + 7

abbrev pub decreases-run_op : goal.decreases-run_op
decreases-run_op l = left_to_run l.machine.now.subs.now l.calls (size (op_seen l.op.now finish)) + 3

abbrev pub decreases-run_at : goal.decreases-run_at
decreases-run_at l = left_to_run l.machine.now.subs.now l.calls (size (op_seen l.op.now finish)) + 2

abbrev pub decreases-act : goal.decreases-act
decreases-act l = left_to_run l.machine.now.subs.now l.calls (size (op_seen l.op.now finish)) + 1

abbrev pub decreases-run_called : goal.decreases-run_called
decreases-run_called l = left_to_run l.machine.now.subs.now l.calls (0) + 8

abbrev pub decreases-run_fresh : goal.decreases-run_fresh
decreases-run_fresh l = left_to_run l.machine.now.subs.now l.calls (code_size l.body.now) + 9

abbrev pub decreases-run_some : goal.decreases-run_some
decreases-run_some l = left_to_run l.machine.now.subs.now l.calls (code_size l.body.now) + 10

abbrev pub decreases-run_switch : goal.decreases-run_switch
decreases-run_switch l = left_to_run l.machine.now.subs.now l.calls (sizes (cases_seen l.cases.now l.other.now)) + 10

abbrev pub decreases-run_items : goal.decreases-run_items
decreases-run_items l = left_to_run l.machine.now.subs.now l.calls (code_size l.body.now) + 10

abbrev pub decreases-run_digit : goal.decreases-run_digit
decreases-run_digit l = left_to_run l.machine.now.subs.now l.calls (code_size l.body.now) + 9

abbrev pub decreases-run_numbers : goal.decreases-run_numbers
decreases-run_numbers l = left_to_run l.machine.now.subs.now l.calls (code_size l.body.now) + 10

abbrev pub decreases-run_each : goal.decreases-run_each
decreases-run_each l = left_to_run l.machine.now.subs.now l.calls (code_size l.body.now) + 11
