use Rattle.std.proofs.Common.{OnOk, OnErr, ℕ, length, arith, ap, subst, sym}
use Rattle.mint.specs.Values.{seen}
use Rattle.cast_stub.specs.Steps.{code_steps}
use Rattle.cast_stub.specs.Subs.{calls_of, sent_steps}
use Rattle.stub_machine.specs.Run.{state_of, Runs, Ends, Grown}
use Rattle.stub_machine.proofs.Spending.{ended-stands}
use Rattle.stub_machine.proofs.Whole.{covered-runs, ends-sent, broken-long, run-stands}
use Rattle.stub_machine.proofs.send.run_send.Goals as goal

pub run_block-requires : goal.run_block-requires
run_block-requires c =
    let code = c.args.code.now in
    let head = c.args.head.now in
    let v = seen c.args.value.now in
    subst (λ (n : ℕ). Runs (code_steps (calls_of code.subs head n) head code.ops v) (state_of c.args.buf.now)) (sym c.deepest_call.ensures)
    (covered-runs (sent_steps code head v) c.args.buf.now c.requires)

pub returns-in-Ok-clause-done : goal.returns-in-Ok-clause-done
returns-in-Ok-clause-done c =
    let code = c.args.code.now in
    let head = c.args.head.now in
    let v = seen c.args.value.now in
    let s = ends-sent (sent_steps code head v) c.args.buf.now c.run_block.new.buf c.requires
    (subst
    (λ (n : ℕ). Ends (code_steps (calls_of code.subs head n) head code.ops v) (state_of c.args.buf.now) (state_of c.run_block.new.buf))
    c.deepest_call.ensures c.in-Ok.ensures.ok) in
    s.done

pub returns-in-Ok-clause-tally : goal.returns-in-Ok-clause-tally
returns-in-Ok-clause-tally c =
    let code = c.args.code.now in
    let head = c.args.head.now in
    let v = seen c.args.value.now in
    let s = ends-sent (sent_steps code head v) c.args.buf.now c.run_block.new.buf c.requires
    (subst
    (λ (n : ℕ). Ends (code_steps (calls_of code.subs head n) head code.ops v) (state_of c.args.buf.now) (state_of c.run_block.new.buf))
    c.deepest_call.ensures c.in-Ok.ensures.ok) in
    s.tally

pub returns-in-Ok-clause-spent : goal.returns-in-Ok-clause-spent
returns-in-Ok-clause-spent c =
    let code = c.args.code.now in
    let head = c.args.head.now in
    let v = seen c.args.value.now in
    let s = ends-sent (sent_steps code head v) c.args.buf.now c.run_block.new.buf c.requires
    (subst
    (λ (n : ℕ). Ends (code_steps (calls_of code.subs head n) head code.ops v) (state_of c.args.buf.now) (state_of c.run_block.new.buf))
    c.deepest_call.ensures c.in-Ok.ensures.ok) in
    s.spent

pub returns-then-octets-gt-LONGEST_MESSAGE-clause-long : goal.returns-then-octets-gt-LONGEST_MESSAGE-clause-long
returns-then-octets-gt-LONGEST_MESSAGE-clause-long c =
    let code = c.args.code.now in
    let head = c.args.head.now in
    let v = seen c.args.value.now in
    let b = c.args.buf.now in
    let after = c.run_block.new.buf in
    let runs = covered-runs (sent_steps code head v) b c.requires in
    let ok = subst
    (λ (n : ℕ). OnOk c.run_block.result (Ends (code_steps (calls_of code.subs head n) head code.ops v) (state_of b) (state_of after)))
    c.deepest_call.ensures c.run_block.ensures.ok in
    let err = subst
    (λ (n : ℕ). OnErr c.run_block.result (Grown (code_steps (calls_of code.subs head n) head code.ops v) (state_of b) (state_of after)))
    c.deepest_call.ensures c.run_block.ensures.err in
    λ is. broken-long c.run_block.result (sent_steps code head v) b after c.requires runs ok err (omega (arith, ap length c.octets.ensures))

pub returns-then-octets-gt-LONGEST_MESSAGE-clause-stands : goal.returns-then-octets-gt-LONGEST_MESSAGE-clause-stands
returns-then-octets-gt-LONGEST_MESSAGE-clause-stands c =
    let code = c.args.code.now in
    let head = c.args.head.now in
    let v = seen c.args.value.now in
    run-stands c.run_block.result (code_steps (calls_of code.subs head _) head code.ops v) (state_of c.args.buf.now)
    (state_of c.run_block.new.buf) c.run_block.ensures.ok c.run_block.ensures.err

pub returns-in-Ok-clause-stands : goal.returns-in-Ok-clause-stands
returns-in-Ok-clause-stands c =
    let code = c.args.code.now in
    let head = c.args.head.now in
    let v = seen c.args.value.now in
    ended-stands (code_steps (calls_of code.subs head _) head code.ops v) (state_of c.args.buf.now) (state_of c.run_block.new.buf)
    c.in-Ok.ensures.ok
