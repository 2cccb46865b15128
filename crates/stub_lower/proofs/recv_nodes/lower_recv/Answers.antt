use Rattle.cast_stub.specs.RecvBlock.{code_seen}
use Rattle.stub_lower.specs.RecvCodes.{node_code}
use Rattle.stub_lower.proofs.Tables.{one_more, ended}
use Rattle.stub_lower.proofs.RecvWhole.{all_receive, all_calls_receive, all_trace, all_turned}
use Rattle.stub_lower.proofs.recv_nodes.lower_recv.Goals as goal

pub loop-id-preserved : goal.loop-id-preserved
loop-id-preserved c = one_more code_seen (node_code c.args.enc) c.args.mint.now c.loop-id.id c.in-Some.node.now c.loop-id.subs _
    c.in_ok-node_code-in-Some.field-0
    c.in-Some.ensures.found c.in-Some.ensures.below c.in-Some.ensures.sound c.loop-id.invariant c.in_ok-node_code-in-Some.ensures
    c.in_ok-push-in-Some.ensures.ok

pub returns-clause-sound : goal.returns-clause-sound
returns-clause-sound c = all_receive c.args.enc c.args.mint.now c.loop-id.subs (ended code_seen (node_code c.args.enc) c.args.mint.now
    c.loop-id.id _
    c.loop-id.subs c.len-count.ensures.value c.loop-id-test.false c.loop-id.auto.id-end c.loop-id.invariant)

pub returns-clause-traces : goal.returns-clause-traces
returns-clause-traces c = all_trace c.args.enc c.args.mint.now c.loop-id.subs (ended code_seen (node_code c.args.enc) c.args.mint.now
    c.loop-id.id _
    c.loop-id.subs c.len-count.ensures.value c.loop-id-test.false c.loop-id.auto.id-end c.loop-id.invariant)

pub returns-clause-rows : goal.returns-clause-rows
returns-clause-rows c = all_turned c.args.enc c.args.mint.now c.loop-id.subs (ended code_seen (node_code c.args.enc) c.args.mint.now
    c.loop-id.id _ c.loop-id.subs
    c.len-count.ensures.value c.loop-id-test.false c.loop-id.auto.id-end c.loop-id.invariant)

pub returns-clause-called : goal.returns-clause-called
returns-clause-called c = all_calls_receive c.args.enc c.args.mint.now c.loop-id.subs (ended code_seen (node_code c.args.enc)
    c.args.mint.now c.loop-id.id _
    c.loop-id.subs c.len-count.ensures.value c.loop-id-test.false c.loop-id.auto.id-end c.loop-id.invariant)
