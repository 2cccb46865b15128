use Rattle.cast_stub.specs.Block.{code_seen}
use Rattle.stub_lower.specs.Codes.{node_code}
use Rattle.stub_lower.proofs.Tables.{one_more, ended}
use Rattle.stub_lower.proofs.Whole.{all_send, all_follow, all_turned}
use Rattle.cast_stub.proofs.Followed.{follow_rowless}
use Rattle.stub_lower.proofs.nodes.lower.Goals as goal

pub loop-id-preserved : goal.loop-id-preserved
loop-id-preserved c = one_more code_seen (node_code c.args.enc) c.args.mint.now c.loop-id.id c.in-Some.node.now c.loop-id.subs _
    c.in_ok-node_code-in-Some.field-0
    c.in-Some.ensures.found c.in-Some.ensures.below c.in-Some.ensures.sound c.loop-id.invariant c.in_ok-node_code-in-Some.ensures
    c.in_ok-push-in-Some.ensures.ok

pub returns-clause-means : goal.returns-clause-means
returns-clause-means c = all_send c.args.enc c.args.mint.now c.loop-id.subs (ended code_seen (node_code c.args.enc) c.args.mint.now
    c.loop-id.id _ c.loop-id.subs
    c.len-count.ensures.value c.loop-id-test.false c.loop-id.auto.id-end c.loop-id.invariant)

pub returns-clause-follows : goal.returns-clause-follows
returns-clause-follows c = all_follow c.args.enc c.args.mint.now c.loop-id.subs (ended code_seen (node_code c.args.enc) c.args.mint.now
    c.loop-id.id _
    c.loop-id.subs c.len-count.ensures.value c.loop-id-test.false c.loop-id.auto.id-end c.loop-id.invariant)

pub returns-clause-rows : goal.returns-clause-rows
returns-clause-rows c = all_turned c.args.enc c.args.mint.now c.loop-id.subs (ended code_seen (node_code c.args.enc) c.args.mint.now
    c.loop-id.id _ c.loop-id.subs
    c.len-count.ensures.value c.loop-id-test.false c.loop-id.auto.id-end c.loop-id.invariant)

pub returns-clause-no_row : goal.returns-clause-no_row
returns-clause-no_row c =
    follow_rowless c.args.mint.now c.loop-id.subs
    (all_follow c.args.enc c.args.mint.now c.loop-id.subs (ended code_seen (node_code c.args.enc) c.args.mint.now c.loop-id.id _
    c.loop-id.subs
    c.len-count.ensures.value c.loop-id-test.false c.loop-id.auto.id-end c.loop-id.invariant))
