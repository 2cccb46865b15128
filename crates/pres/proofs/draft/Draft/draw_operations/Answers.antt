use Rattle.std.proofs.Common.{◌∙◌}
use Rattle.pres.specs.Drafts.{known}
use Rattle.pres.proofs.Exchange.{op_left, op_nodes, op_listed}
use Rattle.pres.proofs.draft.Draft.draw_operations.Goals as goal

pub loop-op-preserved : goal.loop-op-preserved
loop-op-preserved c =
    let fs = known c.args.self.now in
    let ops = c.args.ops.now in
    let i = c.loop-op.op-index in
    let op = c.op-item.result in
    let inv = c.loop-op.invariant in
    let lt = c.loop-op-test.true in
    let is = c.op-item.is in
    let g = c.in_ok-op.ensures.grows in
    record {
      same = g.types ∙ inv.same;
      nodes = op_nodes fs ops i op _ _ _ lt is inv.nodes (rw inv.same at g.nodes);
      listed = op_listed fs c.args.back c.args.k ops i op _ _ _ _ _ c.in_ok-op.op _ lt is g (rw inv.same at c.in_ok-op.ensures.op)
          c.in_ok-push.ensures.ok inv.listed;
      left = (op_left _ ops i op lt is inv.left).1;
    }
