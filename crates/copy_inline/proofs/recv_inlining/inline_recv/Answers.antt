use Rattle.copy_inline.proofs.RecvWhole.{plainly, does, free, does_go, does_turn}
use Rattle.copy_inline.proofs.RecvShallow.{given_shallow}
use Rattle.copy_inline.proofs.recv_inlining.inline_recv.Goals as goal

pub returns-clause-same : goal.returns-clause-same
returns-clause-same c = does _ _ _ (plainly _ _ _ _ _ _ c.levels.ensures.is c.new-ops.ensures c.new-here.ensures c.in_ok-put_called.ensures)

pub returns-clause-calls : goal.returns-clause-calls
returns-clause-calls c = free c.args.subs.now c.args.id c.put_called.new.out
    (plainly _ _ _ _ _ _ c.levels.ensures.is c.new-ops.ensures c.new-here.ensures c.in_ok-put_called.ensures)

pub returns-clause-traces : goal.returns-clause-traces
returns-clause-traces c = does_go c.args.subs.now c.args.id c.put_called.new.out c.requires.id
    (plainly _ _ _ _ _ _ c.levels.ensures.is c.new-ops.ensures c.new-here.ensures c.in_ok-put_called.ensures)

pub returns-clause-turned : goal.returns-clause-turned
returns-clause-turned c = does_turn c.args.subs.now c.args.id c.put_called.new.out c.requires.id
    (plainly _ _ _ _ _ _ c.levels.ensures.is c.new-ops.ensures c.new-here.ensures c.in_ok-put_called.ensures)

pub put_called-requires-clause-levels : goal.put_called-requires-clause-levels
put_called-requires-clause-levels c = given_shallow c.args.subs.now c.args.id c.requires.id c.requires.types
