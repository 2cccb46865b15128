use Rattle.copy_inline.proofs.Whole.{plainly, does, free, does_go, does_turn, does_rowless}
use Rattle.copy_inline.proofs.Shallow.{given_shallow}
use Rattle.copy_inline.proofs.inlining.inline.Goals as goal

pub returns-clause-steps : goal.returns-clause-steps
returns-clause-steps c =
    does _ _ _ (plainly _ _ _ _ _ _ c.levels.ensures.is c.new-ops.ensures c.new-here.ensures c.in_ok-put_called.ensures)

pub returns-clause-calls : goal.returns-clause-calls
returns-clause-calls c = free c.args.subs.now c.args.id c.put_called.new.out
    (plainly _ _ _ _ _ _ c.levels.ensures.is c.new-ops.ensures c.new-here.ensures c.in_ok-put_called.ensures)

pub returns-clause-follows : goal.returns-clause-follows
returns-clause-follows c = does_go c.args.subs.now c.args.id c.put_called.new.out c.requires.id
    (plainly _ _ _ _ _ _ c.levels.ensures.is c.new-ops.ensures c.new-here.ensures c.in_ok-put_called.ensures)

pub returns-clause-turned : goal.returns-clause-turned
returns-clause-turned c = does_turn c.args.subs.now c.args.id c.put_called.new.out c.requires.id
    (plainly _ _ _ _ _ _ c.levels.ensures.is c.new-ops.ensures c.new-here.ensures c.in_ok-put_called.ensures)

pub returns-clause-no_row : goal.returns-clause-no_row
returns-clause-no_row c =
    does_rowless c.args.subs.now c.args.id c.put_called.new.out c.new.result c.requires.id c.requires.types
    (plainly _ _ _ _ _ _ c.levels.ensures.is c.new-ops.ensures c.new-here.ensures c.in_ok-put_called.ensures) c.new.ensures

pub put_called-requires-clause-levels : goal.put_called-requires-clause-levels
put_called-requires-clause-levels c = given_shallow c.args.subs.now c.args.id c.requires.id c.requires.types
