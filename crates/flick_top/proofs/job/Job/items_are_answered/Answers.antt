use Rattle.flick_top.proofs.Existing.{all_items, over_has, pipe_has, unpipe_has, serve_has, bridge_has}
use Rattle.flick_top.proofs.job.Job.items_are_answered.Goals as goal

pub returns-in-Over : goal.returns-in-Over
returns-in-Over c =
    all_items c.args.self.now (over_has c.args.self.now _ c.in-Over.engine c.in-Over.is c.lines_are_answered.ensures)

pub returns-in-Pipe : goal.returns-in-Pipe
returns-in-Pipe c =
    all_items c.args.self.now (pipe_has c.args.self.now c.in-Pipe.engine c.in-Pipe.is c.lines_are_answered-in-Pipe.ensures)

pub returns-in-Unpipe : goal.returns-in-Unpipe
returns-in-Unpipe c =
    all_items c.args.self.now (unpipe_has c.args.self.now c.in-Unpipe.engine c.in-Unpipe.is c.lines_are_answered-in-Unpipe.ensures)

pub returns-in-Serve : goal.returns-in-Serve
returns-in-Serve c =
    all_items c.args.self.now
    (serve_has c.args.self.now c.in-Serve.server _ c.in-Serve.is c.engine.ensures c.lines_are_answered-in-Serve.ensures
    c.lines_are_answered-in-Serve-2.ensures)

pub returns-in-Bridge : goal.returns-in-Bridge
returns-in-Bridge c =
    all_items c.args.self.now
    (bridge_has c.args.self.now c.in-Bridge.bridge _ c.in-Bridge.is c.engine-in-Bridge.ensures c.lines_are_answered-in-Bridge.ensures
    c.lines_are_answered-in-Bridge-2.ensures)
