use Rattle.flick_engine.proofs.Picking.{call_begins, call_stops}
use Rattle.flick_engine.proofs.engine.Engine.read_named.Goals as goal

pub returns-clause-begins : goal.returns-clause-begins
returns-clause-begins c =
    let b = c.args.self.now.binding in
    call_begins b.back b c.args.message.now c.read_called.result c.requires.cdr
    (rw c.bound.ensures.value at c.read_called.ensures.begins)

pub returns-clause-stops : goal.returns-clause-stops
returns-clause-stops c =
    call_stops c.args.self.now.binding.back c.args.message.now c.read_called.result c.requires.cdr c.read_called.ensures.stops
