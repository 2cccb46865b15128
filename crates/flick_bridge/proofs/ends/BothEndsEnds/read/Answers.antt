use Rattle.std.proofs.Common.{ap}
use Rattle.raw_buf.specs.View.{View}
use Rattle.flick_bridge.specs.Bridged.{Bridging}
use Rattle.flick_bridge.proofs.Reading.{read_asks, read_declines}
use Rattle.flick_bridge.proofs.ends.BothEndsEnds.read.Goals as goal

pub returns-in-Ok-clause-asked : goal.returns-in-Ok-clause-asked
returns-in-Ok-clause-asked c =
    let t : Bridging = record { from = c.self.inside.from.now; to = c.self.inside.to.now } in
    read_asks c.args.self.now t c.args.octets.now c.new-view.result.octets c.in-Ok.request c.self.view_is
    (ap (λ (v : View). v.octets) c.new-view.ensures) c.in-Ok.ensures.read

pub returns-in_ok-unless_memory-in-Err-clause-declined : goal.returns-in_ok-unless_memory-in-Err-clause-declined
returns-in_ok-unless_memory-in-Err-clause-declined c =
    let t : Bridging = record { from = c.self.inside.from.now; to = c.self.inside.to.now } in
    read_declines c.args.self.now t c.args.octets.now c.new-view.result.octets c.in-Err.refusal _ c.self.view_is
    (ap (λ (v : View). v.octets) c.new-view.ensures) c.in-Err.ensures.read c.in_ok-unless_memory-in-Err.ensures.memory
    c.in_ok-unless_memory-in-Err.ensures.same
