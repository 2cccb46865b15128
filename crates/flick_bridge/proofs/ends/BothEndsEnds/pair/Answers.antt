use Rattle.std.proofs.Common.{sym}
use Rattle.flick_bridge.specs.Bridged.{Bridging}
use Rattle.flick_bridge.proofs.Reading.{some_paired}
use Rattle.flick_bridge.proofs.ends.BothEndsEnds.pair.Goals as goal

pub returns : goal.returns
returns c =
    let t : Bridging = record { from = c.self.inside.from.now; to = c.self.inside.to.now } in
    some_paired c.args.self.now t c.bound-from.result.now c.bound-to.result.now c.args.op c.in_ok-other.other c.number_in.result
    c.back.result c.args.head.now c.head_at.result c.self.view_is c.bound-from.ensures.value c.bound-to.ensures.value
    (sym c.in_ok-other.ensures) c.back.ensures c.number_in.ensures c.head_at.ensures
