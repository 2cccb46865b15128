use Rattle.flick_lines.proofs.Existing.{all_fit}
use Rattle.flick_bridge.specs.Bridged.{Bridging}
use Rattle.flick_bridge.proofs.Answering.{lines_seen}
use Rattle.flick_bridge.proofs.bridge.Bridge.lines_are_answered.Goals as goal

pub returns : goal.returns
returns c =
    let t : Bridging = record { from = c.self.inside.from; to = c.self.inside.to } in
    lines_seen c.args.self.now t c.self.view_is c.self.invariant
    (all_fit t.from.binding (rw (c.mint.ensures, c.bound.ensures.value) at c.types_are_sound.ensures)).requests
