use Rattle.std.proofs.Common.{Some, refl}
use Rattle.flick_top.proofs.Bridging.{bridge-made, bridge-said, units_agree, units_match}
use Rattle.flick_top.proofs.file.bridge_of.Goals as goal

pub bridged-requires : goal.bridged-requires
bridged-requires c =
    units_match c.in-Ok.from c.args.to c.in_ok-second-in-Ok.second
    (units_agree c.args.named.now.front c.args.named.now.wire c.args.to (Some c.args.content.now) c.in_ok-from.field-0 c.in-Ok.from
    c.in_ok-second-in-Ok.second c.in-Ok.is c.in_ok-from.ensures.made c.in_ok-second-in-Ok.ensures.made)

pub returns-in_ok-second-in-Ok : goal.returns-in_ok-second-in-Ok
returns-in_ok-second-in-Ok c =
    bridge-made c.args.named.now c.args.to (Some c.args.content.now) c.in_ok-from.field-0 c.in-Ok.from c.in_ok-second-in-Ok.second
    c.bridged.result c.in-Ok.is c.in_ok-from.ensures.made c.in_ok-second-in-Ok.ensures.made c.bridged.ensures

pub returns-in-Err : goal.returns-in-Err
returns-in-Err c =
    bridge-said c.args.named.now c.args.to (Some c.args.content.now) c.in_ok-from.field-0 c.in-Err.report _ c.in-Err.is
    c.in_ok-from.ensures.made refl
