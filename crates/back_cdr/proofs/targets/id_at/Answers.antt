use Rattle.std.proofs.Common.{◌-◌, ◌∙◌, arith}
use Rattle.back_cdr.proofs.Ids.{id_there}
use Rattle.back_cdr.proofs.targets.id_at.Goals as goal

pub returns : goal.returns
returns c = id_there c.args.raises.now (c.args.arm - 1) c.index-raises-arm.result (omega (arith, c.requires.some, c.requires.there))
