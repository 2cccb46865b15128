use Rattle.std.proofs.Common.{refl}
use Rattle.giop_head.specs.Reported.{request_seen}
use Rattle.back_cdr.proofs.Named.{says}
use Rattle.back_cdr.proofs.seek.read_called.Goals as goal

pub returns-in-Ok-clause-begins : goal.returns-in-Ok-clause-begins
returns-in-Ok-clause-begins c =
    let request = request_seen c.in-Ok.request in
    says c.args.bound.now c.args.message.now request c.named.result c.laid.result ((c.in-Ok.ensures.spells request).0 refl)
    c.named.ensures.value c.laid.ensures.value

pub returns-in-Err-clause-stops : goal.returns-in-Err-clause-stops
returns-in-Err-clause-stops c = (c.in-Err.ensures.stops c.in-Err.fault).0 refl
