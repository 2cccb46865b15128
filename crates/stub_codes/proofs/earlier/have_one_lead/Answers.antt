use Rattle.std.proofs.Common.{◌≡◌, ◌⊎◌, subst}
use Rattle.wire_def.specs.declared.encoding.Back.{Back}
use Rattle.wire_def.specs.declared.encoding.Back.TheVariants as back
use Rattle.back_cdr.specs.Targets.{IsCdr}
use Rattle.stub_codes.proofs.Again.{raising_one_lead, cdr_one_lead}
use Rattle.stub_codes.proofs.Leading.{either_cdr}
use Rattle.stub_codes.proofs.earlier.have_one_lead.Goals as goal

pub returns-in-Xdr : goal.returns-in-Xdr
returns-in-Xdr c = λ e m.
    raising_one_lead c.args.bound.now m c.args.op c.args.p c.args.arm
    (subst (λ (k : Back). (k ≡ back.Xdr) ⊎ (k ≡ back.Mach)) c.back.ensures c.in-Xdr.is) (c.raise_alike.ensures.there e)
    (c.raise_alike.ensures.here e)

pub returns-in-CdrBig : goal.returns-in-CdrBig
returns-in-CdrBig c = λ e m.
    cdr_one_lead c.args.bound.now m c.args.op c.args.p c.args.arm
    (subst IsCdr c.back.ensures (either_cdr c.back.result c.in-CdrBig.is)) (c.have_one_lead.ensures e)
