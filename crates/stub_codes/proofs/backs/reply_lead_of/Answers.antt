use Rattle.std.proofs.Common.{sym, subst, ◌∙◌}
use Rattle.back_cdr.specs.Targets.{IsCdr}
use Rattle.stub_codes.proofs.Leading.{either_cdr, minor_of, xdr_reply_lead, cdr_reply_lead, mach_reply_lead}
use Rattle.stub_codes.proofs.backs.reply_lead_of.Goals as goal

pub lead_reply-requires-in-CdrBig-clause-arm : goal.lead_reply-requires-in-CdrBig-clause-arm
lead_reply-requires-in-CdrBig-clause-arm c = c.arms_have_ids.ensures (subst IsCdr c.back.ensures (either_cdr c.back.result c.in-CdrBig.is))

pub lead_reply-requires-in-CdrBig-clause-minor : goal.lead_reply-requires-in-CdrBig-clause-minor
lead_reply-requires-in-CdrBig-clause-minor c = minor_of c.args.bound.now.back c.args.minor c.requires.minor

pub returns-in-Xdr-clause-means : goal.returns-in-Xdr-clause-means
returns-in-Xdr-clause-means c =
    xdr_reply_lead c.args.bound.now c.args.minor c.args.op c.args.arm c.lead_reply.result
    (sym c.back.ensures ∙ c.in-Xdr.is) c.lead_reply.ensures.means

pub returns-in-CdrBig-clause-means : goal.returns-in-CdrBig-clause-means
returns-in-CdrBig-clause-means c =
    let cdr = subst IsCdr c.back.ensures (either_cdr c.back.result c.in-CdrBig.is) in
    cdr_reply_lead c.args.bound.now c.args.minor c.args.op c.args.arm c.lead_reply-in-CdrBig.result cdr c.lead_reply-in-CdrBig.ensures.means

pub returns-in-Mach-clause-means : goal.returns-in-Mach-clause-means
returns-in-Mach-clause-means c =
    mach_reply_lead c.args.bound.now c.args.minor c.args.op c.args.arm c.lead_reply-in-Mach.result (sym c.back.ensures ∙ c.in-Mach.is)
    c.lead_reply-in-Mach.ensures.means
