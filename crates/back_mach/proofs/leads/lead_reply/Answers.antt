use Rattle.std.proofs.Common.{ℕ}
use Rattle.head_arms.specs.Raised.{exceptions}
use Rattle.back_mach.proofs.Coding.{replies_lead, replies_chunk}
use Rattle.back_mach.proofs.leads.lead_reply.Goals as goal

pub returns-clause-means : goal.returns-clause-means
returns-clause-means c =
    let arms : ℕ = exceptions c.args.bound.now c.args.op in
    replies_lead c.reply_code.result arms c.args.arm (rw c.exceptions_of.ensures at c.reply_code.ensures)

pub returns-clause-chunks : goal.returns-clause-chunks
returns-clause-chunks c =
    let arms : ℕ = exceptions c.args.bound.now c.args.op in
    replies_chunk c.reply_code.result arms c.args.arm (rw c.exceptions_of.ensures at c.reply_code.ensures)
