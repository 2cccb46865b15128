use Rattle.back_xdr.proofs.leads.lead_reply.Goals as goal

pub returns-clause-means : goal.returns-clause-means
returns-clause-means c = rw (c.exceptions_of.ensures) at c.reply_code.ensures.means
