use Rattle.back_xdr.proofs.leads.lead_call.Goals as goal

pub returns-clause-means : goal.returns-clause-means
returns-clause-means c = rw (c.procedure_of-called.ensures) at c.code_of.ensures.means
