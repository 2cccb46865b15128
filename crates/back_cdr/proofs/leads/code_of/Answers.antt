use Rattle.back_cdr.proofs.Coding.{leads_made, chunks_made}
use Rattle.back_cdr.proofs.leads.code_of.Goals as goal

pub returns-clause-means : goal.returns-clause-means
returns-clause-means c =
    leads_made c.chunks_of.result c.args.order c.args.place c.args.octets.now c.requires.many c.chunks_of.ensures

pub returns-clause-chunks : goal.returns-clause-chunks
returns-clause-chunks c = chunks_made c.chunks_of.result c.args.order c.args.place c.args.octets.now c.chunks_of.ensures
