use Rattle.back_xdr.proofs.Coding.{leads_made, chunks_made}
use Rattle.back_xdr.proofs.leads.code_of.Goals as goal

pub returns-clause-means : goal.returns-clause-means
returns-clause-means c = leads_made c.chunk_of.result c.args.numbers.now c.chunk_of.ensures

pub returns-clause-chunks : goal.returns-clause-chunks
returns-clause-chunks c = chunks_made c.chunk_of.result c.args.numbers.now c.chunk_of.ensures
