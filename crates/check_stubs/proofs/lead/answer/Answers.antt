use Rattle.check_stubs.proofs.Readying.{answer_ready}
use Rattle.check_stubs.proofs.lead.answer.Goals as goal

pub returns : goal.returns
returns c = answer_ready _ c.lead_reply.result c.lead_reply.ensures.means c.lead_reply.ensures.chunks
