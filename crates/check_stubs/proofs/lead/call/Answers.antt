use Rattle.check_stubs.proofs.Readying.{lead_ready}
use Rattle.check_stubs.proofs.lead.call.Goals as goal

pub returns : goal.returns
returns c = lead_ready c.lead_call.result _ c.lead_call.ensures.means c.lead_call.ensures.chunks
