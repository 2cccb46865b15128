use Rattle.back_mach.specs.Routines.{routine_of}
use Rattle.back_mach.proofs.Coding.{requests_lead, requests_chunk}
use Rattle.back_mach.proofs.leads.lead_call.Goals as goal

pub returns-clause-means : goal.returns-clause-means
returns-clause-means c = requests_lead c.request_code.result (routine_of c.args.bound.now c.args.op)
    (rw c.routine_of.ensures at c.request_code.ensures)

pub returns-clause-chunks : goal.returns-clause-chunks
returns-clause-chunks c = requests_chunk c.request_code.result (routine_of c.args.bound.now c.args.op)
    (rw c.routine_of.ensures at c.request_code.ensures)
