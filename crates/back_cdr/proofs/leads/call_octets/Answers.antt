use Rattle.back_cdr.specs.Targets.{target_of}
use Rattle.back_cdr.proofs.Short.{key_short, name_short}
use Rattle.back_cdr.proofs.leads.call_octets.Goals as goal

pub request-requires-clause-key : goal.request-requires-clause-key
request-requires-clause-key c =
    key_short c.operation_of.result.0.now c.operation_of.result.1.now (target_of c.args.bound.now c.args.op) c.operation_of.ensures
    (c.names_are_short.ensures c.args.op)

pub request-requires-clause-name : goal.request-requires-clause-name
request-requires-clause-name c =
    rw c.as_slice.ensures
    (name_short c.operation_of.result.0.now c.operation_of.result.1.now (target_of c.args.bound.now c.args.op) c.operation_of.ensures
    (c.names_are_short.ensures c.args.op))
