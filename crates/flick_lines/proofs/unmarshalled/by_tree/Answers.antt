use Rattle.flick_engine.specs.Received.{asked}
use Rattle.flick_lines.proofs.Written.{record-written}
use Rattle.flick_lines.proofs.unmarshalled.by_tree.Goals as goal

pub returns : goal.returns
returns c =
    record-written c.args.engine.now.binding (asked c.args.request.now) _ _ c.requires.op
    (rw c.bound.ensures.value at c.in_ok-record.ensures) c.in_ok-to_vec.ensures.text
