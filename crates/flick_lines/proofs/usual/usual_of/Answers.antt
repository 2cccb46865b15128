use Rattle.json_shape.specs.Requests.{request_of}
use Rattle.flick_lines.proofs.WithoutTrees.{usual-line}
use Rattle.flick_lines.proofs.usual.usual_of.Goals as goal

pub returns-in-Ok-clause-request : goal.returns-in-Ok-clause-request
returns-in-Ok-clause-request c =
    usual-line (request_of c.args.engine.now.binding) c.args.line.now c.in-Ok.text.now c.direct_request.result c.in-Ok.ensures.cases
    (rw c.bound.ensures.value at c.direct_request.ensures.request)
