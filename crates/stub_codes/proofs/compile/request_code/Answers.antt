use Rattle.std.proofs.Common.{Option, Some, sym, ap, ◌∙◌}
use Rattle.cast_stub.specs.declared.send.SendCode.{SendCode}
use Rattle.stub_codes.proofs.compile.request_code.Goals as goal

pub sending_of-requires-clause-body : goal.sending_of-requires-clause-body
sending_of-requires-clause-body c =
    c.requires.bodies c.args.id c.in-Some-Some.body
    (sym c.in-Some-Some.ensures ∙ ap (λ (o : Option SendCode). Some o) c.in-Some-Some.field-0-is)
