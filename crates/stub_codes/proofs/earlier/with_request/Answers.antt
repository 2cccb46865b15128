use Rattle.std.proofs.Common.{◌≡◌, sym, ap, ◌∙◌}
use Rattle.mint.specs.Types.{type_at}
use Rattle.stub_codes.proofs.Again.{receives_again, other_again}
use Rattle.stub_codes.proofs.earlier.with_request.Goals as goal

pub returns-then-request_type_of-clause-recv : goal.returns-then-request_type_of-clause-recv
returns-then-request_type_of-clause-recv c =
    let one : c.request_type_of.result ≡ c.request_type_of-in-Some.result = c.if-request_type_of.true in
    receives_again c.args.bound.now c.args._minor c.args.p c.args.op c.args.stubs.now c.in-Some.stub.now
    c.requires.stubs (sym c.in-Some.ensures)
    (sym c.request_type_of.ensures.type_ ∙ ap (type_at c.args.types.now.mint) one ∙ c.request_type_of-in-Some.ensures.type_)

pub returns-then-request_type_of-clause-other : goal.returns-then-request_type_of-clause-other
returns-then-request_type_of-clause-other c =
    let one : c.request_type_of.result ≡ c.request_type_of-in-Some.result = c.if-request_type_of.true in
    other_again c.args.bound.now c.args._minor c.args.p c.args.op c.args.stubs.now c.in-Some.stub.now
    c.requires.stubs (sym c.in-Some.ensures)
    (sym c.request_type_of.ensures.type_ ∙ ap (type_at c.args.types.now.mint) one ∙ c.request_type_of-in-Some.ensures.type_)
