use Rattle.std.proofs.Common.{sym, subst}
use Rattle.stub_codes.specs.Stubs.{Coded, IsStub}
use Rattle.stub_codes.proofs.codes.Codes.stub.Goals as goal

pub returns-clause-is : goal.returns-clause-is
returns-clause-is c =
    subst (λ (x : Coded). IsStub x.binding x.minor c.args.op c.in-Some.stub.now) c.self.view_is
    (c.self.invariant.each c.args.op c.in-Some.stub.now (sym c.in-Some.ensures))
