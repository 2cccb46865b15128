use Rattle.std.proofs.Common.{subst}
use Rattle.stub_codes.specs.Stubs.{IsCoded}
use Rattle.stub_codes.proofs.codes.Codes.codes_match_operations.Goals as goal

pub returns : goal.returns
returns c = subst IsCoded c.self.view_is c.self.invariant
