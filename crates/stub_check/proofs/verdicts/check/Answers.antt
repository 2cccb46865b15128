use Rattle.std.proofs.Common.{inl}
use Rattle.stub_check.proofs.AsGood.{yes_good}
use Rattle.stub_check.proofs.verdicts.check.Goals as goal

pub returns-then-branch-clause-good : goal.returns-then-branch-clause-good
returns-then-branch-clause-good c = λ yes table.
    yes_good c.args.mint.now c.args.id c.args.kept.now c.args.code.now table c.requires.kept
    (inl (c.in_ok-is_same_code.ensures.0 c.if-branch.true))
