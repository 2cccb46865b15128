use Rattle.case_make.proofs.Drawing.{below_is, next_is}
use Rattle.case_make.proofs.maker.Maker.draw.Goals as goal

pub returns-clause-value : goal.returns-clause-value
returns-clause-value c = below_is c.args.many c.args.self.now.state

pub returns-clause-state : goal.returns-clause-state
returns-clause-state c = next_is c.args.self.now.state
