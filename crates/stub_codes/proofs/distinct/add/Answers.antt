use Rattle.stub_codes.proofs.Alike.{no_other}
use Rattle.stub_codes.proofs.distinct.add.Goals as goal

pub reported-requires : goal.reported-requires
reported-requires c = λ other. no_other _ _ c.requires (c.in-Err.ensures.cause other)
