-- Each operation that receives before what follows it.
use Rattle.cast_stub.proofs.RecvPieces.{pieces}

pub ruleset leaving = (pieces)
