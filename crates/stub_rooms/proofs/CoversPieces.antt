-- Each operation before what follows it.
use Rattle.cast_stub.proofs.Pieces.{pieces}

pub ruleset seen = (pieces)
