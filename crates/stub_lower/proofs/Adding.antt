-- One operation more after a code.
use Rattle.cast_stub.proofs.Appending.{code_seen-append}

pub ruleset adding = (code_seen-append)
