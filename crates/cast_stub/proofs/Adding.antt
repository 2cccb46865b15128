-- One operation more after a code.
use Rattle.cast_stub.proofs.Appending.{code_seen-append}
use Rattle.cast_stub.proofs.RecvAppending as received

pub ruleset adding = (code_seen-append)

pub ruleset adding_received = (received.code_seen-append)
