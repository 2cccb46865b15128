-- Code after code, as the operations are put.
use Rattle.cast_stub.proofs.Appending.{append-stop, append-assoc, code_seen-append}

pub ruleset wholes = (append-stop, append-assoc, code_seen-append)
