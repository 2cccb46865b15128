use Rattle.cast_stub.proofs.RecvAppending.{fill-append}
use Rattle.cast_stub.proofs.recv_laws.recv_code_after_code.Goals as goal

pub returns : goal.returns
returns c = fill-append
