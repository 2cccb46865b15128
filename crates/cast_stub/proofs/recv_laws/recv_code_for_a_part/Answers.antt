use Rattle.cast_stub.proofs.RecvRebasing.{fill-rebase}
use Rattle.cast_stub.proofs.recv_laws.recv_code_for_a_part.Goals as goal

pub returns : goal.returns
returns c = fill-rebase
