use Rattle.cast_stub.proofs.RecvTests.{tests_add}
use Rattle.cast_stub.proofs.recv_laws.earlier_tests_add.Goals as goal

pub returns : goal.returns
returns c = tests_add
