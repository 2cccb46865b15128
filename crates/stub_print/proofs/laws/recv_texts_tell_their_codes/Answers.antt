use Rattle.stub_print.proofs.RecvRead.{recv_texts_tell}
use Rattle.stub_print.proofs.laws.recv_texts_tell_their_codes.Goals as goal

pub returns : goal.returns
returns c = recv_texts_tell
