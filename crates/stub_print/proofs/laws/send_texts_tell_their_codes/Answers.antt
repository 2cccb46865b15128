use Rattle.stub_print.proofs.SendRead.{send_texts_tell}
use Rattle.stub_print.proofs.laws.send_texts_tell_their_codes.Goals as goal

pub returns : goal.returns
returns c = send_texts_tell
