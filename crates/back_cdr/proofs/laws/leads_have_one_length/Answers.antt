use Rattle.back_cdr.proofs.Growing.{call_length, reply_length}
use Rattle.back_cdr.proofs.laws.leads_have_one_length.Goals as goal

pub returns : goal.returns
returns c m r t = record { requests = λ body. call_length m body r t; replies = reply_length m r t }
