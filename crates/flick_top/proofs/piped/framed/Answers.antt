use Rattle.std.proofs.Common.{rules}
use Rattle.hex.proofs.HexLemmas.{decode_of-encode_lower}
use Rattle.flick_top.proofs.piped.framed.Goals as goal

pub returns-clause-spelled : goal.returns-clause-spelled
returns-clause-spelled c = decode_of-encode_lower c.args.message.now (λ i. search (rules, c.type_inv.message))
