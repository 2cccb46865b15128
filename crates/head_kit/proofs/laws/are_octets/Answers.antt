use Rattle.std.proofs.Common.{rules}
use Rattle.head_kit.proofs.Exact.{all_octets}
use Rattle.head_kit.proofs.laws.are_octets.Goals as goal

pub returns : goal.returns
returns c = all_octets c.args.message.now (λ i. search (rules, c.type_inv.message))
