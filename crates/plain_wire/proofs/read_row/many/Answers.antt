use Rattle.std.proofs.Common.{rules}
use Rattle.plain_wire.proofs.RowWords.{each_octet}
use Rattle.plain_wire.proofs.read_row.many.Goals as goal

pub returns-clause-octets : goal.returns-clause-octets
returns-clause-octets c = each_octet c.args.octets.now (λ i. search (rules, c.type_inv.octets))
