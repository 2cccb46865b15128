use Rattle.std.proofs.Common.{◌∙◌, map, sym}
use Rattle.front_corba.specs.Held.{plain_offer}
use Rattle.front_corba.proofs.Indexing.{there_none}
use Rattle.front_corba.proofs.named.Offers.is_there.Goals as goal

pub returns-in-None : goal.returns-in-None
returns-in-None c =
    there_none (plain_offer c.args.offer.now) (map plain_offer c.args.self.now) (sym c.in-None.is ∙ c.in_ok-there.ensures)
