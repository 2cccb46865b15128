use Rattle.std.proofs.Common.{◌∙◌, map, ap}
use Rattle.idl_names.specs.Names.{has}
use Rattle.corba_scopes.specs.Names.{lower}
use Rattle.front_corba.specs.Held.{plain_offer}
use Rattle.front_corba.specs.Offers.{offer_names}
use Rattle.front_corba.proofs.Indexing.{names_are}
use Rattle.front_corba.proofs.named.Offers.has_lower.Goals as goal

pub returns : goal.returns
returns c =
    let small = c.args.small.now in
    c.has.ensures ∙ c.self.invariant.small small ∙ ap (λ z. has small (map lower z)) (names_are c.self.inside.list)
    ∙ ap (λ z. has small (map lower (offer_names (map plain_offer z)))) c.self.view_is
