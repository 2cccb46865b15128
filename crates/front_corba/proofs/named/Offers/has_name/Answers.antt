use Rattle.std.proofs.Common.{◌∙◌, map, ap}
use Rattle.idl_names.specs.Names.{has}
use Rattle.front_corba.specs.Held.{plain_offer}
use Rattle.front_corba.specs.Offers.{offer_names}
use Rattle.front_corba.proofs.Indexing.{names_are}
use Rattle.front_corba.proofs.named.Offers.has_name.Goals as goal

pub returns : goal.returns
returns c =
    let name = c.args.name.now in
    c.has.ensures ∙ c.self.invariant.exact name ∙ ap (has name) (names_are c.self.inside.list)
    ∙ ap (λ z. has name (offer_names (map plain_offer z))) c.self.view_is
