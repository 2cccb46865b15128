use Rattle.std.proofs.Common.{◌∙◌, true, false, map, sym, ap}
use Rattle.std.specs.Option.{is_some}
use Rattle.idl_names.specs.Names.{has}
use Rattle.front_corba.specs.Held.{plain_offer}
use Rattle.front_corba.specs.Offers.{offer_names}
use Rattle.front_corba.proofs.Indexing.{at_there, origin_there, sought_named, sought_none, sought_there}
use Rattle.front_corba.proofs.named.Offers.sought.Goals as goal

pub returns-then-is_at : goal.returns-then-is_at
returns-then-is_at c =
    let o = plain_offer c.args.offer.now in
    let ops = map plain_offer c.args.self.now in
    sought_there o ops (at_there o ops c.args.guess.now.place (sym c.is_at.ensures ∙ c.if-is_at.true))

pub returns-then-not-has_name : goal.returns-then-not-has_name
returns-then-not-has_name c =
    let o = plain_offer c.args.offer.now in
    sought_none o (map plain_offer c.args.self.now)
    (ap (λ z. has z (offer_names (map plain_offer c.args.self.now))) (sym c.as_slice-name.ensures)
    ∙ sym c.has_name.ensures ∙ c.if-not-has_name.true)

pub returns-in-Some : goal.returns-in-Some
returns-in-Some c =
    let o = plain_offer c.args.offer.now in
    sought_there o (map plain_offer c.args.self.now)
    (sym (origin_there c.args.offer.now c.args.self.now c.self.inside.list c.as_slice-name.result.now c.self.inside.names
    c.self.inside.folded c.self.inside.origins true c.as_slice-name.ensures c.self.invariant c.self.view_is
    (sym (ap is_some c.in-Some.is) ∙ c.in_ok-place.ensures)))

pub returns-in-None : goal.returns-in-None
returns-in-None c =
    let o = plain_offer c.args.offer.now in
    sought_named o (map plain_offer c.args.self.now) false
    (ap (λ z. has z (offer_names (map plain_offer c.args.self.now))) (sym c.as_slice-name.ensures)
    ∙ sym c.has_name.ensures ∙ c.if-not-has_name.false)
    (origin_there c.args.offer.now c.args.self.now c.self.inside.list c.as_slice-name.result.now c.self.inside.names
    c.self.inside.folded c.self.inside.origins false c.as_slice-name.ensures c.self.invariant c.self.view_is
    (sym (ap is_some c.in-None.is) ∙ c.in_ok-place.ensures))
