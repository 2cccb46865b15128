use Rattle.std.proofs.Common.{◌∙◌, ap, inr, sym}
use Rattle.std.specs.Prelude.{Err}
use Rattle.front_onc.proofs.Offers.{offer_ok, offer_twice}
use Rattle.front_onc.proofs.state.Resolver.offer.Goals as goal

pub returns-in-Ok-clause-value : goal.returns-in-Ok-clause-value
returns-in-Ok-clause-value c =
    offer_ok c.args.d c.args.i _ c.args.self.now c.add_interface.new.self c.add_interface.result _ c.add_interface.ensures.twice
    c.in-Ok.is c.in-Ok.ensures.ok c.self.view_is

pub returns-in-Err-Twice-clause-value : goal.returns-in-Err-Twice-clause-value
returns-in-Err-Twice-clause-value c =
    inr (offer_twice c.args.d c.args.i _ c.args.self.now c.add_interface.result c.add_interface.ensures.twice
    (c.in-Err-Twice.is ∙ ap (λ z. Err z) c.in-Err-Twice.field-0-is) c.self.view_is ∙ ap (λ z. Err z) (sym c.fault.ensures))
