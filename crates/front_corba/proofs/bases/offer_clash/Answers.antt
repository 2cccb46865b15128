use Rattle.std.proofs.Common.{◌≡◌, ◌∙◌, map, sym, ap, subst}
use Rattle.std.specs.Prelude.{IfOk}
use Rattle.front_corba.specs.Held.{plain_offer}
use Rattle.front_corba.specs.Offers.{case_clash}
use Rattle.front_corba.proofs.Indexing.{clash_none}
use Rattle.front_corba.proofs.bases.offer_clash.Goals as goal

pub returns-in_default : goal.returns-in_default
returns-in_default c =
    let o = plain_offer c.args.offer.now in
    let ops = map plain_offer c.args.ops.now in
    subst (λ z. IfOk c.case_clash.result (λ f. f ≡ z))
    (ap (λ z. case_clash z ops) c.as_slice.ensures ∙ clash_none o ops (sym c.in_default.is ∙ c.in_ok-there.ensures)) c.case_clash.ensures
