use Rattle.aoi.specs.Plain.{plain_operation, plain_interface}
use Rattle.pres.proofs.Exchange.{one_gotten}
use Rattle.pres.proofs.draft.Draft.draw_gotten.Goals as goal

pub returns-clause-offers : goal.returns-clause-offers
returns-clause-offers c =
    one_gotten c.args.back (plain_interface c.args.i.now) _ c.args.k _ _ _ _ _ c.in_ok-op.op (plain_operation c.in_ok-null.null)
    c.if-not-gets_null.ensures c.requires c.in_ok-op.ensures.grows c.in_ok-null.ensures c.in_ok-op.ensures.op c.in_ok-push.ensures.ok
