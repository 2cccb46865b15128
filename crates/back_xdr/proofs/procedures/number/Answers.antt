use Rattle.aoi.specs.Plain.{plain_interface}
use Rattle.wire_def.specs.declared.encoding.Back.TheVariants as back
use Rattle.pres.specs.Offers.{gotten}
use Rattle.back_xdr.proofs.Counting.{number_at}
use Rattle.back_xdr.proofs.procedures.number.Goals as goal

pub returns-then-place-ops : goal.returns-then-place-ops
returns-then-place-ops c =
    rw c.as_slice-ops.ensures (number_at c.args.i.now.ops (gotten back.Xdr (plain_interface c.args.i.now)) c.args.place
    c.index-ops-place.result (rw c.as_slice-ops.ensures at c.if-place-ops.true))
