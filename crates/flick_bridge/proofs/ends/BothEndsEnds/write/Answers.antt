use Rattle.mint.specs.Values.{seen}
use Rattle.flick_bridge.specs.Bridged.{Bridging}
use Rattle.flick_bridge.proofs.Reading.{short_told, written_below, written_told, written_typed}
use Rattle.flick_bridge.proofs.ends.BothEndsEnds.write.Goals as goal

pub marshal-requires-clause-op : goal.marshal-requires-clause-op
marshal-requires-clause-op c =
    let t : Bridging = record { from = c.self.inside.from.now; to = c.self.inside.to.now } in
    written_below c.args.self.now t c.self.view_is c.self.invariant c.args.op c.args.head.now (seen c.args.value.now) c.requires.paired

pub marshal-requires-clause-typed : goal.marshal-requires-clause-typed
marshal-requires-clause-typed c =
    let t : Bridging = record { from = c.self.inside.from.now; to = c.self.inside.to.now } in
    written_typed c.args.self.now t c.self.view_is c.self.invariant c.args.op c.args.head.now (seen c.args.value.now) c.requires.paired

pub returns-in-Ok-from_slice-clause-ok : goal.returns-in-Ok-from_slice-clause-ok
returns-in-Ok-from_slice-clause-ok c =
    let t : Bridging = record { from = c.self.inside.from.now; to = c.self.inside.to.now } in
    written_told c.args.self.now t c.args.op c.args.head.now (seen c.args.value.now) c.in-Ok-from_slice.message c.octets.result.now
    c.marshal.new.buf.done c.self.view_is c.in-Ok-from_slice.ensures c.octets.ensures c.in-Ok-marshal.ensures.ok

pub returns-in-Ok-from_slice-clause-short : goal.returns-in-Ok-from_slice-clause-short
returns-in-Ok-from_slice-clause-short c =
    let t : Bridging = record { from = c.self.inside.from.now; to = c.self.inside.to.now } in
    short_told t c.args.op c.args.head.now (seen c.args.value.now) c.in-Ok-from_slice.message c.octets.result.now
    c.marshal.new.buf.done c.in-Ok-from_slice.ensures c.octets.ensures c.in-Ok-marshal.ensures.ok c.in-Ok-marshal.ensures.short
