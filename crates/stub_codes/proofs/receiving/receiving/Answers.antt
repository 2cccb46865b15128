use Rattle.std.proofs.Common.{◌<◌, length, arith}
use Rattle.mint.specs.Types.{type_at}
use Rattle.cast_stub.specs.Layouts.{layout_of}
use Rattle.stub_round.proofs.Received.{kept}
use Rattle.stub_codes.proofs.RecvChunks.{receives_chunked}
use Rattle.stub_codes.proofs.receiving.receiving.Goals as goal

pub inline_recv-requires-clause-id : goal.inline_recv-requires-clause-id
inline_recv-requires-clause-id c = omega (arith, c.requires.id, c.requires.subs.many)

pub inline_recv-requires-clause-types : goal.inline_recv-requires-clause-types
inline_recv-requires-clause-types c = (c.args.mint.now, c.types_are_sound.ensures, c.requires.subs.traces)

pub rows_recv-requires-clause-given : goal.rows_recv-requires-clause-given
rows_recv-requires-clause-given c =
    record {
      below = c.args.id;
      goes = c.in_ok-flat.ensures.turned (layout_of c.args.enc) c.args.mint.now
          (c.types_are_sound.ensures c.args.id) c.requires.subs.turned;
      subs = c.in_ok-flat.ensures.subs;
    }

pub returns : goal.returns
returns c =
    let known : c.args.id < length c.args.subs.now = omega (arith, c.requires.id, c.requires.subs.many) in
    let sound = kept c.args.enc c.args.mint.now c.args.subs.now c.args.id c.in_ok-flat.flat known c.requires.subs.sound
    c.in_ok-flat.ensures.same in
    receives_chunked c.args.enc (type_at c.args.mint.now c.args.id) c.phase_of.result c.args.id c.in_ok-flat.flat c.in_ok-rowed.rowed
    c.chunk_recv.result
    (c.in_ok-flat.ensures.turned (layout_of c.args.enc) c.args.mint.now (c.types_are_sound.ensures c.args.id) c.requires.subs.turned)
    c.in_ok-rowed.ensures.rowed (c.in_ok-rowed.ensures.sound sound) c.in_ok-rowed.ensures.calls c.in_ok-rowed.ensures.subs
    c.phase_of.ensures.within c.phase_of.ensures.all c.chunk_recv.ensures.sound c.chunk_recv.ensures.others c.chunk_recv.ensures.few
