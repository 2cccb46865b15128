use Rattle.std.proofs.Common.{◌<◌, length, arith}
use Rattle.std.proofs.lemmas.Result.{IfOk-weaker}
use Rattle.wire_def.specs.declared.encoding.Encoding.TheVariants.{Xdr}
use Rattle.cast_stub.specs.Layouts.{layout_of}
use Rattle.cast_stub.specs.declared.recv.RecvCode.{RecvCode}
use Rattle.stub_round.proofs.Received.{kept}
use Rattle.bench_stubs.proofs.in_rows.receiving.Goals as goal

pub rows_recv-requires-clause-given : goal.rows_recv-requires-clause-given
rows_recv-requires-clause-given c =
    record {
      below = c.args.id;
      goes = c.in_ok-flat.ensures.turned (layout_of Xdr) c.args.table.now (c.types_are_sound.ensures c.args.id) c.in_ok-subs.ensures.rows;
      subs = c.in_ok-flat.ensures.subs;
    }

pub returns : goal.returns
returns c =
    let lt : c.args.id < length c.in_ok-subs.subs = omega (arith, c.requires, c.in_ok-subs.ensures.many) in
    IfOk-weaker c.rows_recv.result _ _ (λ (code : RecvCode) h. h
    (kept Xdr c.args.table.now c.in_ok-subs.subs c.args.id c.in_ok-flat.flat lt c.in_ok-subs.ensures.sound c.in_ok-flat.ensures.same))
    c.rows_recv.ensures.sound
