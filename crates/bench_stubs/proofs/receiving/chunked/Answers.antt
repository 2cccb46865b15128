use Rattle.std.proofs.lemmas.Result.{IfOk-weaker}
use Rattle.wire_def.specs.declared.encoding.Encoding.TheVariants.{Xdr}
use Rattle.mint.specs.Types.{type_at}
use Rattle.cast_stub.specs.declared.recv.RecvCode.{RecvCode}
use Rattle.bench_stubs.proofs.receiving.chunked.Goals as goal

pub returns : goal.returns
returns c = IfOk-weaker c.chunk_recv.result _ _ (λ (code : RecvCode) h. h Xdr (type_at c.args.table.now c.args.id) c.in_ok-flat.ensures)
    c.chunk_recv.ensures.sound
