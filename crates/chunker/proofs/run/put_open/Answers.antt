use Rattle.std.proofs.Common.{◌≡◌, ◌∙◌, length, sym, ap, arith}
use Rattle.cast_stub.specs.declared.send.SendOp.TheVariants as op
use Rattle.cast_stub.specs.Append.{append}
use Rattle.cast_stub.specs.Block.{code_seen}
use Rattle.cast_stub.proofs.Directions.{sends}
use Rattle.chunker.proofs.Bodies.{pushed}
use Rattle.chunker.proofs.Making.{chunk_some}
use Rattle.chunker.proofs.run.put_open.Goals as goal

pub returns : goal.returns
returns c r =
    pushed sends c.args.out.now c.push.new.self (op.Chunk c.args.size c.args.puts) r c.in_ok-push.ensures.ok
    ∙ ap (append (code_seen c.args.out.now)) (sym (chunk_some c.args.size c.args.puts r (λ (e : length c.args.puts ≡ 0).
    omega (arith, e, c.len.ensures, c.if-len-eq0.false))))
