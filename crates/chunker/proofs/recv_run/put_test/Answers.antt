use Rattle.std.proofs.Common.{◌≡◌, ◌∙◌, sym, ap, arith}
use Rattle.cast_stub.specs.declared.recv.RecvOp.TheVariants as op
use Rattle.cast_stub.specs.RecvAppend.{append}
use Rattle.cast_stub.specs.RecvBlock.{code_seen}
use Rattle.cast_stub.proofs.Directions.{receives}
use Rattle.chunker.proofs.Bodies.{pushed}
use Rattle.chunker.proofs.RecvMaking.{tested_some}
use Rattle.chunker.proofs.recv_run.put_test.Goals as goal

pub returns : goal.returns
returns c r =
    pushed receives c.args.out.now c.push.new.self (op.Need c.args.seen) r c.in_ok-push.ensures.ok
    ∙ ap (append (code_seen c.args.out.now)) (sym (tested_some c.args.seen r (λ (e : c.args.seen ≡ 0).
    omega (arith, e, c.if-seen-eq0.false))))
