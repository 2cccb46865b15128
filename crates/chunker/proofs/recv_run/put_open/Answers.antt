use Rattle.std.proofs.Common.{◌≡◌, ◌∙◌, length, sym, ap, arith}
use Rattle.cast_stub.specs.declared.recv.RecvOp.TheVariants as op
use Rattle.cast_stub.specs.RecvAppend.{append}
use Rattle.cast_stub.specs.RecvBlock.{code_seen}
use Rattle.cast_stub.proofs.Directions.{receives}
use Rattle.chunker.proofs.Bodies.{pushed}
use Rattle.chunker.proofs.RecvMaking.{taken_some}
use Rattle.chunker.proofs.recv_run.put_open.Goals.{else-size-eq0-via-then-size-eq0+else-len-eq0, else-size-eq0-via-else-size-eq0}
use Rattle.chunker.proofs.recv_run.put_open.Goals as goal

pub returns : goal.returns
returns c r =
    let some : c.args.size ≡ 0 → length c.args.gets ≡ 0 → ⊥ = λ (e : c.args.size ≡ 0) (f : length c.args.gets ≡ 0).
    elim c.else-size-eq0.branch [
      | else-size-eq0-via-then-size-eq0+else-len-eq0 w ↦ omega (arith, f, w.len.ensures, w.if-len-eq0.false)
      | else-size-eq0-via-else-size-eq0 w ↦ omega (arith, e, w.if-size-eq0.false)
    ] in
    pushed receives c.args.out.now c.push.new.self (op.Take c.args.size c.args.gets) r c.in_ok-push.ensures.ok
    ∙ ap (append (code_seen c.args.out.now)) (sym (taken_some c.args.size c.args.gets r some))
