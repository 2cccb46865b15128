use Rattle.std.proofs.Common.{refl, ◌∙◌}
use Rattle.cast_stub.specs.RecvBlock.{op_seen}
use Rattle.cast_stub.proofs.Directions.{receives}
use Rattle.chunker.proofs.Bodies.{pushed}
use Rattle.chunker.proofs.recv_run.put_other.Goals as goal

pub returns : goal.returns
returns c = record {
  made = λ r. pushed receives c.close.new.run.out c.push.new.self c.args.op r c.in_ok-push.ensures.ok
      ∙ c.in_ok-close.ensures.made (op_seen c.args.op r);
  phase = refl;
  shut = record { size = c.in_ok-close.ensures.shut.size; gets = c.in_ok-close.ensures.shut.gets; seen = c.in_ok-close.ensures.shut.seen };
}
