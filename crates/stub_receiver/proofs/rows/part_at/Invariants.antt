use Rattle.std.proofs.Common.{◌≡◌, drop}
use Rattle.cast_stub.specs.Fill.{part}
use Rattle.stub_receiver.specs.Drawn.{drawn}
use Rattle.stub_receiver.proofs.rows.part_at.Given as goal

abbrev pub invariant-loop-n : goal.invariant-loop-n
invariant-loop-n l = part l.n-items (drawn l.mint l.draft) ≡ part (drop l.n-index l.n-items) (drawn l.mint l.here)
