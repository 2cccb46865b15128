use Rattle.std.proofs.Common.{drop}
use Rattle.stub_receiver.specs.Drawn.{array_at}
use Rattle.stub_receiver.proofs.Blocking.{Left}
use Rattle.stub_receiver.proofs.blocks.numbers_at.Given as goal

abbrev pub invariant-loop : goal.invariant-loop
invariant-loop l = Left (array_at l.mint l.id) l.order l.width l.n l.view.near (drop l.view.pos l.view.octets) l.row l.counter l.off
