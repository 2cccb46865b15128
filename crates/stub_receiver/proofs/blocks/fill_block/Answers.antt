use Rattle.std.proofs.Common.{◌≤◌, ◌*◌}
use Rattle.stub_receiver.specs.Drawn.{array_at}
use Rattle.stub_receiver.specs.Ran.{place_of}
use Rattle.stub_receiver.proofs.Blocking.{block_near, block_gives, place_after}
use Rattle.stub_receiver.proofs.blocks.fill_block.Goals as goal

pub returns-clause-done : goal.returns-clause-done
returns-clause-done c =
    let near : c.args.n * c.args.width ≤ c.args.view.now.near = block_near c.args.order c.args.width (array_at c.args.mint.now c.args.id)
    c.args.n (place_of c.args.view.now) c.requires.width c.requires.holds in
    block_gives c.args.order c.args.width (array_at c.args.mint.now c.args.id) c.args.n (place_of c.args.view.now) c.requires.width
    c.args.mint.now c.in_ok-row.row (place_of c.take.new.self) near c.in_ok-row.ensures.numbers c.in_ok-row.ensures.kind
    (place_after c.args.view.now c.take.new.self (c.args.n * c.args.width) c.take.ensures.pos c.take.ensures.near c.take.ensures.tests
    c.take.ensures.octets)
