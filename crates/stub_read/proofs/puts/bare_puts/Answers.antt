use Rattle.std.proofs.Common.{sym, length, codes}
use Rattle.stub_read.specs.Reading.{word_at}
use Rattle.stub_read.specs.Operations.{put_at, bare_puts_at}
use Rattle.stub_read.proofs.Starting.{turned}
use Rattle.stub_read.proofs.puts.bare_puts.Goals as goal

pub items-preserved : goal.items-preserved
items-preserved c =
    turned (word_at (codes "at ")) (λ u. put_at) (length c.args.text.now) c.items.counter c.items.items
    c.items.rest.now (bare_puts_at c.args.text.now) tt c.in-Some.led.now c.in_ok-item.item c.in_ok-item.tail.now c.push.new.self
    c.items.invariant c.items-test.true (sym c.in-Some.ensures) c.in_ok-item.ensures c.in_ok-push.ensures.ok
