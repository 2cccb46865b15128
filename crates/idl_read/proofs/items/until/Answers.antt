use Rattle.std.proofs.Common.{◌∙◌, sym, length, arith}
use Rattle.idl_read.specs.Reading.{begins_other, mark_is, until_at}
use Rattle.idl_read.proofs.Loops.{goes_on}
use Rattle.idl_read.proofs.items.until.Goals as goal

pub items-preserved : goal.items-preserved
items-preserved g c =
    let at = g.T.Production.at in
    rw c.in_ok-push.ensures.ok (goes_on (begins_other (mark_is c.args.close.now)) (at) (length c.args.tokens.now) c.items.counter
    c.items.items c.items.rest.now (until_at c.args.close.now at c.args.tokens.now) c.in_ok-item.item c.in_ok-item.tail.now
    c.items.invariant (omega arith) (sym c.stands_before.ensures ∙ c.if-not-stands_before.false) c.in_ok-item.ensures)
