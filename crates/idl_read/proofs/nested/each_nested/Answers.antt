use Rattle.std.proofs.Common.{◌∙◌, sym, length, arith}
use Rattle.idl_read.specs.Reading.{many}
use Rattle.idl_read.proofs.Loops.{goes_on}
use Rattle.idl_read.proofs.nested.each_nested.Goals as goal

pub items-preserved : goal.items-preserved
items-preserved g c =
    let goes = g.T.Nested.goes in
    let within = g.T.Nested.within in
    rw c.in_ok-push.ensures.ok (goes_on goes (within c.args.levels) (length c.args.tokens.now) c.items.counter c.items.items
    c.items.rest.now (many goes (within c.args.levels) c.args.tokens.now) c.in_ok-item.item c.in_ok-item.tail.now c.items.invariant
    (omega arith) (sym c.is_next.ensures ∙ c.if-not-is_next.false) c.in_ok-item.ensures)
